-- The loop of `waslidhaj_gather::waslidhaj_gather`.
use Rattle.std.proofs.Common.{◌≡◌, take}
use Rattle.rows_gather.specs.code.Gathered.{rows_in}
use Rattle.waslidhaj_gather.proofs.waslidhaj_gather.Given as goal

abbrev pub invariant-loop-row : goal.invariant-loop-row
invariant-loop-row l = record {
  rows : rows_in l.g ≡ take l.row-index l.row-items;
  count : l.g.count ≡ l.row-index;
}
