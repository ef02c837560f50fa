-- `waslidhaj_gather::waslidhaj_gather` meets its contract.
use Rattle.std.proofs.Common.{◌≡◌, ◌∙◌, take, length, arith}
use Rattle.std.proofs.Math.Seq.{take-length}
use Rattle.std.proofs.lemmas.List.{take_min}
use Rattle.rows.specs.Rows.{on_list}
use Rattle.rows_gather.proofs.GatherLaws.{none_yet, none_counted}
use Rattle.waslidhaj_gather.proofs.waslidhaj_gather.Goals as goal

pub loop-row-init : goal.loop-row-init
loop-row-init c = rw c.none-g.ensures (record { rows = none_yet; count = none_counted })

pub returns : goal.returns
unfolding on_list
returns c =
    let all : c.loop-row.row-index ≡ length (take c.listed.result c.args.rows.now) = omega arith in
    c.loop-row.invariant.rows ∙ rw (all, take-length, c.listed.ensures, take_min)
