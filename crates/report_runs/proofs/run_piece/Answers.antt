-- `report_runs::run_piece` meets its contract.
use native.Mathlib.Omega.{arith}
use Rattle.report_taken.specs.code.Taking.{largest}
use Rattle.report_runs.proofs.RunLaws.{none_runs, piece_runs, counts_on}
use Rattle.report_runs.proofs.run_piece.Goals as goal

pub returns-in_default : goal.returns-in_default
returns-in_default c = let a = c.args in λ table. none_runs a.s a.rest.now a.row.now

pub end_piece-requires : goal.end_piece-requires
unfolding largest
end_piece-requires c =
    let few = c.count_matching-k.ensures.few in
    let less = c.requires in
    counts_on _ _ _ _ _ _ c.move_on.ensures (omega (arith, few, less))

pub returns : goal.returns
returns c =
    let a = c.args in
    piece_runs a.texts.now a.begins.now a.s a.rest.now a.row.now _ _ _ _ _ _ c.requires c.in-Some.ensures c.find_piece-text.ensures c.count_matching-k.ensures c.move_on.ensures c.end_piece.ensures
