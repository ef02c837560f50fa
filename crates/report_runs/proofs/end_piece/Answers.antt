-- `report_runs::end_piece` meets its contract.
use mathlib.Core.Path.{subst}
use lib.ListN.{get_or}
use native.Mathlib.Omega.{arith}
use Rattle.std.specs.Prelude.{Ok}
use Rattle.report_words.proofs.PieceSteps.{PieceSays}
use Rattle.report_taken.specs.code.Taking.{largest}
use Rattle.report_runs.proofs.RunLaws.{octet_longer}
use Rattle.report_runs.proofs.end_piece.Goals as goal

pub overflow_add-s : goal.overflow_add-s
unfolding largest
overflow_add-s c = let few = c.requires in record { fits = omega (arith, few) }

pub returns : goal.returns
returns c =
    let a = c.args in
    let ended = subst (λ l. PieceSays a.text.now a.run.state.at (get_or a.rest.now a.run.used 0) (Ok l)) c.in-Ok-Ended.field-0-is c.in-Ok-Ended.ensures in
    λ at_end.
    octet_longer a.run a.rest.now a.row.now (omega (arith, c.if-rest-used.false)) _ (at_end.2 _ _ ended c.in-Ok.ensures) at_end.0 at_end.1 c.requires c.if-turn.false _ _ c.count_on.ensures c.put.ensures
