-- `report_runs::copy_name` meets its contract.
use mathlib.Core.Path.{refl, subst}
use lib.ListN.{get_or}
use borrow.Author.Rules.{rules}
use Rattle.std.specs.Prelude.{Ok}
use Rattle.report_leaves.specs.code.Leaves.{NameTurns}
use Rattle.report_runs.proofs.RunLaws.{named_first, named_more}
use Rattle.report_runs.proofs.copy_name.Goals as goal

pub loop-k-init : goal.loop-k-init
loop-k-init c = let a = c.args in (refl, refl, named_first a.length a.label a.place a.rest.now a.row.now)

pub loop-k-preserved : goal.loop-k-preserved
loop-k-preserved c =
    let m = c.loop-k in
    let a = c.args in
    let turns = subst (λ l. NameTurns m.run.length m.run.label (get_or a.rest.now m.k 0) (Ok l)) c.in-Ok-More.field-0-is c.in-Ok-More.ensures in
    (search rules, refl, named_more a.length a.label a.place a.rest.now a.row.now m.run _ _ m.k _ _ m.invariant.2 m.invariant.1 c.loop-k-test.true c.if-rest-k.false refl turns c.put_one.ensures)
