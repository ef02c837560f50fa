-- `report_runs::run_name` meets its contract.
use mathlib.Core.Path.{sym, ◌∙◌}
use native.Mathlib.Omega.{arith}
use Rattle.report_taken.specs.code.Taking.{largest}
use Rattle.report_runs.proofs.RunLaws.{none_runs, name_open, name_runs, counts_on}
use Rattle.report_runs.proofs.run_name.Goals as goal

pub returns-then-node-lt60 : goal.returns-then-node-lt60
returns-then-node-lt60 c = let a = c.args in none_runs a.s a.rest.now a.row.now

pub end_name-requires : goal.end_name-requires
unfolding largest
end_name-requires c =
    let few = c.copy_name-run.ensures.0 in
    let less = c.requires in
    counts_on _ _ _ _ _ _ c.move_on.ensures (omega (arith, few, less))

pub returns : goal.returns
returns c =
    let a = c.args in
    let stands = name_open a.s _ (omega (arith, c.if-node-lt60.false)) (omega (arith, c.if-node-ge64.false)) (sym c.cannot_be.ensures ∙ c.if-cannot_be.false) c.find_name-place.ensures in
    name_runs a.s _ a.rest.now a.row.now _ _ _ _ c.copy_name-run.ensures stands c.requires c.move_on.ensures c.end_name.ensures
