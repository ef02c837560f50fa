-- `report_source::grow` meets its contract.
use borrow.Author.Rules.{rules}
use Rattle.report_source.proofs.SourceLaws.{limit_small, grown_by}
use Rattle.report_source.proofs.grow.Goals as goal

pub overflow_cast-result : goal.overflow_cast-result
overflow_cast-result c = let p = c.requires in let few = limit_small _ p.0 in let unit = c.value_of-unit.ensures in search (rules, few, unit, p.0, p.1, p.2)

pub overflow_cast-result-2 : goal.overflow_cast-result-2
overflow_cast-result-2 c = let p = c.requires in let few = limit_small _ p.0 in let unit = c.value_of-unit.ensures in search (rules, few, unit, p.0, p.1, p.2)

pub returns : goal.returns
returns c = let a = c.args in grown_by a.kind a.digits a.ten a.sixteen a.x _ c.value_of-unit.ensures
