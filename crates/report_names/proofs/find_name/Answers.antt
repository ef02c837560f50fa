-- `report_names::find_name` meets its contract.
use Rattle.report_names.proofs.NameTurns.{place_author, place_selector, place_first}
use Rattle.report_names.proofs.find_name.Goals as goal

pub returns-in-60 : goal.returns-in-60
returns-in-60 c = let a = c.args in place_author a.node a.identifiers c.in-60.is

pub returns-in-62 : goal.returns-in-62
returns-in-62 c = let a = c.args in place_selector a.node a.identifiers _ c.min.ensures c.in-62.is

pub returns-in_default : goal.returns-in_default
returns-in_default c = let a = c.args in let others = c.in_default.in_default-own.rest in place_first a.node a.identifiers _ c.min.ensures others.0.1 others.1
