-- `evaluation_open::read_existence` meets its contract.
use Rattle.evaluation_open.specs.code.Opening.{existence_in}
use Rattle.evaluation_open.proofs.OpenLaws.{unknown_in}
use Rattle.evaluation_open.proofs.read_existence.Goals as goal

pub returns-in-0 : goal.returns-in-0
unfolding existence_in
returns-in-0 c = rw c.in-0.is

pub returns-in-1 : goal.returns-in-1
unfolding existence_in
returns-in-1 c = rw c.in-1.is

pub returns-in_default : goal.returns-in_default
returns-in_default c = unknown_in c.args.n c.in_default.in_default-own.rest.0.1 c.in_default.in_default-own.rest.1
