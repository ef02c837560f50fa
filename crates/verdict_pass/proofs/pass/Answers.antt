-- `verdict_pass::pass` meets its contract.
use Rattle.walk_progress.specs.code.Stops.{reached_in}
use Rattle.verdict_pass.specs.code.Passing.{passed_by, passed_within, passed_in}
use Rattle.verdict_pass.proofs.PassingLaws.{gone}
use Rattle.verdict_pass.proofs.pass.Goals as goal

pub returns-in-Stops : goal.returns-in-Stops
unfolding reached_in passed_by passed_within passed_in
returns-in-Stops c = rw c.in-Stops.is

pub returns-in_default : goal.returns-in_default
returns-in_default c = gone c.args.d.now c.args.w c.stored_number.result c.in_default.not-Stops c.stored_number.ensures
