-- `evaluation_given::number_step` meets its contract.
use Rattle.evaluation_numbers.specs.Numbers.{step_numbers}
use Rattle.evaluation_given.proofs.number_step.Goals as goal

pub returns-in-Ask : goal.returns-in-Ask
unfolding step_numbers
returns-in-Ask c = rw c.in-Ask.is c.ask.ensures

pub returns-in-Verdict : goal.returns-in-Verdict
unfolding step_numbers
returns-in-Verdict c = rw c.in-Verdict.is c.judge.ensures

pub returns-in-Refused : goal.returns-in-Refused
unfolding step_numbers
returns-in-Refused c = rw c.in-Refused.is c.refuse.ensures
