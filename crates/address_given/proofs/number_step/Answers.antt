-- `address_given::number_step` meets its contract.
use mathlib.Core.Path.{refl}
use Rattle.address_check.specs.Numbers.{given_ask, Tells}
use Rattle.address_check.specs.code.View.{step_back}
use Rattle.address_given.proofs.number_step.Goals as goal

pub returns-in-Ask : goal.returns-in-Ask
unfolding Tells step_back given_ask
returns-in-Ask c = λ e. rw (c.in-Ask.is, c.blank-given.ensures) (refl, refl)

pub returns-in-Outcome : goal.returns-in-Outcome
unfolding Tells step_back
returns-in-Outcome c = λ e. rw c.in-Outcome.is c.tell.ensures

pub returns-in-Refused : goal.returns-in-Refused
unfolding Tells step_back
returns-in-Refused c = λ e. rw c.in-Refused.is c.refuse.ensures
