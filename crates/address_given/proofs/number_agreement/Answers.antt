-- `address_given::number_agreement` meets its contract.
use Rattle.address_check.specs.Numbers.{agreement_number}
use Rattle.address_given.proofs.number_agreement.Goals as goal

pub returns-in-NotKnown : goal.returns-in-NotKnown
unfolding agreement_number
returns-in-NotKnown c = rw c.in-NotKnown.is

pub returns-in-PlainNo : goal.returns-in-PlainNo
unfolding agreement_number
returns-in-PlainNo c = rw c.in-PlainNo.is

pub returns-in-Inside : goal.returns-in-Inside
unfolding agreement_number
returns-in-Inside c = rw c.in-Inside.is

pub returns-in-Confirmed : goal.returns-in-Confirmed
unfolding agreement_number
returns-in-Confirmed c = rw c.in-Confirmed.is

pub returns-in-Replaced : goal.returns-in-Replaced
unfolding agreement_number
returns-in-Replaced c = rw c.in-Replaced.is
