-- `address_point::settle` meets its contract.
use Rattle.address_check.specs.code.View.{cursor_by, cursor_in}
use Rattle.address_point.proofs.settle.Goals as goal

pub returns-in-NotKnown : goal.returns-in-NotKnown
unfolding cursor_in cursor_by
returns-in-NotKnown c = λ d. rw (c.in-NotKnown.is, c.at.ensures.0)

pub returns-in-PlainNo : goal.returns-in-PlainNo
unfolding cursor_in cursor_by
returns-in-PlainNo c = λ d. rw (c.in-PlainNo.is, c.at-in-PlainNo.ensures.0)

pub returns-in-Inside : goal.returns-in-Inside
unfolding cursor_in cursor_by
returns-in-Inside c = λ d. rw (c.in-Inside.is, c.at-in-Inside.ensures.0)

pub returns-in-Confirmed : goal.returns-in-Confirmed
unfolding cursor_in cursor_by
returns-in-Confirmed c = λ d. rw (c.in-Confirmed.is, c.at-in-Confirmed.ensures.0)

pub returns-in-Replaced : goal.returns-in-Replaced
unfolding cursor_in cursor_by
returns-in-Replaced c = λ d. rw (c.in-Replaced.is, c.at-in-Replaced.ensures.0, c.at-in-Replaced.ensures.1)
