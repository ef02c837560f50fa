-- `field_read::read_field` meets its contract: what is left to read says what the whole says.
use Rattle.std.proofs.Common.{◌≡◌, sym, ◌∙◌, length, arith}
use Rattle.field_states.specs.code.States.{start, reader}
use Rattle.field_read.proofs.ReadLaws.{begins, goes_on, is_wrong, is_deep, is_again, is_over}
use Rattle.field_read.proofs.read_field.Goals as goal

pub loop-at-init : goal.loop-at-init
unfolding start reader
loop-at-init c = begins c.args.text.now

pub returns-in-Err-Wrong : goal.returns-in-Err-Wrong
returns-in-Err-Wrong c =
    let l = c.loop-at in
    c.refuse.ensures ∙ sym (is_wrong c.args.text.now l.r l.at l.invariant (omega arith) (rw c.in-Err-Wrong.field-0-is at (sym c.take_turn.ensures ∙ c.in-Err-Wrong.is)))

pub returns-in-Err-TooDeep : goal.returns-in-Err-TooDeep
returns-in-Err-TooDeep c =
    let l = c.loop-at in
    c.refuse-in-Err-TooDeep.ensures ∙ sym (is_deep c.args.text.now l.r l.at l.invariant (omega arith) (rw c.in-Err-TooDeep.field-0-is at (sym c.take_turn.ensures ∙ c.in-Err-TooDeep.is)))

pub returns-in-Err-Again : goal.returns-in-Err-Again
returns-in-Err-Again c =
    let l = c.loop-at in
    let again = is_again c.args.text.now l.r l.at l.invariant (omega arith) _ (rw c.in-Err-Again.field-0-is at (sym c.take_turn.ensures ∙ c.in-Err-Again.is)) in
    c.refuse-in-Err-Again.ensures ∙ rw (c.saturating_sub.ensures, c.in-Err-Again.field-0-is) (sym again)

pub loop-at-preserved : goal.loop-at-preserved
loop-at-preserved c =
    let l = c.loop-at in
    goes_on c.args.text.now l.r l.at l.invariant (omega arith) _ (sym c.take_turn.ensures ∙ c.in-Ok.is)

pub returns : goal.returns
returns c =
    let l = c.loop-at in
    let last : l.at ≡ length c.args.text.now = omega arith in
    c.read_end.ensures ∙ rw (← last) (sym (is_over c.args.text.now l.r l.at l.invariant c.loop-at-test.false))
