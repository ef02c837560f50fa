-- `report_address::goes_dotted` meets its contract.
use Rattle.std.proofs.Common.{◌≡◌, ◌&&◌, ◌+◌, ◌*◌, not, leb, arith}
use Rattle.std.proofs.lemmas.Grind.{common_steps}
use Rattle.octets.specs.Octets.{is_digit}
use Rattle.report_form.specs.code.ReportReading.{can_be_dotted, digit_value}
use Rattle.report_address.specs.code.Addresses.{kind_of, only_zero_in, dotted_on}
use Rattle.report_address.proofs.goes_dotted.Goals as goal

pub returns-then-not-is_zero : goal.returns-then-not-is_zero
unfolding dotted_on
returns-then-not-is_zero c =
    let a = c.args in
    let first : c.if-can_dot.value ≡ (can_be_dotted (kind_of a.kind) && is_digit a.x) = grind (arith, common_steps) in
    let second : c.if-is_digit.value ≡ (c.if-can_dot.value && not (only_zero_in a.digits a.sixteen)) = grind (arith, common_steps) in
    let all : dotted_on a.kind a.digits a.ten a.sixteen a.x ≡ (c.if-is_digit.value && leb (a.ten * 10 + digit_value a.x) 255) = rw (second, first) in
    rw (all, c.if-not-is_zero.true) (grind (arith, common_steps))

pub returns-else-not-is_zero : goal.returns-else-not-is_zero
unfolding dotted_on
returns-else-not-is_zero c =
    let a = c.args in
    let first : c.if-can_dot.value ≡ (can_be_dotted (kind_of a.kind) && is_digit a.x) = grind (arith, common_steps) in
    let second : c.if-is_digit.value ≡ (c.if-can_dot.value && not (only_zero_in a.digits a.sixteen)) = grind (arith, common_steps) in
    let all : dotted_on a.kind a.digits a.ten a.sixteen a.x ≡ (c.if-is_digit.value && leb (a.ten * 10 + digit_value a.x) 255) = rw (second, first) in
    rw (all, c.if-not-is_zero.false)
