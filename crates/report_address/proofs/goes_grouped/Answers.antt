-- `report_address::goes_grouped` meets its contract.
use Rattle.std.proofs.Common.{◌≡◌, ◌&&◌, ◌+◌, ◌*◌, not, eqb, arith}
use Rattle.std.proofs.lemmas.Grind.{common_steps}
use Rattle.report_form.specs.code.ReportReading.{can_be_grouped, lower_hex, digit_value}
use Rattle.report_address.specs.code.Addresses.{kind_of, only_zero_in, grouped_on}
use Rattle.report_address.proofs.goes_grouped.Goals as goal

pub returns-after-five : goal.returns-after-five
unfolding grouped_on
returns-after-five c =
    let a = c.args in
    let first : c.if-can_group.value ≡ (can_be_grouped (kind_of a.kind) && lower_hex a.x) = grind (arith, common_steps) in
    let second : c.if-is_hex.value ≡ (c.if-can_group.value && not (only_zero_in a.digits a.sixteen)) = grind (arith, common_steps) in
    let all : grouped_on a.kind a.five a.digits a.sixteen a.x ≡ (c.if-is_hex.value && not (a.five && eqb (a.sixteen * 16 + digit_value a.x) 65535)) = rw (second, first) in
    rw (all, c.if-not-is_zero.true) (grind (arith, common_steps))

pub returns-else-not-is_zero : goal.returns-else-not-is_zero
unfolding grouped_on
returns-else-not-is_zero c =
    let a = c.args in
    let first : c.if-can_group.value ≡ (can_be_grouped (kind_of a.kind) && lower_hex a.x) = grind (arith, common_steps) in
    let second : c.if-is_hex.value ≡ (c.if-can_group.value && not (only_zero_in a.digits a.sixteen)) = grind (arith, common_steps) in
    let all : grouped_on a.kind a.five a.digits a.sixteen a.x ≡ (c.if-is_hex.value && not (a.five && eqb (a.sixteen * 16 + digit_value a.x) 65535)) = rw (second, first) in
    rw (all, c.if-not-is_zero.false)
