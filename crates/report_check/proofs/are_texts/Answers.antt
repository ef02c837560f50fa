-- `report_check::are_texts` meets its contract.
use Rattle.std.proofs.Common.{◌≡◌, ◌&&◌, not, arith}
use Rattle.std.proofs.lemmas.Grind.{common_steps}
use Rattle.octets.specs.Octets.{is_empty}
use Rattle.report.specs.Report.{good_text, good_texts}
use Rattle.report_check.proofs.FaultLaws.{empty_test}
use Rattle.report_check.proofs.are_texts.Goals as goal

pub returns-then-is_text-2 : goal.returns-then-is_text-2
unfolding good_texts
returns-then-is_text-2 c =
    let a = c.args in
    let first : c.if-not-is_empty.value ≡ (not (is_empty a.organization.now) && not (is_empty a.email.now)) = grind (arith, common_steps, empty_test a.organization.now, empty_test a.email.now) in
    let second : c.if-not-is_empty-2.value ≡ (c.if-not-is_empty.value && good_text a.organization.now) = grind (arith, common_steps) in
    let third : c.if-is_text.value ≡ (c.if-not-is_empty-2.value && good_text a.email.now) = grind (arith, common_steps) in
    let all : good_texts a.organization.now a.email.now a.contact.now ≡ (c.if-is_text.value && good_text a.contact.now) = rw (third, second, first) in
    rw (all, c.if-is_text-2.true, c.is_text-then-is_text-2.ensures)

pub returns-else-is_text-2 : goal.returns-else-is_text-2
unfolding good_texts
returns-else-is_text-2 c =
    let a = c.args in
    let first : c.if-not-is_empty.value ≡ (not (is_empty a.organization.now) && not (is_empty a.email.now)) = grind (arith, common_steps, empty_test a.organization.now, empty_test a.email.now) in
    let second : c.if-not-is_empty-2.value ≡ (c.if-not-is_empty.value && good_text a.organization.now) = grind (arith, common_steps) in
    let third : c.if-is_text.value ≡ (c.if-not-is_empty-2.value && good_text a.email.now) = grind (arith, common_steps) in
    let all : good_texts a.organization.now a.email.now a.contact.now ≡ (c.if-is_text.value && good_text a.contact.now) = rw (third, second, first) in
    rw (all, c.if-is_text-2.false)
