-- `report_head::put_contact` meets its contract.
use Rattle.std.proofs.Common.{◌≡◌, length, arith}
use Rattle.std.proofs.lemmas.Grind.{common_steps}
use Rattle.octets.specs.Octets.{octets}
use Rattle.report_head.proofs.HeadLaws.{no_contact, a_contact}
use Rattle.report_head.proofs.put_contact.Goals as goal

pub returns-then-is_empty : goal.returns-then-is_empty
returns-then-is_empty c =
    let none : length c.args.contact.now ≡ 0 = grind (arith, common_steps) in
    no_contact c.args.contact.now c.args.out.now c.args.at none

pub returns : goal.returns
unfolding octets
returns c =
    let a = c.args in
    let some : length a.contact.now ≡ 0 → ⊥ = grind (arith, common_steps) in
    a_contact a.contact.now a.out.now a.at some c.put-begin.ensures c.put_escaped_then.ensures
