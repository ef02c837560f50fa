-- `policy_repeats::is_unknown` meets its contract: a value, and then the name.
use Rattle.std.proofs.Common.{◌≡◌, ◌∙◌, ap, not, length, arith}
use Rattle.std.proofs.lemmas.Bool.Decides.{nat_tests}
use Rattle.octets.specs.Octets.{Octets, lower}
use Rattle.policy_words.specs.code.Rows.{tag_number}
use Rattle.policy_tags.specs.code.TagNames.{name_of}
use Rattle.policy_repeats.proofs.UnknownLaws.{no_tag, unknown_tag}
use Rattle.policy_repeats.proofs.is_unknown.Goals as goal

pub returns-then-not-is_empty : goal.returns-then-not-is_empty
unfolding name_of
returns-then-not-is_empty c =
    let value = c.tag_value in
    let number = c.tag_number.ensures ∙ ap (λ (l : Octets). tag_number (lower l)) c.front.ensures in
    let some : length value.result.now ≡ 0 → ⊥ = grind (arith, nat_tests) in
    unknown_tag c.args.tag.now value.result.now value.ensures some c.tag_number.result number

pub returns-else-not-is_empty : goal.returns-else-not-is_empty
returns-else-not-is_empty c =
    let none : length c.tag_value.result.now ≡ 0 = grind (arith, nat_tests) in
    ap not c.if-not-is_empty.false ∙ no_tag c.args.tag.now c.tag_value.result.now c.tag_value.ensures none
