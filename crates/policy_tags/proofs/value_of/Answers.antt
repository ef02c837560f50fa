-- `policy_tags::value_of` meets its contract, test by test.
use Rattle.std.proofs.Common.{◌≡◌, ◌∙◌, ap, arith}
use Rattle.octets.specs.Octets.{is_letter, after, is_blank}
use Rattle.octets.proofs.LentLaws.{rest_of}
use Rattle.policy_tags.proofs.TagLaws.{value_none, value_other, value_found}
use Rattle.policy_tags.proofs.value_of.Goals as goal

pub returns-then-first-eq61 : goal.returns-then-first-eq61
returns-then-first-eq61 c =
    let s = c.args.part.now in
    let u = c.after-rest in
    let e : u.result.now ≡ after is_blank (after is_letter s) = u.ensures ∙ ap (after is_blank) c.after.ensures in
    c.after-then-first-eq61.ensures ∙ ap (after is_blank) (rest_of u.result.now 1) ∙ value_found s u.result.now e (λ z. omega (arith, c.in-len1-up.len_at_least)) c.if-first-eq61.true

pub returns-else-first-eq61 : goal.returns-else-first-eq61
returns-else-first-eq61 c =
    let s = c.args.part.now in
    let u = c.after-rest in
    let e : u.result.now ≡ after is_blank (after is_letter s) = u.ensures ∙ ap (after is_blank) c.after.ensures in
    value_other s u.result.now e (λ z. omega (arith, c.in-len1-up.len_at_least)) c.if-first-eq61.false

pub returns-in-empty : goal.returns-in-empty
returns-in-empty c =
    let u = c.after-rest in
    value_none c.args.part.now u.result.now (u.ensures ∙ ap (after is_blank) c.after.ensures) c.in-empty.len_below
