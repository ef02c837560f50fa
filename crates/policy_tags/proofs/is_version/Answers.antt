-- `policy_tags::is_version` meets its contract: the name, and then the value.
use Rattle.std.proofs.Common.{◌∙◌, ap, refl}
use Rattle.octets.specs.Octets.{Octets, octets, same, between, lower_octet, lower}
use Rattle.octets.proofs.TextLaws.{same_word}
use Rattle.policy_tags.specs.code.TagValues.{version}
use Rattle.policy_tags.proofs.TagLaws.{version_part}
use Rattle.policy_tags.proofs.is_version.Goals as goal

pub returns-then-same_text : goal.returns-then-same_text
unfolding octets lower lower_octet between
returns-then-same_text c =
    let t = c.trim_end-trimmed in
    let name = c.front in
    rw (version_part c.args.part.now, ← t.ensures, ← name.ensures, ← same_word name.result.now (octets "v") refl, ← c.same_text.ensures, c.if-same_text.true)
    (c.same_octets.ensures ∙ ap (λ (v : Octets). same v version) c.value_of.ensures)

pub returns-else-same_text : goal.returns-else-same_text
unfolding octets lower lower_octet between
returns-else-same_text c =
    let t = c.trim_end-trimmed in
    let name = c.front in
    rw (version_part c.args.part.now, ← t.ensures, ← name.ensures, ← same_word name.result.now (octets "v") refl, ← c.same_text.ensures, c.if-same_text.false)
