-- `domain_names::is_name` meets its contract.
use mathlib.Core.Path.{◌≡◌, ap, sym, ◌∙◌}
use mathlib.Core.Bool.{true≢false}
use Prim.Native.Nat.{ℕ, ◌-◌}
use lib.ListN.{length, drop, take}
use borrow.Author.Tests.{lt-leb}
use Rattle.octets.specs.Octets.{octets}
use Rattle.octets.proofs.PartLaws.{clipped}
use Rattle.octets.proofs.LentLaws.{rest_of}
use Rattle.domain_names.proofs.NameLaws.{name_short, name_parts}
use Rattle.domain_names.proofs.is_name.Goals as goal
use Rattle.domain_names.proofs.is_name.Goals.{then-name-ge7, else-name-ge7}

pub returns-then-same_text : goal.returns-then-same_text
unfolding octets
returns-then-same_text c =
    let a = c.args in
    let target : take (length a.s.now - c.clip.result.0) (drop c.clip.result.0 a.s.now) ≡ drop a.at.0 a.s.now =
    rest_of a.s.now _ ∙ ap (λ (n : ℕ). drop n a.s.now) c.clip.ensures ∙ clipped a.s.now a.at.0
    in
    elim c.if-name-ge7.branch [
      | then-name-ge7 w ↦
          let front = sym w.same_text.ensures ∙ sym w.value-is ∙ c.if-same_text.true in
          c.same_text-then-same_text.ensures ∙ rw (target, rest_of a.name.now 7) (sym (name_parts a.name.now (drop a.at.0 a.s.now) w.if-name-ge7.true ∙ rw front))
      | else-name-ge7 w ↦ absurd (true≢false (sym c.if-same_text.true ∙ w.value-is ∙ lt-leb _ _ w.if-name-ge7.false))
    ]

pub returns-else-same_text : goal.returns-else-same_text
unfolding octets
returns-else-same_text c =
    let a = c.args in
    elim c.if-name-ge7.branch [
      | then-name-ge7 w ↦
          let front = sym w.same_text.ensures ∙ sym w.value-is ∙ c.if-same_text.false in
          c.if-same_text.false ∙ sym (name_parts a.name.now (drop a.at.0 a.s.now) w.if-name-ge7.true ∙ rw front)
      | else-name-ge7 w ↦ c.if-same_text.false ∙ name_short a.name.now (drop a.at.0 a.s.now) w.if-name-ge7.false
    ]
