-- Laws of the asked name of the target that begins at a place, as the code writes and compares it.
use Rattle.std.specs.Prelude.{Ok}
use mathlib.Core.Path.{◌≡◌, ap, sym, ◌∙◌}
use mathlib.Core.Bool.{false, ◌&&◌}
use Prim.Native.Nat.{ℕ, ◌+◌, ◌-◌, ◌≤◌, ◌<◌, min}
use native.Mathlib.Omega.{arith}
use lib.ListN.{length, take, drop, length-take, length-drop, take-append-drop}
use Rattle.octets.specs.Octets.{Octets, octets, lower, same_text}
use Rattle.octets.specs.Lent.{Writes}
use Rattle.octets_append.specs.code.Appending.{Appends}
use Rattle.octets.proofs.TextLaws.{lower_length, lower_lower, uneven, same_text_append}
use Rattle.octets.proofs.LentLaws.{rest_of}
use Rattle.octets.proofs.PartLaws.{clipped}
use Rattle.octets_append.proofs.AppendLaws.{appends_both, appends_whole}
use Rattle.domain.specs.Domain.{Domain, asked_name}

module _ (d : Domain) (at from : ℕ) (e : from ≡ min at (length d)) where
  pub name_size : 7 + (length d - from) ≡ length (asked_name (drop at d))
  unfolding asked_name octets
  name_size = rw (lower_length, length-drop, e) (omega arith)

  pub writes_name : (memory : Octets) → 7 + (length d - from) ≤ length memory → {mid next : ℕ} {prefixed named : Octets}
      → Appends (octets "_dmarc.") 0 memory mid prefixed
      → Appends (lower (take (length d - from) (drop from d))) mid prefixed next named
      → Writes (asked_name (drop at d)) memory (Ok next) named
  unfolding asked_name
  writes_name memory h f g =
      let target : take (length d - from) (drop from d) ≡ drop at d = rest_of d from ∙ ap (λ (n : ℕ). drop n d) e ∙ clipped d at in
      appends_whole (asked_name (drop at d)) memory (omega (arith, name_size))
      (appends_both (octets "_dmarc.") (lower (drop at d)) memory 0 (omega (arith, name_size)) f (rw target at g))

-- ------------------------------------------------------------------ a name that is compared with an asked name

module _ (name : Octets) (d : Domain) where
  pub name_short : length name < 7 → false ≡ same_text name (asked_name d)
  unfolding asked_name octets
  name_short h = sym (uneven name (asked_name d) λ e. omega (arith, e, lower_length d))

  -- by its first seven octets and the others
  pub name_parts : 7 ≤ length name → same_text name (asked_name d) ≡ (same_text (take 7 name) (octets "_dmarc.") && same_text (drop 7 name) d)
  unfolding asked_name octets same_text
  name_parts h =
      let front : length (take 7 name) ≡ 7 = omega (arith, length-take 7 name) in
      ap (λ (n : Octets). same_text n (asked_name d)) (sym (take-append-drop 7 name))
      ∙ same_text_append (take 7 name) (drop 7 name) (octets "_dmarc.") (lower d) front
      ∙ rw (lower_lower d)
