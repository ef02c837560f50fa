-- Laws of the names of a text's tags: the known ones and the others can be judged apart.
use mathlib.Core.Bool.{Bool, true, false, ◌||◌, not, or_assoc}
use mathlib.Core.List.{List, [], ◌∷◌}
use mathlib.Core.Path.{◌≡◌, refl, ap, ap₂, sym, ◌∙◌}
use Prim.Native.Nat.{ℕ, ◌+◌, ◌≤◌}
use native.Mathlib.Omega.{arith}
use lib.Dec.{eqb}
use lib.ListN.{length, drop, drop_of_length-le}
use lib.Seq.{drop-drop}
use Rattle.std.specs.Prelude.{if◌then◌else◌}
use Rattle.octets.specs.Octets.{Octets, any, same, split, front, trim}
use Rattle.octets.proofs.PartLaws.{split_first, split_next}
use Rattle.octets.proofs.TextLaws.{same_true, true→T}
use Rattle.policy.specs.Tags.{repeats}
use Rattle.policy_tags.specs.code.TagNames.{is_known, add_name, names_of, known_names, unknown_names}
use Rattle.policy_tags.proofs.TagLaws.{no_name}

-- ------------------------------------------------------------------ known and unknown names

-- a name of one kind is none of the other
apart : (n m : Octets) → (is_known n ≡ is_known m → ⊥) → same n m ≡ false
apart n m h = go (same n m) refl
  where
    go : (b : Bool) → same n m ≡ b → same n m ≡ false
    go true e = absurd (h (ap is_known (same_true n m e)))
    go false e = e

differ : (a b : Bool) → a ≡ true → b ≡ false → a ≡ b → ⊥
differ a b p q e = true→T {b = false} (sym q ∙ sym e ∙ p)

-- a known name comes again among the known ones
any_known : (n : Octets) → is_known n ≡ true → (ns : List Octets) → any (same n) ns ≡ any (same n) (known_names ns)
unfolding any known_names
any_known n h [] = refl
any_known n h (m ∷ ns) = go (is_known m) refl (any_known n h ns)
  where
    go : (b : Bool) → is_known m ≡ b → any (same n) ns ≡ any (same n) (known_names ns) → (same n m || any (same n) ns) ≡ any (same n) (if is_known m then m ∷ known_names ns else known_names ns)
    go true e ih = rw (e, ih)
    go false e ih = rw (e, ih, apart n m (differ (is_known n) (is_known m) h e))

-- an unknown one among the others
pub any_unknown : (n : Octets) → is_known n ≡ false → (ns : List Octets) → any (same n) ns ≡ any (same n) (unknown_names ns)
unfolding any unknown_names
any_unknown n h [] = refl
any_unknown n h (m ∷ ns) = go (is_known m) refl (any_unknown n h ns)
  where
    go : (b : Bool) → is_known m ≡ b → any (same n) ns ≡ any (same n) (unknown_names ns) → (same n m || any (same n) ns) ≡ any (same n) (if not (is_known m) then m ∷ unknown_names ns else unknown_names ns)
    go false e ih = rw (e, ih)
    go true e ih = rw (e, ih, apart n m (λ d. differ (is_known m) (is_known n) e h (sym d)))

between_them : (a b c : Bool) → (a || (b || c)) ≡ (b || (a || c))
between_them true true c = refl
between_them true false c = refl
between_them false b c = refl

-- a name repeats among the known ones or among the others
pub repeats_apart : (ns : List Octets) → repeats ns ≡ (repeats (known_names ns) || repeats (unknown_names ns))
unfolding repeats known_names unknown_names
repeats_apart [] = refl
repeats_apart (n ∷ ns) = go (is_known n) refl (repeats_apart ns)
  where
    go : (b : Bool) → is_known n ≡ b → repeats ns ≡ (repeats (known_names ns) || repeats (unknown_names ns))
        → (any (same n) ns || repeats ns) ≡ (repeats (if is_known n then n ∷ known_names ns else known_names ns) || repeats (if not (is_known n) then n ∷ unknown_names ns else unknown_names ns))
    go true e ih = rw (e, any_known n e ns, ih) (sym (or_assoc (any (same n) (known_names ns)) (repeats (known_names ns)) (repeats (unknown_names ns))))
    go false e ih = rw (e, any_unknown n e ns, ih) (between_them (any (same n) (unknown_names ns)) (repeats (known_names ns)) (repeats (unknown_names ns)))

-- ------------------------------------------------------------------ the names of the parts in turn

module _ (s : Octets) (at : ℕ) (p : Octets) (e : p ≡ front (λ x. not (eqb x 59)) (drop at s)) where
  pub names_turn : names_of (split 59 (drop at s)) ≡ add_name (trim p) (names_of (split 59 (drop (at + length p + 1) s)))
  unfolding names_of
  names_turn =
      let place : at + (length p + 1) ≡ at + length p + 1 = omega arith in
      ap names_of (split_first 59 (drop at s))
      ∙ ap₂ (λ (l : Octets) (ns : List Octets). add_name (trim l) ns) (sym e)
      (split_next names_of no_name 59 (drop at s)
      ∙ ap (λ (l : Octets). names_of (split 59 (drop (length l + 1) (drop at s)))) (sym e)
      ∙ ap (λ (l : Octets). names_of (split 59 l)) (drop-drop (length p + 1) at s)
      ∙ ap (λ (k : ℕ). names_of (split 59 (drop k s))) place)

pub names_past : (at : ℕ) (s : Octets) → length s ≤ at → names_of (split 59 (drop at s)) ≡ []
unfolding split names_of
names_past at s h = rw (drop_of_length-le s {i = at} h, ← no_name)
