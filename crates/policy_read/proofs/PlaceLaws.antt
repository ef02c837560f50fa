-- Each tag's value stands in the text at its place.
use mathlib.Core.Bool.{Bool, true, false}
use mathlib.Core.List.{List, [], ◌∷◌, ◌++◌, append_assoc}
use mathlib.Core.Path.{◌≡◌, refl, ap, sym, ◌∙◌, subst}
use Prim.Native.Nat.{ℕ, suc, ◌+◌, ◌-◌, ◌≤◌}
use native.Mathlib.Omega.{arith}
use lib.Dec.{eqb}
use lib.ListN.{length, take, drop, length-append, length-take, length-drop}
use lib.Seq.{take-append_seam, drop-append_seam, drop-drop}
use Rattle.std.specs.Prelude.{if◌then◌else◌, Option, None, Some}
use Rattle.octets.specs.Octets.{Octets, is_empty, same, onto_first, split, trim_end, trim}
use Rattle.octets.proofs.PartLaws.{split_found, split_other}
use Rattle.policy.specs.declared.Bounds.{Bounds}
use Rattle.policy.specs.Records.{read}
use Rattle.policy.specs.Tags.{Tag, name_and_value, well_formed, tag_of, add_tag, tags_from, tag_named}
use Rattle.policy_tags.specs.code.TagValues.{tags_at}
use Rattle.policy_tags.proofs.TagLaws.{End, end_part, trim_end_front, has_value, some_length}
use Rattle.policy_gather.specs.code.Gathering.{bounds_of}

-- ------------------------------------------------------------------ the parts of a text, one after the other

Placed : Octets → List Octets → Type 0
Placed d [] = Unit
Placed d (p ∷ ps) = ((r : Octets) × (d ≡ p ++ r)) × Placed (drop (suc (length p)) d) ps

placed_onto : (x : ℕ) (xs : Octets) (l : List Octets) → Placed xs l → Placed (x ∷ xs) (onto_first x l)
unfolding Placed onto_first
placed_onto x xs [] w = ((xs, refl), tt)
placed_onto x xs (p ∷ ps) w = ((w.0.0, ap (λ l. x ∷ l) w.0.1), w.1)

placed_split : (c : ℕ) (d : Octets) → Placed d (split c d)
unfolding Placed split
placed_split c [] = (([], refl), tt)
placed_split c (x ∷ xs) = go (placed_split c xs) (eqb x c) refl
  where
    go : Placed xs (split c xs) → (b : Bool) → eqb x c ≡ b → Placed (x ∷ xs) (split c (x ∷ xs))
    go ih true e = rw (split_found c x xs e) ((x ∷ xs, refl), ih)
    go ih false e = rw (split_other c x xs e) (placed_onto x xs (split c xs) ih)

-- ------------------------------------------------------------------ the tags stand at their places

-- a tag's value is not empty, and stands at its place
Stands : Octets → Tag → Type 0
Stands s t = (is_empty t.value ≡ false) × (take (length t.value) (drop t.place s) ≡ t.value)

AllStand : Octets → List Tag → Type 0
AllStand s [] = Unit
AllStand s (t ∷ ts) = Stands s t × AllStand s ts

-- v ends what d begins with: it stands in d after what is before it
stands_in : (d e v w r : Octets) → d ≡ e ++ r → e ≡ w ++ v → take (length v) (drop (length e - length v) d) ≡ v
stands_in d e v w r p q =
    ap (λ k. take (length v) (drop k d)) before
    ∙ ap (λ x. take (length v) (drop (length w) x)) (p ∙ ap (λ x. x ++ r) q ∙ append_assoc w v r)
    ∙ ap (take (length v)) (drop-append_seam w (v ++ r))
    ∙ take-append_seam v r
  where
    before : length e - length v ≡ length w
    before = omega (arith, ap length q, length-append w v)

-- a part that stands at a place of the text: so does its tag's value
stands_tag : (s : Octets) (at : ℕ) (p : Octets) → ((r : Octets) × (drop at s ≡ p ++ r)) → (o : Option (Octets × Octets)) → name_and_value (trim p) ≡ o → (ts : List Tag) → AllStand s ts → AllStand s (add_tag (tag_of at p o) ts)
unfolding tag_of add_tag AllStand Stands End
stands_tag s at p w None e ts a = a
stands_tag s at p w (Some t) e ts a = go (well_formed t) refl
  where
    v : Octets
    v = t.1

    ends : End v (trim_end p)
    ends = end_part p t e

    begins : drop at s ≡ trim_end p ++ ((trim_end_front p).0 ++ w.0)
    begins = w.1 ∙ ap (λ x. x ++ w.0) (trim_end_front p).1 ∙ append_assoc (trim_end p) (trim_end_front p).0 w.0

    here : take (length v) (drop (at + (length (trim_end p) - length v)) s) ≡ v
    here = ap (take (length v)) (sym (drop-drop (length (trim_end p) - length v) at s)) ∙ stands_in (drop at s) (trim_end p) v ends.0 ((trim_end_front p).0 ++ w.0) begins ends.1

    go : (b : Bool) → well_formed t ≡ b → AllStand s (add_tag (if well_formed t then Some (record { name = t.0; value = t.1; place = at + (length (trim_end p) - length t.1) }) else None) ts)
    go true h = rw h ((has_value t h, here), a)
    go false h = rw h a

stands_tags : (s : Octets) (at : ℕ) (ps : List Octets) → Placed (drop at s) ps → AllStand s (tags_from at ps)
unfolding tags_from AllStand Placed
stands_tags s at [] w = tt
stands_tags s at (p ∷ ps) w =
    stands_tag s at p w.0 (name_and_value (trim p)) refl (tags_from (at + suc (length p)) ps)
    (stands_tags s (at + suc (length p)) ps (subst (λ x. Placed x ps) (drop-drop (suc (length p)) at s) w.1))

-- ------------------------------------------------------------------ a tag that was found

-- where there is one, its value is not empty and stands at its place
pub Held : Octets → Option Tag → Type 0
Held s None = Unit
Held s (Some t) = Stands s t

held_named : (s n : Octets) (ts : List Tag) → AllStand s ts → Held s (tag_named n ts)
unfolding tag_named AllStand Held
held_named s n [] a = tt
held_named s n (t ∷ ts) a =
    elim (same t.name n) as (λ b. Held s (if b then Some t else tag_named n ts)) [
      | true ↦ a.0
      | false ↦ held_named s n ts a.1
    ]

pub held_none : (s : Octets) → Held s None
unfolding Held
held_none s = tt

-- so of the tags from a place of the text on
pub held : (s n : Octets) (at : ℕ) → Held s (tag_named n (tags_at at s))
unfolding tags_at
held s n at = held_named s n (tags_at at s) (stands_tags s at (split 59 (drop at s)) (placed_split 59 (drop at s)))

-- its bounds lie in the text
bounds_fit : (s : Octets) (o : Option Tag) → Held s o → (bounds_of o).begin + (bounds_of o).length ≤ length s
unfolding bounds_of Held Stands
bounds_fit s None h = omega arith
bounds_fit s (Some t) h = omega (arith, some_length t.value h.0, ap length h.1, length-take (length t.value) (drop t.place s), length-drop t.place s)

-- and cut the value out
bounds_cut : (s : Octets) (o : Option Tag) → Held s o → take (bounds_of o).length (drop (bounds_of o).begin s) ≡ read [] (λ v. v) o
unfolding bounds_of Held Stands read
bounds_cut s None h = refl
bounds_cut s (Some t) h = h.1

module _ (s : Octets) (o : Option Tag) (h : Held s o) (b : Bounds) (e : b ≡ bounds_of o) where
  pub held_fits : b.begin + b.length ≤ length s
  held_fits = rw e (bounds_fit s o h)

  pub held_cut : take b.length (drop b.begin s) ≡ read [] (λ v. v) o
  held_cut = rw e (bounds_cut s o h)

-- ------------------------------------------------------------------ what a value says

module _ {A : Type 0} (absent : A) (f : Octets → A) where
  pub read_none : (s : Octets) (o : Option Tag) → Held s o → (v : Octets) → v ≡ read [] (λ l. l) o → length v ≡ 0 → absent ≡ read absent f o
  unfolding read Held Stands
  read_none s None h v e z = refl
  read_none s (Some t) h v e z = absurd (some_length t.value h.0 (sym (ap length e) ∙ z))

  pub read_some : (o : Option Tag) (v : Octets) → v ≡ read [] (λ l. l) o → (length v ≡ 0 → ⊥) → f v ≡ read absent f o
  unfolding read
  read_some None v e z = absurd (z (ap length e))
  read_some (Some t) v e z = ap f e

  -- where an empty value reads as absent
  pub read_either : f [] ≡ absent → (o : Option Tag) (v : Octets) → v ≡ read [] (λ l. l) o → f v ≡ read absent f o
  unfolding read
  read_either d None v e = ap f e ∙ d
  read_either d (Some t) v e = ap f e
