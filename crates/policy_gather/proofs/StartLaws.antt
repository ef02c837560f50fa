-- Laws of the tags of a text, from where its parts after the first begin: they make it a policy record or not.
use mathlib.Core.Bool.{Bool, true, false, ◌&&◌, ◌||◌, not, or-true, or-false}
use mathlib.Core.List.{List, [], ◌∷◌, map}
use mathlib.Core.Path.{◌≡◌, refl, ap, sym, ◌∙◌}
use Prim.Native.Nat.{ℕ, ◌+◌, ◌<◌}
use native.Mathlib.Nat.{zero-add}
use native.Mathlib.Omega.{arith}
use lib.Dec.{eqb}
use lib.ListN.{length, drop}
use borrow.Author.Tests.{not-false}
use Rattle.std.specs.Prelude.{if◌then◌else◌, Some, None}
use Rattle.octets.specs.Octets.{Octets, octets, any, same, split, front}
use Rattle.octets.proofs.PartLaws.{split_first}
use Rattle.policy.specs.Tags.{Tag, later_tags, has_version, parts, repeats, repeats_name, is_record, tag_named}
use Rattle.policy_words.specs.code.Rows.{tag_names, tag_name, position, tag_number}
use Rattle.policy_tags.specs.code.TagNames.{names_of, is_known, known_names, unknown_names}
use Rattle.policy_tags.specs.code.TagValues.{later_parts, tags_at}
use Rattle.policy_tags.proofs.NameLaws.{repeats_apart}
use Rattle.policy_tags.proofs.TagLaws.{names_tags, tags_next}
use Rattle.policy_gather.specs.declared.Gathered.{Gathered}
use Rattle.policy_gather.specs.code.Gathering.{bounds_of, Knows, Gathers}

-- ------------------------------------------------------------------ the tags of a text

pub some_none : {A : Type 0} {a : A} → Some a ≡ None → ⊥
some_none e = cc

pub same_some : {A : Type 0} {a b : A} → Some a ≡ Some b → a ≡ b
same_some e = cc

module _ (s : Octets) where
  pub later : later_tags (parts s) ≡ tags_at (length (front (λ x. not (eqb x 59)) s) + 1) s
  unfolding later_tags parts
  later = rw (split_first 59 s) (simp zero-add at (tags_next 0 s))

  -- where the first part is not that of a policy record
  no_version : later_parts s ≡ None → is_record (parts s) ≡ false
  unfolding later_parts is_record
  no_version = go (has_version (parts s)) refl
    where
      go : (b : Bool) → has_version (parts s) ≡ b → (if has_version (parts s) then Some (length (front (λ x. not (eqb x 59)) s) + 1) else None) ≡ None → (has_version (parts s) && not (repeats_name (later_tags (parts s)))) ≡ false
      go true e h = absurd (some_none (rw e at h))
      go false e h = rw e

  pub no_start : later_parts s ≡ None → Gathers s None
  no_start h = record { judged = sym (no_version h); placed = λ g q. absurd (some_none (sym q)) }

  -- where it is
  module _ (from : ℕ) (e : later_parts s ≡ Some from) where
    begun : (has_version (parts s) ≡ true) × (length (front (λ x. not (eqb x 59)) s) + 1 ≡ from)
    unfolding later_parts
    begun = go (has_version (parts s)) refl e
      where
        go : (b : Bool) → has_version (parts s) ≡ b → (if has_version (parts s) then Some (length (front (λ x. not (eqb x 59)) s) + 1) else None) ≡ Some from
            → (has_version (parts s) ≡ true) × (length (front (λ x. not (eqb x 59)) s) + 1 ≡ from)
        go true q h = (q, same_some (rw q at h))
        go false q h = absurd (some_none (sym (rw q at h)))

    from_start : later_tags (parts s) ≡ tags_at from s
    from_start = later ∙ ap (λ (i : ℕ). tags_at i s) begun.1

    known : List Octets
    known = octets "v" ∷ known_names (names_of (split 59 (drop from s)))

    others : List Octets
    others = unknown_names (names_of (split 59 (drop from s)))

    -- the known names and the others are judged apart
    whole : is_record (parts s) ≡ not (repeats known || repeats others)
    unfolding known others is_record repeats_name tags_at known_names unknown_names is_known tag_number tag_names position octets same
    whole =
        rw begun.0
        (ap (λ (l : List Octets). not (repeats (octets "v" ∷ l))) (ap (map (λ t. t.name)) from_start ∙ names_tags from (split 59 (drop from s)))
        ∙ ap not (repeats_apart (octets "v" ∷ names_of (split 59 (drop from s)))))

    -- ---------------------------------------------------------------- what is gathered of a text

    -- a known name comes again
    pub known_twice : Knows s from None → Gathers s None
    unfolding known
    known_twice w = record {
      judged = sym (whole ∙ ap (λ b. not (b || repeats others)) (not-false (repeats known) (sym w.judged)));
      placed = λ g q. absurd (some_none (sym q));
    }

    -- no name that is not known comes again
    pub once : (g : Gathered) → Knows s from (Some g) → repeats (unknown_names (names_of (split 59 (drop from s)))) ≡ false → Gathers s (Some g)
    unfolding known others
    once g w u = record {
      judged = w.judged ∙ sym (whole ∙ ap (λ b. not (repeats known || b)) u ∙ ap not (or-false (repeats known)));
      placed = λ h q k l. w.placed h q k l ∙ ap (λ (ts : List Tag). bounds_of (tag_named (tag_name k) ts)) (sym from_start);
    }

    -- one does
    pub twice : repeats (unknown_names (names_of (split 59 (drop from s)))) ≡ true → Gathers s None
    unfolding known others
    twice u = record {
      judged = sym (whole ∙ ap (λ b. not (repeats known || b)) u ∙ ap not (or-true (repeats known)));
      placed = λ g q. absurd (some_none (sym q));
    }

    -- there are not two of them
    pub few : (g : Gathered) → Knows s from (Some g) → g.others < 2 → Gathers s (Some g)
    unfolding others repeats any
    few g w l = once g w (short others (omega (arith, w.counted g refl)))
      where
        short : (ns : List Octets) → length ns < 2 → repeats ns ≡ false
        short [] q = refl
        short (n ∷ []) q = refl
        short (n ∷ m ∷ ns) q = absurd (omega arith)
