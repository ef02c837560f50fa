-- Laws of the two methods.
use mathlib.Core.Path.{◌≡◌, refl, ap, sym, ◌∙◌}
use mathlib.Core.List.{List, ◌∷◌}
use mathlib.Core.Bool.{Bool, true, false, ◌||◌, or-false}
use Prim.Native.Nat.{ℕ, zero, suc, ◌+◌, ◌-◌, ◌/◌, ◌%◌, ◌<◌}
use native.Mathlib.Omega.{arith}
use lib.Dec.{eqb}
use lib.ListN.{get_or-eq_default}
use borrow.Author.Tests.{ne_eqb}
use Rattle.octets.specs.Octets.{Octets, any}
use Rattle.alignment.specs.declared.Kind.{Kind}
use Rattle.alignment.specs.declared.Alignment.{Alignment}
use Rattle.alignment.specs.Alignments.{Identifier, is_aligned}
use Rattle.alignment_stored.specs.code.Stored.{kind_at, identifier_at, stored_identifiers}
use Rattle.alignment.specs.Numbers.{alignment_numbers, alignment_of, alignments_in}
use Rattle.alignment_stored.proofs.StoredLaws.{next_identifier}
use Rattle.evaluation_methods.specs.declared.Methods.{Methods}
use Rattle.book.specs.Book.{of_kind, any_aligned}
use Rattle.evaluation_methods.specs.code.Methods.{add_method, method_in, methods_of}

-- a digit says aligned exactly if it is 1
aligned_digit : (x : ℕ) → eqb x 1 ≡ is_aligned (alignment_of x)
unfolding is_aligned alignment_of
aligned_digit zero = refl
aligned_digit (suc zero) = refl
aligned_digit (suc (suc zero)) = refl
aligned_digit (suc (suc (suc zero))) = refl
aligned_digit (suc (suc (suc (suc x)))) =
    let unlisted : alignment_of (suc (suc (suc (suc x)))) ≡ Alignment.Unknown = get_or-eq_default alignment_numbers Alignment.Unknown {n = suc (suc (suc (suc x)))} (omega arith) in
    ne_eqb (suc (suc (suc (suc x)))) 1 (omega arith) ∙ ap is_aligned (sym unlisted)

-- one identifier more in front
module _ (i : Identifier) (is : List Identifier) (a : Alignment) (found_alignments : List Alignment) where
  methods_next : methods_of (i ∷ is) (a ∷ found_alignments) ≡ add_method i.kind (is_aligned a) (methods_of is found_alignments)
  unfolding methods_of method_in add_method of_kind any any_aligned
  methods_next = go i.kind refl
    where
      go : (k : Kind) → i.kind ≡ k → methods_of (i ∷ is) (a ∷ found_alignments) ≡ add_method k (is_aligned a) (methods_of is found_alignments)
      go Kind.Spf e = rw e
      go Kind.Dkim e = rw e

-- what two parts of a message say together
unfoldable pub merge : Methods → Methods → Methods
merge a b = record {
  dkim = record { given = a.dkim.given || b.dkim.given; aligned = a.dkim.aligned || b.dkim.aligned };
  spf = record { given = a.spf.given || b.spf.given; aligned = a.spf.aligned || b.spf.aligned };
}

swapped : (x y z : Bool) → x || (y || z) ≡ (y || x) || z
swapped true true z = refl
swapped true false z = refl
swapped false true z = refl
swapped false false z = refl

or_yes : (x : Bool) → x || true ≡ true
or_yes true = refl
or_yes false = refl

merge_more : (k : Kind) (aligned : Bool) (m rest : Methods) → merge m (add_method k aligned rest) ≡ merge (add_method k aligned m) rest
unfolding merge add_method
merge_more Kind.Dkim aligned m rest = rw (or_yes m.dkim.given, swapped m.dkim.aligned aligned rest.dkim.aligned)
merge_more Kind.Spf aligned m rest = rw (or_yes m.spf.given, swapped m.spf.aligned aligned rest.spf.aligned)

-- before the first
pub merge_begin : (is : List Identifier) (found_alignments : List Alignment)
    → methods_of is found_alignments ≡ merge (record { dkim = record { given = false; aligned = false }; spf = record { given = false; aligned = false } }) (methods_of is found_alignments)
unfolding merge methods_of method_in
merge_begin is found_alignments = refl

module _ (domains : Octets) (numbers : List ℕ) (walk more digits : ℕ) where
  -- of none left
  pub methods_end : more ≡ 0 → (m : Methods) → merge m (methods_of (stored_identifiers domains numbers walk more) (alignments_in more digits)) ≡ m
  unfolding merge methods_of method_in stored_identifiers alignments_in any any_aligned
  methods_end e m = rw (e, or-false m.dkim.given, or-false m.dkim.aligned, or-false m.spf.given, or-false m.spf.aligned)

  -- of one more
  pub methods_more : 0 < more → (m : Methods) → merge m (methods_of (stored_identifiers domains numbers walk more) (alignments_in more digits))
      ≡ merge (add_method (kind_at numbers walk) (eqb (digits % 4) 1) m) (methods_of (stored_identifiers domains numbers (walk + 1) (more - 1)) (alignments_in (more - 1) (digits / 4)))
  unfolding identifier_at alignments_in
  methods_more h m =
      let count : more ≡ suc (more - 1) = omega arith in
      let digit : alignments_in more digits ≡ alignment_of (digits % 4) ∷ alignments_in (more - 1) (digits / 4) = ap (λ (n : ℕ). alignments_in n digits) count in
      let rest : Methods = methods_of (stored_identifiers domains numbers (walk + 1) (more - 1)) (alignments_in (more - 1) (digits / 4)) in
      let first = methods_next (identifier_at domains numbers walk) (stored_identifiers domains numbers (walk + 1) (more - 1)) (alignment_of (digits % 4)) (alignments_in (more - 1) (digits / 4)) in
      rw (digit, next_identifier domains numbers walk more h, first, aligned_digit (digits % 4)) (merge_more (kind_at numbers walk) (is_aligned (alignment_of (digits % 4))) m rest)
