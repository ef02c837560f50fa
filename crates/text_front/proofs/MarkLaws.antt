-- One of a text's octets, as std's `contains` finds it.
use Rattle.std.proofs.Common.{◌≡◌, ℕ, ◌||◌, [], ◌∷◌, refl, ap₂, arith}
use Rattle.std.proofs.lemmas.Bool.Decides.{nat_tests}
use Rattle.std.specs.List.{list_any}
use Rattle.octets.specs.Octets.{Octets, any, one_of}
use lib.Dec.{eqb}

swapped : (a b : ℕ) → eqb a b ≡ eqb b a
swapped a b = grind (arith, nat_tests)

pub one_of_marks : (b : ℕ) (s : Octets) → one_of s b ≡ list_any (λ y. eqb y b) s
unfolding one_of any
one_of_marks b [] = refl
one_of_marks b (x ∷ s) = ap₂ ◌||◌ (swapped b x) (one_of_marks b s)
