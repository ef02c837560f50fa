-- The octets of a label, as a class.
use mathlib.Core.Path.{◌≡◌, refl, ap, ap₂}
use mathlib.Core.List.{[], ◌∷◌}
use mathlib.Core.Bool.{Bool, true, false, ◌&&◌, ◌||◌, not}
use Prim.Native.Nat.{ℕ}
use lib.Dec.{leb, eqb}
use lib.ListN.{length}
use Rattle.octets.specs.Octets.{Octets, octets, is_empty, made_of, all, any, one_of, is_letter, is_digit}
use Rattle.text_class.specs.declared.Class.{Class}
use Rattle.text_class.specs.code.Classes.{in_class}
use Rattle.domain.specs.Domain.{domain_octet, good_label}

all_same : (f g : ℕ → Bool) → ((x : ℕ) → f x ≡ g x) → (s : Octets) → all f s ≡ all g s
unfolding all
all_same f g h [] = refl
all_same f g h (x ∷ s) = ap₂ ◌&&◌ (h x) (all_same f g h s)

twice : (a b : Bool) → (a || (b || (b || false))) ≡ (a || (b || false))
twice true b = refl
twice false true = refl
twice false false = refl

-- letters, digits and three marks, of which two are the same
pub label_class : (s : Octets) → made_of 63 (in_class (Class.Word 45 95 95)) s ≡ good_label s
unfolding good_label domain_octet made_of one_of any octets
label_class s =
    ap (λ b. (not (is_empty s) && leb (length s) 63) && b)
    (all_same (in_class (Class.Word 45 95 95)) domain_octet (λ x. ap (λ b. (is_letter x || is_digit x) || b) (twice (eqb x 45) (eqb x 95))) s)
