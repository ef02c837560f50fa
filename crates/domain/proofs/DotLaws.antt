-- Laws of the final dot of a domain as it is taken.
use mathlib.Core.Path.{◌≡◌, refl, ap, sym, ◌∙◌}
use mathlib.Core.List.{List, [], ◌∷◌, ◌++◌}
use mathlib.Core.Bool.{Bool, true, false, ◌&&◌, false≢true}
use Prim.Native.Nat.{ℕ, ◌<◌}
use lib.Dec.{eqb}
use lib.ListN.{length, get_or}
use borrow.Author.Tests.{eqb-true}
use Rattle.octets.specs.Octets.{Octets, octets, all, made_of, split}
use Rattle.domain.specs.Domain.{Domain, without_dot, labels, good_label, is_domain, targets, asked_name}
use Rattle.domain.specs.Claims.{Taken}
use Rattle.domain.proofs.SplitLaws.{split_between}
use Rattle.domain.proofs.AskedLaws.{all_good, target_good, name_good}

pub dropped : (d : Domain) → without_dot (d ++ octets ".") ≡ d
unfolding without_dot octets
dropped [] = refl
dropped (x ∷ []) = refl
dropped (x ∷ y ∷ ys) = ap (λ (l : Octets). x ∷ l) (dropped (y ∷ ys))

-- a text that the dot is dropped from has it behind the rest
dot_or_not : (P : Octets → Type 0) → ((d : Domain) → P (d ++ (46 ∷ []))) → (s : Octets) → (without_dot s ≡ s → P s) → P s
unfolding without_dot
dot_or_not P f [] g = g refl
dot_or_not P f (x ∷ []) g = go (eqb x 46) refl
  where
    go : (b : Bool) → eqb x 46 ≡ b → P (x ∷ [])
    go true e = rw (eqb-true x 46 e) (f [])
    go false e = g (rw e)
dot_or_not P f (x ∷ y ∷ ys) g = dot_or_not (λ s. P (x ∷ s)) (λ d. f (x ∷ d)) (y ∷ ys) λ e. g (ap (λ (l : Octets). x ∷ l) e)

-- labels that end in an empty one are not all good
last_empty : (ls : List Octets) → all good_label (ls ++ ([] ∷ [])) ≡ false
unfolding all good_label made_of
last_empty [] = refl
last_empty (l ∷ ls) = elim (good_label l) as (λ b. (b && all good_label (ls ++ ([] ∷ []))) ≡ false) [ true ↦ last_empty ls | false ↦ refl ]

-- so a text whose labels are all good has no final dot
pub good_undotted : (d : Domain) → all good_label (labels d) ≡ true → without_dot d ≡ d
unfolding labels split
good_undotted d = dot_or_not (λ s. all good_label (labels s) ≡ true → without_dot s ≡ s)
    (λ t e. absurd (false≢true (sym (ap (all good_label) (split_between 46 t []) ∙ last_empty (split 46 t)) ∙ e)))
    d λ e _. e

-- nor has a name that a walk may ask
pub asked_undotted : (d : Domain) → is_domain d ≡ true → (k : ℕ) → k < length (targets d) → without_dot (asked_name (get_or (targets d) k [])) ≡ asked_name (get_or (targets d) k [])
asked_undotted d e k h = good_undotted _ (name_good (get_or (targets d) k []) (target_good d (all_good d e) k h))

pub taken : (d : Domain) → Taken d
taken d = record { dropped = dropped d; kept = λ e. good_undotted d (all_good d e) }
