-- The proofs of what is claimed of every grammar.
use Rattle.std.specs.Prelude.{None, Some}
use mathlib.Core.Path.{◌≡◌, refl, sym, ap, ◌∙◌, subst}
use mathlib.Core.List.{[], ◌∷◌, ◌++◌}
use mathlib.Core.Logic.{inl, inr}
use mathlib.Core.Bool.{Bool, true, false, false≢true}
use Prim.Native.Nat.{ℕ, zero, suc, ◌+◌, ◌≤◌, ◌<◌}
use native.Mathlib.Omega.{arith}
use native.Mathlib.Nat.{not-suc-le-zero, le_of_suc-le-suc}
use lib.ListN.{length, take}
use Rattle.octets.specs.Octets.{Octets}
use Rattle.grammar.specs.Grammar.{Grammar, Text, Viable}
use Rattle.grammar.specs.code.Finding.{has_empty, has_text, following, fault_from, fault, shortest_text_from, shortest_text}
use Rattle.grammar.specs.code.Finding.{Faults, ShortestFound}
use Rattle.grammar.specs.Grammar.{Fault}
use Rattle.grammar.proofs.GrammarLaws.{empty_sound, empty_complete, some_sound, some_complete, following_sound, following_complete}
use Rattle.std.proofs.lemmas.Option.{none-some, same_Some}

none≢just : {A : Type 0} {a : A} → None ≡ Some a → ⊥
none≢just {A} {a} e = none-some a e

just_injective : {a b : ℕ} → Some a ≡ Some b → a ≡ b
just_injective {a} {b} e = same_Some a b e

-- ------------------------------------------------------------------ one octet

fault_on : (at : ℕ) (g : Grammar) (x : ℕ) (s : Octets) → has_text (following x g) ≡ true → fault_from at g (x ∷ s) ≡ fault_from (suc at) (following x g) s
unfolding fault_from
fault_on at g x s e = rw (e, fault_from)

fault_here : (at : ℕ) (g : Grammar) (x : ℕ) (s : Octets) → has_text (following x g) ≡ false → fault_from at g (x ∷ s) ≡ Some at
unfolding fault_from
fault_here at g x s e = rw (e, fault_from)

fault_end : (at : ℕ) (g : Grammar) → has_empty g ≡ true → fault_from at g [] ≡ None
unfolding fault_from
fault_end at g e = rw (e, fault_from)

fault_early : (at : ℕ) (g : Grammar) → has_empty g ≡ false → fault_from at g [] ≡ Some at
unfolding fault_from
fault_early at g e = rw (e, fault_from)

-- ------------------------------------------------------------------ faults

fault_of_text : (at : ℕ) (g : Grammar) (s : Octets) → Text g s → fault_from at g s ≡ None
fault_of_text at g [] t = fault_end at g (empty_complete g t)
fault_of_text at g (x ∷ s) t =
    let r = following_complete x g s t in
    fault_on at g x s (some_complete (following x g) s r) ∙ fault_of_text (suc at) (following x g) s r

pub text_of_none : (at : ℕ) (g : Grammar) (s : Octets) → fault_from at g s ≡ None → Text g s
text_of_none at g [] e = go (has_empty g) refl
  where
    go : (c : Bool) → has_empty g ≡ c → Text g []
    go true f = empty_sound g f
    go false f = absurd (none≢just (sym e ∙ fault_early at g f))
text_of_none at g (x ∷ s) e = go (has_text (following x g)) refl (text_of_none (suc at) (following x g) s)
  where
    go : (c : Bool) → has_text (following x g) ≡ c → (fault_from (suc at) (following x g) s ≡ None → Text (following x g) s) → Text g (x ∷ s)
    go true f k = following_sound x g s (k (sym (fault_on at g x s f) ∙ e))
    go false f k = absurd (none≢just (sym e ∙ fault_here at g x s f))

-- a place further on
later_fault : (g : Grammar) (x : ℕ) (s : Octets) (q : ℕ) → Fault (following x g) s q → Fault g (x ∷ s) (suc q)
later_fault g x s q h = record {
  before = (h.before.0, following_sound x g (take q s ++ h.before.0) h.before.1);
  there = elim h.there [
    | inl k ↦ inl (omega (arith, k.0), λ b. k.1 (b.0, following_complete x g (take (suc q) s ++ b.0) b.1))
    | inr k ↦ inr (ap suc k.0, λ t. k.1 (following_complete x g s t))
  ];
}

fault_place : (at : ℕ) (g : Grammar) (s : Octets) → Viable g [] → (p : ℕ) → fault_from at g s ≡ Some p → (q : ℕ) × (p ≡ at + q) × Fault g s q
fault_place at g [] b p e = go (has_empty g) refl
  where
    go : (c : Bool) → has_empty g ≡ c → (q : ℕ) × (p ≡ at + q) × Fault g [] q
    go true f = absurd (none≢just (sym (fault_end at g f) ∙ e))
    go false f =
        let k = just_injective (sym e ∙ fault_early at g f) in
        (0, omega (arith, k), record { before = b; there = inr (refl, λ t. false≢true (sym f ∙ empty_complete g t)) })
fault_place at g (x ∷ s) b p e = go (has_text (following x g)) refl (fault_place (suc at) (following x g) s)
  where
    go : (c : Bool) → has_text (following x g) ≡ c
        → (Viable (following x g) [] → (p : ℕ) → fault_from (suc at) (following x g) s ≡ Some p → (q : ℕ) × (p ≡ suc at + q) × Fault (following x g) s q)
        → (q : ℕ) × (p ≡ at + q) × Fault g (x ∷ s) q
    go true f k =
        let (q, i, h) = k (some_sound (following x g) f) p (sym (fault_on at g x s f) ∙ e) in
        (suc q, omega (arith, i), later_fault g x s q h)
    go false f k =
        let i = just_injective (sym e ∙ fault_here at g x s f) in
        (0, omega (arith, i), record { before = b; there = inl (omega arith, λ c. false≢true (sym f ∙ some_complete (following x g) c.0 (following_complete x g c.0 c.1))) })

-- a fault is no sooner than where it is looked for
pub fault_least : (at : ℕ) (g : Grammar) (s : Octets) (p : ℕ) → fault_from at g s ≡ Some p → at ≤ p
fault_least at g [] p e = go (has_empty g) refl
  where
    go : (c : Bool) → has_empty g ≡ c → at ≤ p
    go true f = absurd (none≢just (sym (fault_end at g f) ∙ e))
    go false f = omega (arith, just_injective (sym e ∙ fault_early at g f))
fault_least at g (x ∷ s) p e = go (has_text (following x g)) refl (fault_least (suc at) (following x g) s p)
  where
    go : (c : Bool) → has_text (following x g) ≡ c → (fault_from (suc at) (following x g) s ≡ Some p → suc at ≤ p) → at ≤ p
    go true f k = omega (arith, k (sym (fault_on at g x s f) ∙ e))
    go false f k = omega (arith, just_injective (sym e ∙ fault_here at g x s f))

pub faults : (g : Grammar) (s : Octets) → Faults g s
unfolding fault
faults g s = record {
  without = text_of_none 0 g s;
  none = fault_of_text 0 g s;
  place = λ b p e. let (q, i, h) = fault_place 0 g s b p e in subst (Fault g s) (sym (i ∙ omega arith)) h;
}

-- ------------------------------------------------------------------ the shortest-text front part

pub first_now : (at : ℕ) (g : Grammar) (s : Octets) → has_empty g ≡ true → shortest_text_from at g s ≡ Some at
unfolding shortest_text_from
first_now at g [] e = rw (e, shortest_text_from)
first_now at g (x ∷ s) e = rw (e, shortest_text_from)

first_on : (at : ℕ) (g : Grammar) (x : ℕ) (s : Octets) → has_empty g ≡ false → shortest_text_from at g (x ∷ s) ≡ shortest_text_from (suc at) (following x g) s
unfolding shortest_text_from
first_on at g x s e = rw (e, shortest_text_from)

first_never : (at : ℕ) (g : Grammar) → has_empty g ≡ false → shortest_text_from at g [] ≡ None
unfolding shortest_text_from
first_never at g e = rw (e, shortest_text_from)

-- a front part of this many octets, and no shorter one
pub record Shortest (g : Grammar) (s : Octets) (n : ℕ) : Type 0 where
  pub within : n ≤ length s
  pub is : Text g (take n s)
  pub not_before : (m : ℕ) → m < n → Text g (take m s) → ⊥

shortest_now : (g : Grammar) (s : Octets) → has_empty g ≡ true → Shortest g s 0
shortest_now g s f = record { within = omega arith; is = empty_sound g f; not_before = λ m h. absurd (not-suc-le-zero h) }

shortest_later : (g : Grammar) (x : ℕ) (s : Octets) (n : ℕ) → has_empty g ≡ false → Shortest (following x g) s n → Shortest g (x ∷ s) (suc n)
shortest_later g x s n f h = record { within = omega (arith, h.within); is = following_sound x g (take n s) h.is; not_before = before }
  where
    before : (m : ℕ) → m < suc n → Text g (take m (x ∷ s)) → ⊥
    before zero i t = false≢true (sym f ∙ empty_complete g t)
    before (suc m) i t = h.not_before m (le_of_suc-le-suc i) (following_complete x g (take m s) t)

pub first_is : (at : ℕ) (g : Grammar) (s : Octets) (p : ℕ) → shortest_text_from at g s ≡ Some p → (n : ℕ) × (p ≡ at + n) × Shortest g s n
first_is at g [] p e = go (has_empty g) refl
  where
    go : (c : Bool) → has_empty g ≡ c → (n : ℕ) × (p ≡ at + n) × Shortest g [] n
    go true f = (0, omega (arith, just_injective (sym e ∙ first_now at g [] f)), shortest_now g [] f)
    go false f = absurd (none≢just (sym (first_never at g f) ∙ e))
first_is at g (x ∷ s) p e = go (has_empty g) refl (first_is (suc at) (following x g) s p)
  where
    go : (c : Bool) → has_empty g ≡ c → (shortest_text_from (suc at) (following x g) s ≡ Some p → (n : ℕ) × (p ≡ suc at + n) × Shortest (following x g) s n) → (n : ℕ) × (p ≡ at + n) × Shortest g (x ∷ s) n
    go true f k = (0, omega (arith, just_injective (sym e ∙ first_now at g (x ∷ s) f)), shortest_now g (x ∷ s) f)
    go false f k =
        let (n, i, h) = k (sym (first_on at g x s f) ∙ e) in
        (suc n, omega (arith, i), shortest_later g x s n f h)

first_none : (at : ℕ) (g : Grammar) (s : Octets) → shortest_text_from at g s ≡ None → (m : ℕ) → m ≤ length s → Text g (take m s) → ⊥
first_none at g [] e zero i t = none≢just (sym e ∙ first_now at g [] (empty_complete g t))
first_none at g [] e (suc m) i t = not-suc-le-zero i
first_none at g (x ∷ s) e zero i t = none≢just (sym e ∙ first_now at g (x ∷ s) (empty_complete g t))
first_none at g (x ∷ s) e (suc m) i t = go (has_empty g) refl (λ f. first_none (suc at) (following x g) s f m (le_of_suc-le-suc i))
  where
    go : (c : Bool) → has_empty g ≡ c → (shortest_text_from (suc at) (following x g) s ≡ None → Text (following x g) (take m s) → ⊥) → ⊥
    go true f k = none≢just (sym e ∙ first_now at g (x ∷ s) f)
    go false f k = k (sym (first_on at g x s f) ∙ e) (following_complete x g (take m s) t)

pub shortest_front : (g : Grammar) (s : Octets) → ShortestFound g s
unfolding shortest_text
shortest_front g s = record {
  is = λ n e. ((found n e).within, (found n e).is);
  not_before = λ n e. (found n e).not_before;
  none = first_none 0 g s;
}
  where
    found : (n : ℕ) → shortest_text_from 0 g s ≡ Some n → Shortest g s n
    found n e = let (q, i, h) = first_is 0 g s n e in subst (Shortest g s) (sym (i ∙ omega arith)) h
