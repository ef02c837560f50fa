-- Laws of places in a list and of sets, as the code goes through them.
use mathlib.Core.Path.{◌≡◌, refl, sym, ap, ◌∙◌, subst}
use mathlib.Core.List.{List, [], ◌∷◌}
use mathlib.Core.Bool.{Bool, true, false, ◌&&◌, ◌||◌, not, false≢true, or-false}
use mathlib.Core.Logic.{◌⊎◌, inl, inr}
use Prim.Native.Nat.{ℕ, zero, suc, ◌+◌, ◌-◌, ◌≤◌, ◌<◌}
use native.Mathlib.Omega.{arith}
use lib.Dec.{eqb, leb}
use lib.ListN.{length}
use borrow.Author.Tests.{lt-leb, leb-false, eq-eqb, ne_eqb}
use Rattle.std.specs.Prelude.{Option, None, Some}
use Rattle.octets.specs.Octets.{Octets, is_nothing}
use Rattle.octets.specs.Framing.{size_of, body_of, after_record, is_whole}
use Rattle.octets.proofs.FramingLaws.{after_shorter}
use Rattle.rows.specs.Lists.{Reported, reported, body_or_empty, first_body, body_at, set_most, set_in, good_set, set_of, Lists, both_named, named_by}
use Rattle.rows.proofs.SetLaws.{Fine, set_fine, fine_set}
use Rattle.rows_named.specs.code.Naming.{records_after, takes, passes_set}

-- ------------------------------------------------------------------ places

pub at_place : (n : ℕ) (list : Octets) → body_at n list ≡ first_body (records_after n list)
unfolding body_at records_after
at_place zero list = refl
at_place (suc n) list = at_place n (after_record list)

after_nothing : after_record [] ≡ []
unfolding after_record size_of
after_nothing = refl

none_after : (n : ℕ) → records_after n [] ≡ []
unfolding records_after
none_after zero = refl
none_after (suc n) = ap (records_after n) after_nothing ∙ none_after n

pub run_out : (n : ℕ) (t : Octets) → length t ≡ 0 → records_after n t ≡ t
run_out n [] e = none_after n
run_out n (x ∷ t) e = absurd (omega (arith, e))

pub one_record : (n : ℕ) (t : Octets) → 0 < n → records_after n t ≡ records_after (n - 1) (after_record t)
unfolding records_after
one_record zero t h = absurd (omega (arith, h))
one_record (suc n) t h = let e : n ≡ suc n - 1 = omega arith in ap (λ k. records_after k (after_record t)) e

pub no_record : (n : ℕ) (t : Octets) → n ≤ 0 → records_after n t ≡ t
unfolding records_after
no_record zero t h = refl
no_record (suc n) t h = absurd (omega (arith, h))

-- ------------------------------------------------------------------ the record at the front

-- ------------------------------------------------------------------ sets, one identifier more

-- any bound that is enough gives the same set
enough : (n m : ℕ) (t : Octets) → length t ≤ n → length t ≤ m → set_most n t ≡ set_most m t
unfolding set_most
enough zero zero t h k = refl
enough zero (suc m) [] h k = refl
enough zero (suc m) (x ∷ t) h k = absurd (omega (arith, h))
enough (suc n) zero [] h k = refl
enough (suc n) zero (x ∷ t) h k = absurd (omega (arith, k))
enough (suc n) (suc m) [] h k = refl
enough (suc n) (suc m) (x ∷ t) h k = ap (λ l. reported (body_or_empty (first_body (x ∷ t))) ∷ l) (enough n m (after_record (x ∷ t)) (omega (arith, h, after_shorter x t)) (omega (arith, k, after_shorter x t)))

pub set_step : (x : ℕ) (t : Octets) → set_in (x ∷ t) ≡ reported (body_or_empty (first_body (x ∷ t))) ∷ set_in (after_record (x ∷ t))
unfolding set_in set_most
set_step x t = ap (λ l. reported (body_or_empty (first_body (x ∷ t))) ∷ l) (enough (length t) (length (after_record (x ∷ t))) (after_record (x ∷ t)) (after_shorter x t) (omega arith))

pub set_ends : (t : Octets) → length t ≤ 0 → (index : ℕ) (seen : Bool) → passes_set index seen (set_in t) ≡ true
unfolding set_in set_most passes_set
set_ends [] h index seen = refl
set_ends (x ∷ t) h index seen = absurd (omega (arith, h))

pub set_goes_on : (t body : Octets) → 0 < length t → body ≡ body_or_empty (first_body t) → (index : ℕ) (seen : Bool) (taken spf : Bool) → taken ≡ takes index seen (reported body) → spf ≡ eqb (reported body).kind 0
    → passes_set index seen (set_in t) ≡ (taken && passes_set (suc index) (seen || spf) (set_in (after_record t)))
unfolding passes_set
set_goes_on [] body h b index seen taken spf e f = absurd (omega (arith, h))
set_goes_on (x ∷ t) body h b index seen taken spf e f = rw (set_step x t, e, f, b)

module _ (t first : Octets) (some : 0 < length t) (b : first ≡ body_or_empty (first_body t)) (index : ℕ) (seen : Bool) {taken : Bool} (e : taken ≡ takes index seen (reported first)) where
  pub set_stops : taken ≡ false → false ≡ passes_set index seen (set_in t)
  set_stops f = sym (set_goes_on t first some b index seen taken (eqb (reported first).kind 0) e refl ∙ rw f)

  pub set_on : taken ≡ true → (spf next : Bool) (rest : Octets) → spf ≡ eqb (reported first).kind 0 → next ≡ (seen || spf) → rest ≡ after_record t → passes_set index seen (set_in t) ≡ passes_set (index + 1) next (set_in rest)
  set_on f spf next rest g h k =
      let one : suc index ≡ index + 1 = omega arith in
      set_goes_on t first some b index seen taken spf e g ∙ rw (f, h, k) (ap (λ n. passes_set n (seen || spf) (set_in (after_record t))) one)

pub drops_some : (t : Octets) → 0 < length t → length (after_record t) < length t
drops_some [] h = absurd (omega (arith, h))
drops_some (x ∷ t) h = omega (arith, after_shorter x t)

-- ------------------------------------------------------------------ what 01 takes

both : (a b : Bool) → (a && b) ≡ true → (a ≡ true) × (b ≡ true)
both true b e = (refl, e)
both false b e = absurd (false≢true e)

off : (b : Bool) → not b ≡ true → b ≡ false
off false e = refl
off true e = absurd (false≢true e)

small_kind : (n : ℕ) → n < 2 → (n ≡ 0) ⊎ (n ≡ 1)
small_kind zero h = inl refl
small_kind (suc zero) h = inr refl
small_kind (suc (suc n)) h = absurd (omega (arith, h))

passes_fine : (is : List Reported) (index : ℕ) (seen : Bool) → passes_set index seen is ≡ true → Fine index seen is
unfolding passes_set takes Fine
passes_fine [] index seen e = tt
passes_fine (i ∷ is) index seen e =
    let (t, rest) = both (takes index seen i) (passes_set (suc index) (seen || eqb i.kind 0) is) e in
    let (t1, spf) = both (not (leb 16 index) && not (leb 2 i.kind) && not (leb 3 i.outcome)) (not (eqb i.kind 0 && seen)) t in
    let (t2, outcome) = both (not (leb 16 index) && not (leb 2 i.kind)) (not (leb 3 i.outcome)) t1 in
    let (few, kind) = both (not (leb 16 index)) (not (leb 2 i.kind)) t2 in (
      leb-false 16 index (off (leb 16 index) few),
      leb-false 3 i.outcome (off (leb 3 i.outcome) outcome),
      go (small_kind i.kind (leb-false 2 i.kind (off (leb 2 i.kind) kind))) (off (eqb i.kind 0 && seen) spf) rest (λ s. passes_fine is (suc index) s),
    )
  where
    go : (i.kind ≡ 0) ⊎ (i.kind ≡ 1) → (eqb i.kind 0 && seen) ≡ false → passes_set (suc index) (seen || eqb i.kind 0) is ≡ true → ((s : Bool) → passes_set (suc index) s is ≡ true → Fine (suc index) s is)
        → ((i.kind ≡ 1) × Fine (suc index) seen is) ⊎ ((i.kind ≡ 0) × (seen ≡ false) × Fine (suc index) true is)
    go (inl k) s r more = let q : seen ≡ false = rw (eq-eqb i.kind 0 k) at s in inr (k, q, more true (subst (λ b. passes_set (suc index) b is ≡ true) ((λ j. q j || eq-eqb i.kind 0 k j)) r))
    go (inr k) s r more = inl (k, more seen (subst (λ b. passes_set (suc index) b is ≡ true) (ap (λ b. seen || b) (ne_eqb i.kind 0 (λ z. absurd (omega (arith, z, k)))) ∙ or-false seen) r))

fine_passes : (is : List Reported) (index : ℕ) (seen : Bool) → Fine index seen is → passes_set index seen is ≡ true
unfolding passes_set takes Fine
fine_passes [] index seen f = refl
fine_passes (i ∷ is) index seen f = go f.2 (λ s. fine_passes is (suc index) s)
  where
    go : ((i.kind ≡ 1) × Fine (suc index) seen is) ⊎ ((i.kind ≡ 0) × (seen ≡ false) × Fine (suc index) true is) → ((s : Bool) → Fine (suc index) s is → passes_set (suc index) s is ≡ true) → passes_set index seen (i ∷ is) ≡ true
    go (inl (k, g)) more =
        rw (lt-leb 16 index f.0, lt-leb 3 i.outcome f.1, lt-leb 2 i.kind (omega (arith, k)), ne_eqb i.kind 0 (λ z. absurd (omega (arith, z, k))), or-false) (more seen g)
    go (inr (k, s, g)) more =
        rw (lt-leb 16 index f.0, lt-leb 3 i.outcome f.1, lt-leb 2 i.kind (omega (arith, k)), eq-eqb i.kind 0 k, s) (more true g)

pub set_passes : (is : List Reported) → not (is_nothing (good_set is)) ≡ passes_set 0 false is
set_passes is = go (not (is_nothing (good_set is))) refl (passes_set 0 false is) refl
  where
    go : (a : Bool) → not (is_nothing (good_set is)) ≡ a → (b : Bool) → passes_set 0 false is ≡ b → a ≡ b
    go true e true f = refl
    go true e false f = absurd (false≢true (sym f ∙ fine_passes is 0 false (set_fine is e)))
    go false e true f = absurd (false≢true (sym e ∙ fine_set is (passes_fine is 0 false f)))
    go false e false f = refl

-- ------------------------------------------------------------------ both numbers

module _ (authors sets : Octets) (a s : ℕ) where
  abbrev lists : Lists
  lists = record { authors = authors; sets = sets }

  pub no_author : is_whole (records_after a authors) ≡ false → false ≡ not (is_nothing (named_by lists a s))
  unfolding named_by both_named first_body is_nothing
  no_author e = rw (at_place a authors, e)

  pub no_set : is_whole (records_after a authors) ≡ true → is_whole (records_after s sets) ≡ false → false ≡ not (is_nothing (named_by lists a s))
  unfolding named_by both_named set_of first_body is_nothing
  no_set e f = rw (at_place a authors, at_place s sets, e, f)

  both_nothing : (d : Octets) (o : Option (List Reported)) → is_nothing (both_named (Some d) o) ≡ is_nothing o
  unfolding both_named is_nothing
  both_nothing d None = refl
  both_nothing d (Some is) = refl

  named_is : is_whole (records_after a authors) ≡ true → is_whole (records_after s sets) ≡ true
      → named_by lists a s ≡ both_named (Some (body_of (records_after a authors))) (good_set (set_in (body_of (records_after s sets))))
  unfolding named_by set_of first_body
  named_is e f = rw (at_place a authors, at_place s sets, e, f)

  by_set : is_whole (records_after a authors) ≡ true → is_whole (records_after s sets) ≡ true → passes_set 0 false (set_in (body_of (records_after s sets))) ≡ not (is_nothing (named_by lists a s))
  by_set e f =
      let is = set_in (body_of (records_after s sets)) in
      sym (set_passes is) ∙ ap not (sym (both_nothing (body_of (records_after a authors)) (good_set is)) ∙ ap is_nothing (sym (named_is e f)))

  pub named_test : (is_whole (records_after a authors) && is_whole (records_after s sets) && passes_set 0 false (set_in (body_of (records_after s sets)))) ≡ not (is_nothing (named_by lists a s))
  named_test = go (is_whole (records_after a authors)) refl (is_whole (records_after s sets)) refl
    where
      go : (b : Bool) → is_whole (records_after a authors) ≡ b → (c : Bool) → is_whole (records_after s sets) ≡ c → (is_whole (records_after a authors) && is_whole (records_after s sets) && passes_set 0 false (set_in (body_of (records_after s sets)))) ≡ not (is_nothing (named_by lists a s))
      go false e c f = rw e (no_author e)
      go true e false f = rw (e, f) (no_set e f)
      go true e true f = rw (e, f) (by_set e f)
