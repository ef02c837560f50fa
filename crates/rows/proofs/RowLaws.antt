-- Laws of rows and of the list.
use mathlib.Core.Path.{◌≡◌, refl, ap, sym, ◌∙◌}
use mathlib.Core.List.{List, [], ◌∷◌, ◌++◌, map}
use mathlib.Core.Bool.{Bool, true, false, ◌&&◌, ◌||◌, not, beq}
use Prim.Native.Nat.{ℕ, zero, suc, ◌+◌}
use native.Mathlib.Omega.{arith}
use lib.Dec.{T, eqb, eqb→eq, eqb_refl}
use lib.ListN.{length, take, drop}
use Rattle.std.specs.Prelude.{if◌then◌else◌, Some}
use Rattle.octets.specs.Octets.{Octets, is_set, flag, all, any, same}
use Rattle.octets.proofs.TextLaws.{and_left, and_right, both, flag_said, true→T, same→eq}
use Rattle.rows.specs.declared.Seen.{Seen}
use Rattle.rows.specs.declared.Row.{Row}
use Rattle.rows.specs.declared.Entry.{Entry}
use Rattle.rows.specs.Rows.{is_free, same_seen, is_match, with_count, first, change_first, seen_in}
use Rattle.rows.specs.History.{count_if, total, number}

-- ------------------------------------------------------------------ rows as calls leave them

-- what a call writes in a row: a flag of 0 or 1, and 0 in what is spare
unfoldable pub plain : Seen → Bool
plain s = eqb s.dkim (flag (is_set s.dkim)) && eqb s.spf (flag (is_set s.spf)) && eqb s.spare 0

-- a row that is free, or as a call wrote it
unfoldable pub tidy : Row → Bool
tidy r = is_free r || plain r.seen

pub entered_plain : (e : Entry) → T (plain (seen_in e))
unfolding plain seen_in
entered_plain e = go (is_set e.finding.dkim) (is_set e.finding.spf)
  where
    again : (b : Bool) → T (eqb (flag b) (flag (is_set (flag b))))
    again b = rw (flag_said b) (eqb_refl (flag b))

    go : (c d : Bool) → T (eqb (flag c) (flag (is_set (flag c))) && eqb (flag d) (flag (is_set (flag d))) && true)
    go c d = both (eqb (flag c) (flag (is_set (flag c))) && eqb (flag d) (flag (is_set (flag d)))) true (both (eqb (flag c) (flag (is_set (flag c)))) (eqb (flag d) (flag (is_set (flag d)))) (again c) (again d)) tt

-- ------------------------------------------------------------------ equal ones

flag_eq : (a b : ℕ) → T (eqb a (flag (is_set a))) → T (eqb b (flag (is_set b))) → T (beq (is_set a) (is_set b)) → a ≡ b
flag_eq a b p q t = eqb→eq _ _ p ∙ ap flag (alike (is_set a) (is_set b) t) ∙ sym (eqb→eq _ _ q)
  where
    alike : (c d : Bool) → T (beq c d) → c ≡ d
    alike true true u = refl
    alike true false u = absurd u
    alike false true u = absurd u
    alike false false u = refl

each : (a b c d e f : Bool) → T (a && b && c && d && e && f) → T a × T b × T c × T d × T e × T f
each false b c d e f t = absurd t
each true false c d e f t = absurd t
each true true false d e f t = absurd t
each true true true false e f t = absurd t
each true true true true false f t = absurd t
each true true true true true f t = (tt, tt, tt, tt, tt, t)

plain_parts : (s : Seen) → T (plain s) → T (eqb s.dkim (flag (is_set s.dkim))) × T (eqb s.spf (flag (is_set s.spf))) × (s.spare ≡ 0)
unfolding plain
plain_parts s t = go (eqb s.dkim (flag (is_set s.dkim))) (eqb s.spf (flag (is_set s.spf))) t
  where
    go : (c d : Bool) → T (c && d && eqb s.spare 0) → T c × T d × (s.spare ≡ 0)
    go true true u = (tt, tt, eqb→eq _ _ u)
    go true false u = absurd u
    go false d u = absurd u

made : Octets → ℕ → ℕ → ℕ → ℕ → ℕ → ℕ → Seen
made source p dkim spf spare author set = record { source = source; disposition = p; dkim = dkim; spf = spf; spare = spare; author = author; set = set }

made_eq : {s s' : Octets} {p p' d d' f f' o o' a a' n n' : ℕ} → s ≡ s' → p ≡ p' → d ≡ d' → f ≡ f' → o ≡ o' → a ≡ a' → n ≡ n'
    → made s p d f o a n ≡ made s' p' d' f' o' a' n'
made_eq a b c d e f g = cc

-- rows that match, as calls leave them, hold the same
pub seen_eq : (a b : Seen) → T (plain a) → T (plain b) → T (same_seen a b) → a ≡ b
unfolding same_seen made
seen_eq a b p q t =
    let h = each (same a.source b.source) (eqb a.disposition b.disposition) (beq (is_set a.dkim) (is_set b.dkim)) (beq (is_set a.spf) (is_set b.spf)) (eqb a.author b.author) (eqb a.set b.set) t in
    let i = plain_parts a p in
    let j = plain_parts b q in
    made_eq (same→eq _ _ h.0) (eqb→eq _ _ h.1) (flag_eq _ _ i.0 j.0 h.2) (flag_eq _ _ i.1 j.1 h.3) (i.2 ∙ sym j.2) (eqb→eq _ _ h.4) (eqb→eq _ _ h.5)

-- ------------------------------------------------------------------ the list and what lies past it

module _ {A : Type 0} where
  pub rejoin_on : (n : ℕ) (new old : List A) → length new ≡ length (take n old) → take n (new ++ drop n old) ≡ new
  rejoin_on zero [] old e = refl
  rejoin_on zero (x ∷ new) old e = absurd (omega arith)
  rejoin_on (suc n) [] [] e = refl
  rejoin_on (suc n) [] (y ∷ old) e = absurd (omega arith)
  rejoin_on (suc n) (x ∷ new) [] e = absurd (omega arith)
  rejoin_on (suc n) (x ∷ new) (y ∷ old) e = ap (λ (l : List A). x ∷ l) (rejoin_on n new old (omega arith))

  pub rejoin_past : (n : ℕ) (new old : List A) → length new ≡ length (take n old) → drop n (new ++ drop n old) ≡ drop n old
  rejoin_past zero [] old e = refl
  rejoin_past zero (x ∷ new) old e = absurd (omega arith)
  rejoin_past (suc n) [] [] e = refl
  rejoin_past (suc n) [] (y ∷ old) e = absurd (omega arith)
  rejoin_past (suc n) (x ∷ new) [] e = absurd (omega arith)
  rejoin_past (suc n) (x ∷ new) (y ∷ old) e = rejoin_past n new old (omega arith)

  pub rejoin_length : (n : ℕ) (new old : List A) → length new ≡ length (take n old) → length (new ++ drop n old) ≡ length old
  rejoin_length zero [] old e = refl
  rejoin_length zero (x ∷ new) old e = absurd (omega arith)
  rejoin_length (suc n) [] [] e = refl
  rejoin_length (suc n) [] (y ∷ old) e = absurd (omega arith)
  rejoin_length (suc n) (x ∷ new) [] e = absurd (omega arith)
  rejoin_length (suc n) (x ∷ new) (y ∷ old) e = ap suc (rejoin_length n new old (omega arith))

-- ------------------------------------------------------------------ the first that passes a test

module _ {A : Type 0} (t : A → Bool) where
  pub first_any : (l : List A) (x : A) → first t l ≡ Some x → any t l ≡ true
  unfolding first any
  first_any [] x e = absurd (true→T {b = false} (cc e))
  first_any (y ∷ l) x e = go (first_any l x) (t y) refl
    where
      go : (first t l ≡ Some x → any t l ≡ true) → (b : Bool) → t y ≡ b → any t (y ∷ l) ≡ true
      go later true h = rw h
      go later false h = rw h (later (rw (h, first) at e))

  pub change_length : (g : A → A) (l : List A) → length (change_first t g l) ≡ length l
  unfolding change_first
  change_length g [] = refl
  change_length g (y ∷ l) = go (change_length g l) (t y) refl
    where
      go : length (change_first t g l) ≡ length l → (b : Bool) → t y ≡ b → length (change_first t g (y ∷ l)) ≡ suc (length l)
      go later true h = rw (h, change_first)
      go later false h = rw (h, change_first) (ap suc later)

-- a match is not free, so it is as a call wrote it, and stays so when it is raised
match_plain : (s : Seen) (r : Row) → T (tidy r) → is_match s r ≡ true → T (plain r.seen)
unfolding is_match tidy
match_plain s r t h = go (is_free r) t (true→T h)
  where
    go : (free : Bool) → T (free || plain r.seen) → T (not free && same_seen s r.seen) → T (plain r.seen)
    go true a b = absurd b
    go false a b = a

pub raise_tidy : (s : Seen) (r : Row) → T (tidy r) → is_match s r ≡ true → T (tidy (with_count (r.count + 1) r))
unfolding tidy with_count
raise_tidy s r t h = later (is_free (with_count (r.count + 1) r)) (match_plain s r t h)
  where
    later : (free : Bool) → T (plain r.seen) → T (free || plain r.seen)
    later true p = tt
    later false p = p

pub take_tidy : (s : Seen) → T (plain s) → T (tidy (record { seen = s; count = 1 }))
unfolding tidy is_free
take_tidy s p = p

-- rows stay tidy where those that change do
pub change_tidy : (t : Row → Bool) (g : Row → Row) → ((r : Row) → T (tidy r) → t r ≡ true → T (tidy (g r))) → (l : List Row) → T (all tidy l) → T (all tidy (change_first t g l))
unfolding change_first all
change_tidy t g keeps [] e = tt
change_tidy t g keeps (r ∷ l) e = go (change_tidy t g keeps l (and_right (tidy r) (all tidy l) e)) (t r) refl
  where
    go : T (all tidy (change_first t g l)) → (b : Bool) → t r ≡ b → T (all tidy (change_first t g (r ∷ l)))
    go later true h = rw (h, change_first) (both (tidy (g r)) (all tidy l) (keeps r (and_left (tidy r) (all tidy l) e) h) (and_right (tidy r) (all tidy l) e))
    go later false h = rw (h, change_first) (both (tidy r) (all tidy (change_first t g l)) (and_left (tidy r) (all tidy l) e) later)

pub clear_tidy : (l : List Row) → T (all tidy (map (with_count 0) l))
unfolding all tidy is_free with_count
clear_tidy [] = tt
clear_tidy (r ∷ l) = clear_tidy l

-- ------------------------------------------------------------------ totals

-- what one verdict adds
abbrev pub one : Bool → ℕ
one b = if b then 1 else 0

module _ (f : Seen → Bool) where
  -- a change of the first row that passes a test changes the total as it changes that row
  pub change_total : (t : Row → Bool) (g : Row → Row) (k : ℕ) → ((r : Row) → T (tidy r) → t r ≡ true → count_if f (g r) ≡ count_if f r + k)
      → (l : List Row) → T (all tidy l) → any t l ≡ true → total f (change_first t g l) ≡ total f l + k
  unfolding change_first total any all
  change_total t g k more [] p e = absurd (true→T {b = false} (cc e))
  change_total t g k more (r ∷ l) p e = go (change_total t g k more l (and_right (tidy r) (all tidy l) p)) (t r) refl
    where
      go : (any t l ≡ true → total f (change_first t g l) ≡ total f l + k) → (b : Bool) → t r ≡ b → total f (change_first t g (r ∷ l)) ≡ total f (r ∷ l) + k
      go later true h = rw (h, change_first) (omega (arith, more r (and_left (tidy r) (all tidy l) p) h))
      go later false h = rw (h, change_first) (omega (arith, later (rw h at e)))

  -- a count that is raised
  pub raise_total : (s : Seen) → T (plain s) → (l : List Row) → T (all tidy l) → any (is_match s) l ≡ true
      → total f (change_first (is_match s) (λ m. with_count (m.count + 1) m) l) ≡ total f l + one (f s)
  unfolding is_match with_count count_if
  raise_total s p l q e = change_total (is_match s) (λ m. with_count (m.count + 1) m) (one (f s)) more l q e
    where
      by : (r : Row) (b : Bool) → f r.seen ≡ b → (if b then r.count + 1 else 0) ≡ (if b then r.count else 0) + one b
      by r true h = refl
      by r false h = refl

      more : (r : Row) → T (tidy r) → is_match s r ≡ true → count_if f (with_count (r.count + 1) r) ≡ count_if f r + one (f s)
      more r t h =
          rw (seen_eq s r.seen p (match_plain s r t h) (and_right (not (is_free r)) (same_seen s r.seen) (true→T h))) (by r (f r.seen) refl)

  -- a free row that is taken
  pub take_total : (s : Seen) (l : List Row) → T (all tidy l) → any is_free l ≡ true
      → total f (change_first is_free (λ _. record { seen = s; count = 1 }) l) ≡ total f l + one (f s)
  unfolding is_free count_if
  take_total s l q e = change_total is_free (λ _. record { seen = s; count = 1 }) (one (f s)) more l q e
    where
      by : (b c : Bool) → (if b then 1 else 0) ≡ (if c then 0 else 0) + one b
      by true true = refl
      by true false = refl
      by false true = refl
      by false false = refl

      more : (r : Row) → T (tidy r) → is_free r ≡ true → count_if f (record { seen = s; count = 1 }) ≡ count_if f r + one (f s)
      more r t h = rw (eqb→eq r.count 0 (true→T h)) (by (f s) (f r.seen))

  -- a list that is cleared
  pub clear_total : (l : List Row) → total f (map (with_count 0) l) ≡ 0
  unfolding total with_count count_if
  clear_total [] = refl
  clear_total (r ∷ l) = rw (clear_total l) (elim (f r.seen) as (λ b. (if b then 0 else 0) + 0 ≡ 0) [ true ↦ refl | false ↦ refl ])

-- the verdicts that pass any test are all of them
pub number_all : (seen : List Seen) → number (λ _. true) seen ≡ length seen
unfolding number
number_all [] = refl
number_all (s ∷ seen) = rw (number_all seen) (omega arith)
