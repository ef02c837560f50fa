-- What one call does to the totals, to the rows past the list, and at a day's end: what the claim on every history is made of.
use mathlib.Core.Path.{◌≡◌, refl, ap, sym, ◌∙◌}
use mathlib.Core.List.{List, [], ◌∷◌, ◌++◌, map}
use mathlib.Core.Bool.{Bool, true, false, not}
use Prim.Native.Nat.{ℕ, zero, suc, ◌+◌}
use native.Mathlib.Omega.{arith}
use lib.Dec.{T, leb, eqb}
use lib.ListN.{length, take, drop, length-map}
use Rattle.std.specs.Prelude.{if◌then◌else◌, Option, None, Some}
use Rattle.octets.specs.Octets.{all, any, is_nothing, lower}
use Rattle.octets.specs.Refusing.{◌>>=◌, OrRefused, ok, not_ok, refusal, refuse_if}
use Rattle.octets.specs.declared.Refusal.{Refusal}
use Rattle.octets.proofs.TextLaws.{true→T}
use Rattle.octets.proofs.RefusingLaws.{bind_ok, refuse_if_ok}
use Rattle.domain.specs.Domain.{Domain, without_dot, is_domain}
use Rattle.rows.specs.declared.Seen.{Seen}
use Rattle.rows.specs.declared.Row.{Row}
use Rattle.rows.specs.declared.Entry.{Entry}
use Rattle.rows.specs.Lists.{Lists, named_by}
use Rattle.rows.specs.Rows.{Listing, is_free, is_match, with_count, on_list, past_list, first, change_first, raised, taken, counted_by, counted, is_judged, seen_in, serves, cleared, entered}
use Rattle.rows.specs.History.{Call, clear, enter, gives, refusal_of, is_accepted, left_by, with_call, total, number, Untouched, DayEnd}
use Rattle.rows.proofs.RowLaws.{plain, tidy, entered_plain, take_tidy, rejoin_on, rejoin_past, rejoin_length, first_any, change_length, raise_tidy, change_tidy, clear_tidy, one, raise_total, take_total, clear_total}

never : {A B : Type 0} (r : Refusal) (a : A) → not_ok r ≡ ok a → B
never r a e = absurd (true→T {b = false} (cc e))

-- ------------------------------------------------------------------ what an accepted call did

-- one verdict more; of rows as calls leave them the totals grow by it, and they stay so
pub record OneMore (s : Seen) (new old : List Row) : Type 0 where
  pub as_many : length new ≡ length old
  pub totals : (f : Seen → Bool) → T (plain s) → T (all tidy old) → total f new ≡ total f old + one (f s)
  pub stays : T (plain s) → T (all tidy old) → T (all tidy new)

raised_one : (s : Seen) (l new : List Row) (r : Row) → first (is_match s) l ≡ Some r → raised s l r ≡ ok new → OneMore s new l
unfolding raised
raised_one s l new r e h = go (leb 4294967295 r.count) h
  where
    up : List Row
    up = change_first (is_match s) (λ m. with_count (m.count + 1) m) l

    go : (b : Bool) → (if b then not_ok (refusal 13 0) else ok up) ≡ ok new → OneMore s new l
    go true g = never (refusal 13 0) new g
    go false g =
        let same : up ≡ new = cc g in
        rw (← same) (record { as_many = change_length (is_match s) _ l; totals = λ f p q. raise_total f s p l q (first_any (is_match s) l r e); stays = λ _ q. change_tidy (is_match s) _ (raise_tidy s) l q })

taken_one : (s : Seen) (l new : List Row) → taken s l ≡ ok new → OneMore s new l
unfolding taken
taken_one s l new h = go (any is_free l) refl h
  where
    up : List Row
    up = change_first is_free (λ _. record { seen = s; count = 1 }) l

    go : (b : Bool) → any is_free l ≡ b → (if b then ok up else not_ok (refusal 12 0)) ≡ ok new → OneMore s new l
    go false e g = never (refusal 12 0) new g
    go true e g =
        let same : up ≡ new = cc g in
        rw (← same) (record { as_many = change_length is_free _ l; totals = λ f _ q. take_total f s l q e; stays = λ p q. change_tidy is_free _ (λ _ _ _. take_tidy s p) l q })

counted_one : (s : Seen) (l new : List Row) → counted s l ≡ ok new → OneMore s new l
unfolding counted counted_by
counted_one s l new h = go (first (is_match s) l) refl h
  where
    go : (o : Option Row) → first (is_match s) l ≡ o → counted_by s l o ≡ ok new → OneMore s new l
    go None e g = taken_one s l new g
    go (Some r) e g = raised_one s l new r e g

-- a verdict that was entered
record Entered (e : Entry) (before after : Listing) : Type 0 where
  rows : List Row
  one_more : OneMore (seen_in e) rows (on_list before.rows)
  is_after : record { domain = before.domain; rows = rows ++ past_list before.rows } ≡ after

entered_ok : (e : Entry) (lists : Lists) (d : Domain) (l l' : Listing) → entered e lists d l ≡ ok l' → Entered e l l'
unfolding entered
entered_ok e lists d l l' h =
    let judged = refuse_if_ok (not (is_judged e.finding)) (refusal 14 0) _ l' h in
    let served = refuse_if_ok (not (serves l.domain d)) (refusal 27 0) _ l' judged.1 in
    let named = refuse_if_ok (is_nothing (named_by lists e.author e.set)) (refusal 28 0) _ l' served.1 in
    let (rows, (one, h₄)) = bind_ok (counted (seen_in e) (on_list l.rows)) _ l' named.1 in
    record { rows = rows; one_more = counted_one (seen_in e) (on_list l.rows) rows one; is_after = cc h₄ }

-- a list that was cleared
unfoldable pub emptied : Domain → Listing → Listing
emptied d l = record { domain = Some (lower (without_dot d)); rows = map (with_count 0) (on_list l.rows) ++ past_list l.rows }

pub cleared_ok : (d : Domain) (l l' : Listing) → cleared d l ≡ ok l' → emptied d l ≡ l'
unfolding cleared emptied
cleared_ok d l l' h = let good = refuse_if_ok (not (is_domain (without_dot d))) (refusal 11 0) _ l' h in cc good.1

-- ------------------------------------------------------------------ no refusal has number 0

refused_as : {A : Type 0} (n : ℕ) (f : Refusal) → eqb n 0 ≡ false → ◌≡◌ {A = OrRefused A} (not_ok (refusal n 0)) (not_ok f) → is_accepted f ≡ false
unfolding is_accepted
refused_as n f z e = let same : refusal n 0 ≡ f = cc e in rw (← same) z

accepted_as : {A : Type 0} (a : A) (f : Refusal) → ok a ≡ not_ok f → is_accepted f ≡ false
accepted_as a f e = absurd (true→T {b = false} (cc e))

either : {A : Type 0} (b : Bool) (u v : OrRefused A) (f : Refusal) → (u ≡ not_ok f → is_accepted f ≡ false) → (v ≡ not_ok f → is_accepted f ≡ false)
    → (if b then u else v) ≡ not_ok f → is_accepted f ≡ false
either true u v f h k e = h e
either false u v f h k e = k e

counted_refused : (s : Seen) (rows : List Row) (f : Refusal) → counted s rows ≡ not_ok f → is_accepted f ≡ false
unfolding counted counted_by raised taken
counted_refused s rows f e = go (first (is_match s) rows) e
  where
    go : (o : Option Row) → counted_by s rows o ≡ not_ok f → is_accepted f ≡ false
    go None h = either (any is_free rows) _ _ f (accepted_as _ f) (refused_as 12 f refl) h
    go (Some r) h = either (leb 4294967295 r.count) _ _ f (refused_as 13 f refl) (accepted_as _ f) h

refused_first : {A : Type 0} (t : Bool) (n : ℕ) (u : OrRefused A) (f : Refusal) → eqb n 0 ≡ false → (refuse_if t (refusal n 0) >>= λ _. u) ≡ not_ok f
    → (u ≡ not_ok f → is_accepted f ≡ false) → is_accepted f ≡ false
unfolding ◌>>=◌ refuse_if
refused_first true n u f z e k = refused_as n f z e
refused_first false n u f z e k = k e

refused_then : {A B : Type 0} (u : OrRefused A) (g : A → B) (f : Refusal) → (u >>= λ a. ok (g a)) ≡ not_ok f → (u ≡ not_ok f → is_accepted f ≡ false) → is_accepted f ≡ false
unfolding ◌>>=◌
refused_then (ok a) g f e k = accepted_as (g a) f e
refused_then (not_ok r) g f e k = k (cc e)

pub refused_number : (c : Call) (l : Listing) (f : Refusal) → gives c l ≡ not_ok f → is_accepted f ≡ false
unfolding gives cleared entered
refused_number (clear d) l f h = refused_first (not (is_domain (without_dot d))) 11 _ f refl h (accepted_as _ f)
refused_number (enter e lists d) l f h =
    refused_first (not (is_judged e.finding)) 14 _ f refl h (λ g.
    refused_first (not (serves l.domain d)) 27 _ f refl g (λ i.
    refused_first (is_nothing (named_by lists e.author e.set)) 28 _ f refl i (λ k.
    refused_then (counted (seen_in e) (on_list l.rows)) _ f k (counted_refused (seen_in e) (on_list l.rows) f))))

-- ------------------------------------------------------------------ one call

-- what holds of a list that was cleared, and of the verdicts accepted since
unfoldable pub TalliesSoFar : (f : Seen → Bool) → Listing → List Seen → Type 0
TalliesSoFar f l seen = is_nothing l.domain ≡ false → (total f (on_list l.rows) ≡ number f seen) × T (all tidy (on_list l.rows))

module _ (f : Seen → Bool) (l : Listing) (seen : List Seen) (so_far : TalliesSoFar f l seen) where
  refused_tallies : (c : Call) (r : Refusal) → gives c l ≡ not_ok r → TalliesSoFar f l (with_call seen c (is_accepted r))
  unfolding with_call
  refused_tallies c r h = rw (refused_number c l r h) so_far

  clear_tallies : (d : Domain) (l' : Listing) → cleared d l ≡ ok l' → TalliesSoFar f l' []
  unfolding TalliesSoFar on_list past_list number emptied
  clear_tallies d l' h =
      let on = rejoin_on 256 (map (with_count 0) (take 256 l.rows)) l.rows (length-map (take 256 l.rows) (with_count 0)) in
      rw (← cleared_ok d l l' h) (λ _. (ap (total f) on ∙ clear_total f (take 256 l.rows), rw on (clear_tidy (take 256 l.rows))))

  enter_tallies : (e : Entry) (lists : Lists) (d : Domain) (l' : Listing) → entered e lists d l ≡ ok l' → TalliesSoFar f l' (seen_in e ∷ seen)
  unfolding TalliesSoFar on_list past_list number
  enter_tallies e lists d l' h =
      let did = entered_ok e lists d l l' h in
      rw (← did.is_after) (λ c. rw (rejoin_on 256 did.rows l.rows did.one_more.as_many)
      (omega (arith, did.one_more.totals f (entered_plain e) (so_far c).1, (so_far c).0), did.one_more.stays (entered_plain e) (so_far c).1))

  pub call_tallies : (c : Call) (g : OrRefused Listing) → gives c l ≡ g → TalliesSoFar f (left_by l g) (with_call seen c (is_accepted (refusal_of g)))
  unfolding gives left_by refusal_of is_accepted with_call
  call_tallies c (not_ok r) h = refused_tallies c r h
  call_tallies (clear d) (ok l') h = clear_tallies d l' h
  call_tallies (enter e lists d) (ok l') h = enter_tallies e lists d l' h

-- ------------------------------------------------------------------ rows past the list

kept_on : (on old : List Row) → length on ≡ length (on_list old) → Untouched old (on ++ past_list old)
unfolding on_list past_list
kept_on on old e = record { past = rejoin_past 256 on old e; as_many = rejoin_length 256 on old e }

pub kept_by : (l : Listing) (c : Call) (g : OrRefused Listing) → gives c l ≡ g → Untouched l.rows (left_by l g).rows
unfolding gives left_by emptied on_list
kept_by l c (not_ok r) h = record { past = refl; as_many = refl }
kept_by l (clear d) (ok l') h = rw (← cleared_ok d l l' h) (kept_on (map (with_count 0) (on_list l.rows)) l.rows (length-map (take 256 l.rows) (with_count 0)))
kept_by l (enter e lists d) (ok l') h =
    let did = entered_ok e lists d l l' h in
    rw (← did.is_after) (kept_on did.rows l.rows did.one_more.as_many)

-- ------------------------------------------------------------------ a day's end

emptied_counts : (l : List Row) → map (λ r. r.count) (map (with_count 0) l) ≡ map (λ _. 0) l
unfolding with_count
emptied_counts [] = refl
emptied_counts (r ∷ l) = ap (λ (ns : List ℕ). 0 ∷ ns) (emptied_counts l)

-- what was seen stays in every row
emptied_seen : (n : ℕ) (l : List Row) → map (λ r. r.seen) (map (with_count 0) (take n l) ++ drop n l) ≡ map (λ r. r.seen) l
unfolding with_count
emptied_seen zero l = refl
emptied_seen (suc n) [] = refl
emptied_seen (suc n) (r ∷ l) = ap (λ (ss : List Seen). r.seen ∷ ss) (emptied_seen n l)

emptied_rows : (d : Domain) (l : Listing) → DayEnd l.rows (emptied d l).rows
unfolding emptied on_list past_list
emptied_rows d l = record {
  counts = ap (map (λ (r : Row). r.count)) (rejoin_on 256 (map (with_count 0) (take 256 l.rows)) l.rows (length-map (take 256 l.rows) (with_count 0))) ∙ emptied_counts (take 256 l.rows);
  no_more = emptied_seen 256 l.rows;
}

pub ended : (l : Listing) (d : Domain) (g : OrRefused Listing) → gives (clear d) l ≡ g → (l' : Listing) → l' ≡ left_by l g → is_accepted (refusal_of g) ≡ true → DayEnd l.rows l'.rows
unfolding left_by refusal_of gives
ended l d (not_ok r) h l' e a = absurd (true→T {b = false} (sym (refused_number (clear d) l r h) ∙ a))
ended l d (ok g) h l' e a = rw (e, ← cleared_ok d l g h) (emptied_rows d l)
