-- What clearing and entering promise, from what their parts give.
use mathlib.Core.Path.{◌≡◌, refl, sym, ap}
use mathlib.Core.List.{List, [], ◌∷◌, ◌++◌}
use mathlib.Core.Bool.{Bool, true, false}
use native.Mathlib.Omega.{arith}
use lib.Dec.{leb}
use lib.ListN.{length, take, drop, replicate}
use borrow.Author.Tests.{le-leb}
use Rattle.std.specs.Prelude.{if◌then◌else◌, Option, None, Some, Result, Ok, Err}
use Rattle.octets.specs.Octets.{Octets, is_nothing, is_set, any, lower}
use Rattle.octets.specs.declared.Refusal.{Refusal}
use Rattle.octets.specs.Refusing.{◌>>=◌, OrRefused, ok, not_ok, refusal, refuse_if}
use Rattle.octets.specs.Lent.{left, over, fits}
use Rattle.octets.proofs.TextLaws.{lower_length}
use Rattle.domain.specs.Domain.{without_dot, is_domain}
use Rattle.domain.proofs.RuleLaws.{domain_short}
use Rattle.rows.specs.declared.Seen.{Seen}
use Rattle.rows.specs.declared.Row.{Row}
use Rattle.rows.specs.declared.Entry.{Entry}
use Rattle.rows.specs.Lists.{Lists, named_by}
use Rattle.rows.specs.Rows.{Listing, is_free, is_match, on_list, past_list, first, raised, taken, counted_by, counted, is_judged, seen_in, serves, cleared, entered}
use Rattle.rows.specs.History.{clear, enter, gives, refusal_of, is_accepted, left_by}
use Rattle.rows_day.specs.declared.DayList.{DayList}
use Rattle.rows_day.specs.Day.{domain_in, listing, named_for, list_after, Does}
use Rattle.rows_check.specs.code.Check.{named, checked, refusal_in}
use Rattle.rows_note.specs.code.Note.{answer_of, rows_left, Notes}
use Rattle.rows_note.proofs.EmptyLaws.{emptied_rows}

no_err : {A : Type 0} {a : A} {r : Refusal} → ◌≡◌ {A = Result A Refusal} (Ok a) (Err r) → ⊥
no_err e = cc

same_ok : {a b : DayList} → ◌≡◌ {A = Result DayList Refusal} (Ok a) (Ok b) → a ≡ b
same_ok e = cc

same_err : {A : Type 0} {r s : Refusal} → ◌≡◌ {A = Result A Refusal} (Err r) (Err s) → r ≡ s
same_err e = cc

-- ------------------------------------------------------------------ clearing

front_of : (a b : Octets) → take (length a) (a ++ b) ≡ a
front_of [] b = refl
front_of (x ∷ a) b = ap (λ (r : Octets). x ∷ r) (front_of a b)

-- a list that is named for a domain has its name
has_name : (d : Octets) → is_domain (without_dot d) ≡ true → domain_in (named_for d) ≡ Some (lower (without_dot d))
unfolding domain_in named_for is_set left fits over
has_name d e =
    let x = without_dot d in
    rw (le-leb (length (lower x)) 253 (omega (arith, lower_length x, domain_short x e))) (ap Some (rw (← lower_length x) (front_of (lower x) (drop (length (lower x)) (replicate 253 0)))))

module _ (l : DayList) (d : Octets) (ys : List Row) where
  pub clear_refused : (r : Refusal) → named d ≡ Err r → Does (clear d) l ys (record { list = l; refusal = r }) ys
  unfolding named gives cleared refusal_of left_by list_after is_accepted ◌>>=◌ refuse_if
  clear_refused r h = go (is_domain (without_dot d)) refl
    where
      go : (b : Bool) → is_domain (without_dot d) ≡ b → Does (clear d) l ys (record { list = l; refusal = r }) ys
      go true e = absurd (no_err (rw e at h))
      go false e = rw (← same_err (rw e at h)) (record { answers = rw e refl; leaves = rw e refl; goes_on = refl })

  pub clear_done : (n : DayList) → named d ≡ Ok n → Does (clear d) l ys (record { list = n; refusal = refusal 0 0 }) (emptied_rows ys)
  unfolding named gives cleared refusal_of left_by list_after is_accepted listing ◌>>=◌ refuse_if
  clear_done n h = go (is_domain (without_dot d)) refl
    where
      go : (b : Bool) → is_domain (without_dot d) ≡ b → Does (clear d) l ys (record { list = n; refusal = refusal 0 0 }) (emptied_rows ys)
      go false e = absurd (no_err (sym (rw e at h)))
      go true e = rw (← same_ok (rw e at h)) (record { answers = rw e refl; leaves = rw (e, has_name d e) refl; goes_on = refl })

-- ------------------------------------------------------------------ entering

module _ (e : Entry) (lists : Lists) (d : Octets) (l : DayList) (ys : List Row) where
  abbrev due : Result (Unit {0}) Refusal
  due = checked (domain_in l) e lists d

  pub enter_refused : (r : Refusal) → due ≡ Err r → Does (enter e lists d) l ys (record { list = l; refusal = r }) ys
  unfolding checked gives entered refusal_of left_by listing list_after ◌>>=◌ refuse_if
  enter_refused r h = go (is_judged e.finding) refl (serves (domain_in l) d) refl (is_nothing (named_by lists e.author e.set)) refl
    where
      go : (a : Bool) → is_judged e.finding ≡ a → (b : Bool) → serves (domain_in l) d ≡ b → (c : Bool) → is_nothing (named_by lists e.author e.set) ≡ c → Does (enter e lists d) l ys (record { list = l; refusal = r }) ys
      go false f b g c k = rw (← same_err (rw f at h)) (record { answers = rw f refl; leaves = rw f refl; goes_on = refl })
      go true f false g c k = rw (← same_err (rw (f, g) at h)) (record { answers = rw (f, g) refl; leaves = rw (f, g) refl; goes_on = refl })
      go true f true g true k = rw (← same_err (rw (f, g, k) at h)) (record { answers = rw (f, g, k) refl; leaves = rw (f, g, k) refl; goes_on = refl })
      go true f true g false k = absurd (no_err (rw (f, g, k) at h))

  -- where nothing is refused before, entering is what the rows give
  noted_rows : OrRefused (List Row) → OrRefused Listing
  noted_rows u = u >>= (λ rows. ok (record { domain = domain_in l; rows = rows ++ past_list ys }))

  only_rows : due ≡ Ok tt → entered e lists d (listing l ys) ≡ noted_rows (counted (seen_in e) (on_list ys))
  unfolding checked entered listing noted_rows ◌>>=◌ refuse_if
  only_rows h = go (is_judged e.finding) refl (serves (domain_in l) d) refl (is_nothing (named_by lists e.author e.set)) refl
    where
      go : (a : Bool) → is_judged e.finding ≡ a → (b : Bool) → serves (domain_in l) d ≡ b → (c : Bool) → is_nothing (named_by lists e.author e.set) ≡ c → entered e lists d (listing l ys) ≡ noted_rows (counted (seen_in e) (on_list ys))
      go false f b g c k = absurd (no_err (sym (rw f at h)))
      go true f false g c k = absurd (no_err (sym (rw (f, g) at h)))
      go true f true g true k = absurd (no_err (sym (rw (f, g, k) at h)))
      go true f true g false k = rw (f, g, k) refl

  -- the answer has the refusal
  Told : OrRefused (List Row) → Type 0
  Told u = refusal_in (answer_of u) ≡ refusal_of (noted_rows u)

  either : (b : Bool) (u v : OrRefused (List Row)) → Told u → Told v → Told (if b then u else v)
  either true u v h k = h
  either false u v h k = k

  answer_tells : (s : Seen) (rows : List Row) → Told (counted s rows)
  unfolding counted counted_by raised taken answer_of refusal_in refusal_of noted_rows Told ◌>>=◌
  answer_tells s rows = go (first (is_match s) rows)
    where
      go : (o : Option Row) → Told (counted_by s rows o)
      go None = either (any is_free rows) _ _ refl refl
      go (Some r) = either (leb 4294967295 r.count) _ _ refl refl

  rows_tell : (u : OrRefused (List Row)) → record { domain = domain_in l; rows = rows_left ys u } ≡ left_by (listing l ys) (noted_rows u)
  unfolding rows_left left_by listing noted_rows ◌>>=◌
  rows_tell (ok rows) = refl
  rows_tell (not_ok f) = refl

  pub enter_noted : (done : Unit {0}) → due ≡ Ok done → (m : Result (Unit {0}) Refusal) (zs : List Row) → Notes (seen_in e) ys m zs → Does (enter e lists d) l ys (record { list = l; refusal = refusal_in m }) zs
  unfolding gives listing list_after Told
  enter_noted done h m zs noted = record {
    answers = rw (noted.answers, only_rows h) (answer_tells (seen_in e) (on_list ys));
    leaves = rw (noted.leaves, only_rows h) (rows_tell (counted (seen_in e) (on_list ys)));
    goes_on = refl;
  }
