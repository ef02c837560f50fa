-- The claim on every list of calls, proved.
use mathlib.Core.Path.{◌≡◌, refl, sym, ap, ◌∙◌}
use mathlib.Core.List.{List, [], ◌∷◌, ◌++◌, flatten, append_assoc}
use mathlib.Core.Logic.{◌⊎◌, inl, inr}
use mathlib.Core.Bool.{Bool, true, false, false≢true}
use Prim.Native.Nat.{ℕ, zero, suc, ◌+◌, ◌-◌, ◌≤◌}
use native.Mathlib.Omega.{arith}
use lib.Dec.{eqb}
use lib.ListN.{length, take, drop}
use borrow.Author.Tests.{eq-eqb}
use Rattle.std.specs.Prelude.{if◌then◌else◌}
use Rattle.octets.specs.Octets.{Octets}
use Rattle.octets.proofs.TextLaws.{true→T}
use Rattle.octets.specs.Refusing.{OrRefused, ok, not_ok}
use Rattle.octets.specs.declared.Refusal.{Refusal}
use Rattle.parsing.specs.Reads.{Reader, Fed, Left, open_at, stuck, feed, run, ended, closed}
use Rattle.parsing.proofs.ReadsLaws.{after_rows, then_feed, feed_append, feed_stuck}
use Rattle.parsing_limit.specs.Limits.{at_most, limited, limited_left}
use Rattle.parsing_limit.proofs.LimitLaws.{limited_fed, run_most, ended_limited}
use Rattle.report_bound.proofs.Bounds.{report_bound}
use Rattle.report_form.specs.ReportForm.{Said}
use Rattle.report_form.specs.code.ReportReading.{reading_report, new_reader}
use Rattle.report_kept.specs.declared.ReaderState.{ReaderState}
use Rattle.report_taken.specs.code.Taking.{largest}
use Rattle.report_taken.proofs.TakeLaws.{feed_nothing}
use Rattle.report_reader.proofs.ReaderLaws.{take_all}
use Rattle.report_parts.specs.declared.Told.{Told}
use Rattle.report_parts.specs.Parts.{LentReader, row_in, read_as, row_given, told_left, told_of, told_refusal, told_end, IsNew, Feeds, EndsAt}
use Rattle.report_parts.specs.PartsClaims.{PartCall, FedBy, Called, reader_after, text_used, rows_given, still_lent, Lends, OfNewReader, PartsClaims}
use Rattle.report_parts.proofs.TellLaws.{Refused, event_refused, end_refused}

abbrev AnyFed : Type 0
AnyFed = Fed Said (Unit {0})

abbrev AnyReader : Type 0
AnyReader = Reader Said (Unit {0})

-- ------------------------------------------------------------------ what calls leave

fed : (r : LentReader) (c : PartCall) → FedBy r c → feed (read_as r) (take c.used c.part) ≡ record { rows = row_given c.told c.after; reader = read_as c.after }
fed r c p = λ j. record { rows = sym p.hands j; reader = sym p.leaves j }

-- it is what the octets that they used leave
as_fed : (cs : List PartCall) (r : LentReader) → Called r cs → feed (read_as r) (text_used cs) ≡ record { rows = rows_given cs; reader = read_as (reader_after r cs) }
unfolding Called text_used rows_given reader_after then_feed after_rows read_as
as_fed [] r p = feed_nothing r.state r.row
as_fed (c ∷ cs) r p =
    feed_append (read_as r) (take c.used c.part) (text_used cs)
    ∙ ap (λ g. then_feed g (text_used cs)) (fed r c p.0)
    ∙ ap (after_rows (row_given c.told c.after)) (as_fed cs c.after p.1)

-- a new reader counts as far as any report goes
counts : (s : Octets) → feed (limited largest new_reader) s ≡ limited_fed largest (feed new_reader s)
unfolding feed limited limited_left new_reader largest
counts s =
    let all : largest - 0 ≡ largest = omega arith in
    ap (λ n. run 0 (at_most n reading_report) s) all ∙ run_most largest 0 largest reading_report s (omega arith) (report_bound largest (omega arith))

same_left : (n : ℕ) (l : Left Said (Unit {0})) → told_left (limited_left n l) ≡ told_left l
unfolding told_left limited_left
same_left n (open_at t) = refl
same_left n (stuck q) = refl

same_told : (rs : List Said) (v : AnyReader) → told_of (record { rows = rs; reader = limited largest v }) ≡ told_of (record { rows = rs; reader = v })
unfolding told_of limited
same_told [] v = same_left (largest - v.taken) v.left
same_told (s ∷ ss) v = refl

-- what is told, case by case
told_apart : (t : Told) (r : LentReader) (v : AnyReader) → t ≡ told_of (record { rows = row_given t r; reader = v })
    → ((t ≡ record { event = 0; number = 0; place = 0; count = 0 }) × ((q : Refusal) → v.left ≡ stuck q → ⊥))
    ⊎ (t ≡ record { event = 1; number = 0; place = 0; count = (row_in r).count })
    ⊎ ((q : Refusal) × (v.left ≡ stuck q) × (t ≡ record { event = 2; number = q.number; place = q.place; count = 0 }))
unfolding told_of told_left row_given
told_apart t r v e = go (eqb t.event 1) refl v.left refl
  where
    go : (b : Bool) → eqb t.event 1 ≡ b → (m : Left Said (Unit {0})) → v.left ≡ m
        → ((t ≡ record { event = 0; number = 0; place = 0; count = 0 }) × ((q : Refusal) → v.left ≡ stuck q → ⊥))
        ⊎ (t ≡ record { event = 1; number = 0; place = 0; count = (row_in r).count })
        ⊎ ((q : Refusal) × (v.left ≡ stuck q) × (t ≡ record { event = 2; number = q.number; place = q.place; count = 0 }))
    go true z m f = inr (inl (rw z at e))
    go false z (open_at u) f = inl (rw (z, f) at e, λ q h. true→T {b = false} (cc (sym f ∙ h)))
    go false z (stuck q) f = inr (inr (q, f, rw (z, f) at e))

end_apart : (t : Told) (a : OrRefused (Unit {0})) → t ≡ told_end a
    → ((a ≡ ok tt) × (t ≡ record { event = 0; number = 0; place = 0; count = 0 }))
    ⊎ ((q : Refusal) × (a ≡ not_ok q) × (t ≡ record { event = 2; number = q.number; place = q.place; count = 0 }))
unfolding told_end
end_apart t (ok a) e = inl (refl, e)
end_apart t (not_ok q) e = inr (q, refl, e)

module _ (r : LentReader) (new : read_as r ≡ limited largest new_reader) (cs : List PartCall) (called : Called r cs) where
  all_fed : record { rows = rows_given cs; reader = read_as (reader_after r cs) } ≡ limited_fed largest (feed new_reader (text_used cs))
  all_fed = sym (as_fed cs r called) ∙ ap (λ v. feed v (text_used cs)) new ∙ counts (text_used cs)

  left_uncut : read_as (reader_after r cs) ≡ limited largest (feed new_reader (text_used cs)).reader
  unfolding limited_fed
  left_uncut = ap (λ (f : AnyFed). f.reader) all_fed

  -- one call more
  module _ (c : PartCall) (p : FedBy (reader_after r cs) c) where
    abbrev more : Octets
    more = take c.used c.part

    leaves_uncut : read_as c.after ≡ limited largest (feed new_reader (text_used cs ++ more)).reader
    unfolding limited_fed then_feed after_rows
    leaves_uncut =
        p.leaves
        ∙ sym (ap (λ (f : AnyFed). f.reader) (feed_append (read_as r) (text_used cs) more ∙ ap (λ g. then_feed g more) (as_fed cs r called)))
        ∙ ap (λ (f : AnyFed). f.reader) (ap (λ v. feed v (text_used cs ++ more)) new ∙ counts (text_used cs ++ more))

    told_so : c.told ≡ told_of (record { rows = row_given c.told c.after; reader = (feed new_reader (text_used cs ++ more)).reader })
    told_so =
        p.tells
        ∙ ap told_of (fed (reader_after r cs) c p)
        ∙ ap (λ v. told_of (record { rows = row_given c.told c.after; reader = v })) leaves_uncut
        ∙ same_told (row_given c.told c.after) (feed new_reader (text_used cs ++ more)).reader

  ends_so : (after : ReaderState) (told : Told) → EndsAt (reader_after r cs).state after told → told ≡ told_end (ended (feed new_reader (text_used cs)).reader)
  ends_so after told p =
      p.tells (reader_after r cs).row
      ∙ ap (λ v. told_end (ended v)) left_uncut
      ∙ ap told_end (ended_limited largest (feed new_reader (text_used cs)).reader)

  of_new_reader : OfNewReader r cs
  unfolding limited_fed
  of_new_reader = record {
    rows_uncut = ap (λ (f : AnyFed). f.rows) all_fed;
    told_uncut = λ c p. told_apart c.told c.after (feed new_reader (text_used cs ++ take c.used c.part)).reader (told_so c p);
    end_uncut = λ after told p. end_apart told (ended (feed new_reader (text_used cs)).reader) (ends_so after told p);
  }

-- ------------------------------------------------------------------ after a refusal

-- a reader that is refused tells it of every part, and of the end
part_again : (r : LentReader) (q : Refusal) → (read_as r).left ≡ stuck q → (c : PartCall) → FedBy r c → c.told ≡ told_refusal q
unfolding told_of told_left
part_again r q e c p =
    p.tells ∙ ap told_of (feed_stuck (read_as r) q (take c.used c.part) e) ∙ ap told_left e

end_again : (r : LentReader) (q : Refusal) → (read_as r).left ≡ stuck q → (after : ReaderState) (told : Told) → EndsAt r.state after told → told ≡ told_refusal q
unfolding told_end ended
end_again r q e after told p = p.tells r.row ∙ rw e refl

stuck_then : (r : LentReader) (c : PartCall) → FedBy r c → c.told.event ≡ 2 → (q : Refusal) × ((read_as c.after).left ≡ stuck q) × (told_refusal q ≡ c.told)
stuck_then r c p two =
    let it = event_refused (feed (read_as r) (take c.used c.part)) c.told p.tells two in
    (it.by, ap (λ (v : AnyReader). v.left) p.leaves ∙ it.left, sym it.tells)

again : (r : LentReader) (c d : PartCall) → FedBy r c → c.told.event ≡ 2 → FedBy c.after d → d.told ≡ c.told
again r c d p two n = let (q, left, tells) = stuck_then r c p two in part_again c.after q left d n ∙ tells

at_the_end : (r : LentReader) (c : PartCall) → FedBy r c → c.told.event ≡ 2 → (after : ReaderState) (told : Told) → EndsAt c.after.state after told → told ≡ c.told
at_the_end r c p two after told n = let (q, left, tells) = stuck_then r c p two in end_again c.after q left after told n ∙ tells

closed_left : (v : AnyReader) (q : Refusal) → ended v ≡ not_ok q → (closed v).left ≡ stuck q
unfolding closed
closed_left v q e = rw (e, closed) refl

after_the_end : (s after : ReaderState) (told : Told) → EndsAt s after told → told.event ≡ 2 → (row : Octets) (c : PartCall) → FedBy (record { state = after; row = row }) c → c.told ≡ told
after_the_end s after told p two row c n =
    let before = read_as (record { state = s; row = row }) in
    let (q, is, tells) = end_refused (ended before) told (p.tells row) two in
    part_again (record { state = after; row = row }) q (ap (λ (v : AnyReader). v.left) (p.leaves row) ∙ closed_left before q is) c n ∙ sym tells

-- ------------------------------------------------------------------ parts that are lent whole

joined : (n : ℕ) (s : Octets) → take n s ++ drop n s ≡ s
joined zero s = refl
joined (suc n) [] = refl
joined (suc n) (y ∷ s) = ap (λ l. y ∷ l) (joined n s)

used_text : (cs : List PartCall) (r : LentReader) → Called r cs → (ps : List Octets) → Lends cs ps → text_used cs ≡ flatten ps
unfolding Called text_used Lends still_lent flatten
used_text [] r called ps e = sym (ap flatten e)
used_text (c ∷ cs) r called [] l = absurd l
used_text (c ∷ cs) r called (p ∷ ps) l = go (eqb c.told.event 1) refl (λ qs m. used_text cs c.after called.1 qs m)
  where
    go : (b : Bool) → eqb c.told.event 1 ≡ b → ((qs : List Octets) → Lends cs qs → text_used cs ≡ flatten qs) → take c.used c.part ++ text_used cs ≡ p ++ flatten ps
    go true q ih =
        let rest : Lends cs (drop c.used c.part ∷ ps) = rw q at l.1 in
        ap (λ u. take c.used c.part ++ u) (ih (drop c.used c.part ∷ ps) rest)
        ∙ sym (append_assoc (take c.used c.part) (drop c.used c.part) (flatten ps))
        ∙ ap (λ u. u ++ flatten ps) (joined c.used c.part ∙ l.0)
    go false q ih =
        let rest : Lends cs ps = rw q at l.1 in
        let all = called.0.whole (λ one. false≢true (sym q ∙ eq-eqb c.told.event 1 one)) in
        ap (λ u. take c.used c.part ++ u) (ih ps rest)
        ∙ ap (λ u. u ++ flatten ps) (take_all c.part c.used (omega (arith, all)) ∙ l.0)

pub parts_claimed : PartsClaims
parts_claimed = record {
  all_used = λ r cs called ps l. used_text cs r called ps l;
  as_uncut = λ s row new cs called. of_new_reader (record { state = s; row = row }) (new row) cs called;
  same_again = again;
  same_at_the_end = at_the_end;
  same_after_the_end = after_the_end;
}
