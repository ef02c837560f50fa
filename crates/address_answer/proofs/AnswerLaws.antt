-- Laws of an answer, by what the code finds.
use mathlib.Core.Path.{◌≡◌, refl, ap, ap₂, sym, ◌∙◌, subst}
use mathlib.Core.List.{List, [], ◌∷◌, ◌++◌}
use mathlib.Core.Bool.{Bool, true, false, ◌&&◌, ◌||◌, not, true≢false, false≢true, and-false}
use Prim.Native.Nat.{ℕ, ◌+◌, ◌≤◌, ◌<◌, min}
use native.Mathlib.Omega.{arith}
use native.Mathlib.Decide.{dec_le}
use lib.Dec.{ltb}
use lib.ListN.{length, drop}
use borrow.Author.Tests.{lt-ltb, le-ltb, ltb-true}
use Rattle.std.specs.Prelude.{if◌then◌else◌, Result, Ok, Err, Option, None, Some}
use Rattle.octets.specs.Octets.{Octets, is_set, lower, same_text}
use Rattle.octets.specs.Refusing.{refusal}
use Rattle.octets.specs.declared.Refusal.{Refusal}
use Rattle.octets.proofs.TextLaws.{flag_unset, flag_set, true→T}
use Rattle.lookup.specs.Lookup.{Name, Answers, Standing, needs, has}
use Rattle.lookup.proofs.RunLaws.{has≢needs}
use Rattle.domain.specs.declared.Octet.{Octet}
use Rattle.domain.specs.Domain.{without_dot, asked_name}
use Rattle.txt.specs.declared.Status.{Status}
use Rattle.txt.specs.declared.Reply.{Reply}
use Rattle.txt.specs.Answers.{Answer, answer_of}
use Rattle.txt.specs.Taking.{taken, left_after, Takes}
use Rattle.asking.specs.Asking.{accepted, refused, Given, given}
use Rattle.alignment_stored.specs.code.Stored.{slot}
use Rattle.walk_keep.proofs.KeepLaws.{kept_length}
use Rattle.address.specs.declared.Agreement.{Agreement}
use Rattle.address.specs.Address.{confirmation, confirming_name}
use Rattle.address.specs.Checks.{answer, Pair}
use Rattle.address_check.specs.declared.CheckPoint.{CheckPoint}
use Rattle.address_check.specs.declared.Check.{Check}
use Rattle.address_check.specs.Numbers.{pair_now, mark_in}
use Rattle.address_check.specs.Promises.{changes_check, DoesCheck}
use Rattle.address_check.specs.code.Cursor.{Cursor, on_policy, on_host, on_confirming, settled, answered_on, stands, needed, is_walk}
use Rattle.address_check.specs.code.Machine.{Keeps, keeps_nothing, walking, confirming, keeping_at, keeping, answer_taken, has_room, answer_at, machine_call}
use Rattle.address_check.specs.code.View.{cursor_in, replies_now, cursor_now, asked_now, view_by, view, acceptance_back}
use Rattle.address_names.proofs.NameLaws.{on_a_walk}
use Rattle.address_texts.specs.code.Confirming.{confirming_of, TakesConfirming}
use Rattle.address_check.specs.code.Pairs.{both}
use Rattle.address_asked.specs.declared.WaitedFor.{WaitedFor}
use Rattle.address_asked.specs.code.Asked.{is_for, Waits}
use Rattle.address_accept.specs.code.Accepting.{Accepts, AcceptsInRoom, Settles}
use Rattle.std.proofs.lemmas.Option.{none-some}

-- ------------------------------------------------------------------ what is kept

-- of a started check in which no name is asked
unfoldable quiet : Check → Keeps
quiet x = record { pair = Some (pair_now x); replies = replies_now x; confirmed = is_set x.confirmed; asked = None; at = cursor_now x }

quiet_view : (x : Check) → is_set x.started ≡ true → x.asked ≡ 0 → view x ≡ quiet x
unfolding view view_by asked_now quiet
quiet_view x s a = rw (s, flag_unset x.asked a)

same_pair : (x y : Check) → x.domains ≡ y.domains → x.numbers ≡ y.numbers → pair_now x ≡ pair_now y
unfolding pair_now
same_pair x y d n = rw (d, n)

made : {P Q : Pair} {ρ σ : Answers Reply} {x y : Bool} {c d : Cursor} → P ≡ Q → ρ ≡ σ → x ≡ y → c ≡ d
    → ◌≡◌ {A = Keeps} (record { pair = Some P; replies = ρ; confirmed = x; asked = None; at = c }) (record { pair = Some Q; replies = σ; confirmed = y; asked = None; at = d })
made a b c d = rw (a, b, c, d)

refused_taken : (h : Octets) (a : Answer) (t : Result Reply Refusal) (f : Refusal) → Err f ≡ confirming_of h a t → t ≡ Err f
unfolding confirming_of
refused_taken h a (Err g) f e = ap Err cc
refused_taken h a (Ok r) f e = absurd (true→T {b = false} (cc e))

says_taken : (h : Octets) (a : Answer) (t : Result Reply Refusal) (g : Agreement) → Ok g ≡ confirming_of h a t → (r : Reply) × (t ≡ Ok r) × (g ≡ confirmation h a)
unfolding confirming_of
says_taken h a (Err f) g e = absurd (true→T {b = false} (cc e))
says_taken h a (Ok r) g e = (r, refl, cc)

module _ (e : Check) (full : length e.kept ≡ 48) where
  abbrev room_in : Bool
  room_in = not (is_walk (cursor_now e)) || ltb e.count 16

  abbrev pub live_in : Bool
  live_in = is_set e.started && (is_set e.asked && room_in)

  same_room : ltb (length (replies_now e)) 16 ≡ ltb e.count 16
  unfolding replies_now
  same_room = rw (kept_length e.domains e.count 16 e.kept full) (go (dec_le 16 e.count))
    where
      go : Dec (16 ≤ e.count) → ltb (min e.count 16) 16 ≡ ltb e.count 16
      go (yes h) = le-ltb (min e.count 16) 16 (omega arith) ∙ sym (le-ltb e.count 16 h)
      go (no h) = lt-ltb (min e.count 16) 16 (omega arith) ∙ sym (lt-ltb e.count 16 (omega arith))

  live_parts : live_in ≡ true → (is_set e.started ≡ true) × (is_set e.asked ≡ true) × (room_in ≡ true)
  live_parts = go (is_set e.started) (is_set e.asked) room_in
    where
      go : (s a r : Bool) → (s && (a && r)) ≡ true → (s ≡ true) × (a ≡ true) × (r ≡ true)
      go true true true x = (refl, refl, refl)
      go true true false x = absurd (false≢true x)
      go true false r x = absurd (false≢true x)
      go false a r x = absurd (false≢true x)

  pub few : live_in ≡ true → is_walk (cursor_now e) ≡ true → e.count < 16
  few l w = ltb-true e.count 16 (ap (λ b. not b || ltb e.count 16) (sym w) ∙ (live_parts l).2)

  module _ (name : Octets) (a : Answer) (scratch : Octets) where
    -- ---------------------------------------------------------------- for no name

    by_asked : (o : Option Name) → (room_in && is_for name o) ≡ false → (k : Keeps) → has_room k ≡ room_in → answer_at k name a scratch o ≡ (k, given (refused (refusal 5 0)) scratch)
    unfolding answer_at is_for
    by_asked None f k r = refl
    by_asked (Some n) f k r = rw r (go (room_in) (same_text (without_dot name) n) f)
      where
        go : (b t : Bool) → (b && t) ≡ false → (if t && b then answer_taken k n a (left_after a scratch) (taken a scratch) else (k, given (refused (refusal 5 0)) scratch)) ≡ (k, given (refused (refusal 5 0)) scratch)
        go true true f = absurd (true≢false f)
        go true false f = refl
        go false true f = refl
        go false false f = refl

    asked_by : (b : Bool) → ((b && room_in) && is_for name (needed (stands (pair_now e) (cursor_now e)))) ≡ false → (k : Keeps) → has_room k ≡ room_in
        → answer_at k name a scratch (asked_now e b) ≡ (k, given (refused (refusal 5 0)) scratch)
    unfolding asked_now is_for
    asked_by false f k r = by_asked None (and-false (room_in)) k r
    asked_by true f k r = by_asked (needed (stands (pair_now e) (cursor_now e))) f k r

    room_now : has_room (view_by e true) ≡ room_in
    unfolding has_room view_by
    room_now = ap (λ b. not (is_walk (cursor_now e)) || b) same_room

    started_by : (s : Bool) → ((s && (is_set e.asked && room_in)) && is_for name (needed (stands (pair_now e) (cursor_now e)))) ≡ false
        → answer_at (view_by e s) name a scratch (view_by e s).asked ≡ (view_by e s, given (refused (refusal 5 0)) scratch)
    started_by false f = unfold view_by keeps_nothing answer_at in refl
    started_by true f = unfold view_by in asked_by (is_set e.asked) f (view_by e true) room_now

    not_now : (live_in && is_for name (needed (stands (pair_now e) (cursor_now e)))) ≡ false → answer_at (view e) name a scratch (view e).asked ≡ (view e, given (refused (refusal 5 0)) scratch)
    unfolding view
    not_now f = started_by (is_set e.started) f

    -- ---------------------------------------------------------------- for the name that is needed

    module _ (l : live_in ≡ true) (n : Name) (q : stands (pair_now e) (cursor_now e) ≡ needs n) (f : is_for name (needed (stands (pair_now e) (cursor_now e))) ≡ true) where
      view_now : view e ≡ view_by e true
      unfolding view
      view_now = ap (view_by e) (live_parts l).0

      asked_it : (view e).asked ≡ Some n
      unfolding view_by asked_now needed
      asked_it = ap (λ (k : Keeps). k.asked) view_now ∙ ap (asked_now e) (live_parts l).1 ∙ ap needed q

      named_so : same_text (without_dot name) n ≡ true
      unfolding is_for needed
      named_so = rw q at f

      now_taken : answer_at (view e) name a scratch (view e).asked ≡ answer_taken (view e) n a (left_after a scratch) (taken a scratch)
      unfolding answer_at
      now_taken =
          ap (answer_at (view e) name a scratch) asked_it
          ∙ ap₂ (λ (x y : Bool). if x && y then answer_taken (view e) n a (left_after a scratch) (taken a scratch) else (view e, given (refused (refusal 5 0)) scratch)) named_so (ap has_room view_now ∙ room_now ∙ (live_parts l).2)

      -- refused 6 or 10
      pub taken_refused : (r : Refusal) → taken a scratch ≡ Err r → answer_at (view e) name a scratch (view e).asked ≡ (view e, given (refused r) (left_after a scratch))
      unfolding answer_taken
      taken_refused r g = now_taken ∙ ap (answer_taken (view e) n a (left_after a scratch)) g

      inner : (r : Reply) → keeping (view e) (view e).pair n a r ≡ keeping_at (view e) (pair_now e) n a r (cursor_now e)
      unfolding keeping view_by
      inner r = ap (λ o. keeping (view e) o n a r) (ap (λ (k : Keeps). k.pair) view_now) ∙ ap (keeping_at (view e) (pair_now e) n a r) (ap (λ (k : Keeps). k.at) view_now)

      kept_by : (r : Reply) → taken a scratch ≡ Ok r → answer_at (view e) name a scratch (view e).asked ≡ (keeping_at (view e) (pair_now e) n a r (cursor_now e), given accepted (left_after a scratch))
      unfolding answer_taken
      kept_by r g = now_taken ∙ ap (answer_taken (view e) n a (left_after a scratch)) g ∙ ap (λ k. (k, given accepted (left_after a scratch))) (inner r)

      walk_keeping : (x : Cursor) (r : Reply) → is_walk x ≡ true → keeping_at (view e) (pair_now e) n a r x ≡ walking (view e) (pair_now e) n r
      unfolding is_walk keeping_at
      walk_keeping (on_policy y) r w = refl
      walk_keeping (on_host o y) r w = refl
      walk_keeping on_confirming r w = absurd (false≢true w)
      walk_keeping (settled g) r w = absurd (false≢true w)

      -- a reply is kept
      pub walk_leaves : (r : Reply) → is_walk (cursor_now e) ≡ true → (walk : ℕ) (place : Octet) → walk ≤ 1 → n ≡ mark_in (pair_now e) walk place → (after : Check) → Accepts e walk place r after
          → view after ≡ keeping_at (view e) (pair_now e) n a r (cursor_now e)
      unfolding walking quiet view_by pair_now
      walk_leaves r w walk place h m after k =
          let ρ = replies_now e ++ ((n, r) ∷ []) in
          let replies : replies_now after ≡ replies_now e ++ ((n, r) ∷ []) = k.replies ∙ ap (λ x. replies_now e ++ ((x, r) ∷ [])) (on_a_walk e.domains e.numbers place walk h ∙ sym m) in
          quiet_view after (ap is_set k.started ∙ (live_parts l).0) k.asked
          ∙ made (same_pair after e k.domains k.numbers) replies (ap is_set k.confirmed) (k.cursor ∙ ap (λ β. answered_on β (pair_now e) (cursor_now e) r) replies)
          ∙ sym (ap (λ x. walking x (pair_now e) n r) view_now)
          ∙ sym (walk_keeping (cursor_now e) r w)

      -- the outcome at the confirming name
      pub settled_leaves : (r : Reply) → cursor_now e ≡ on_confirming → (g : Agreement) → g ≡ confirmation (lower (pair_now e).host) a → (after : Check) → Settles e g after
          → view after ≡ keeping_at (view e) (pair_now e) n a r (cursor_now e)
      unfolding confirming quiet view_by keeping_at
      settled_leaves r x g y after k =
          quiet_view after (ap is_set k.started ∙ (live_parts l).0) k.asked
          ∙ made (same_pair after e k.domains k.numbers) k.replies (flag_set after.confirmed (λ z. omega (arith, k.confirmed))) (k.cursor ∙ ap settled y)
          ∙ sym (ap (λ z. confirming z (pair_now e) a) view_now)
          ∙ sym (ap (keeping_at (view e) (pair_now e) n a r) x)

-- ------------------------------------------------------------------ what each return promises

module _ (e : Check) (full : length e.kept ≡ 48) (name : Octets) (status : Status) (bytes scratch : Octets) {live : Bool} (v : live ≡ live_in e full) where
  pub answer_not_now : Waits (pair_now e) e.point live name WaitedFor.Nothing → DoesCheck e (answer name status bytes scratch) e (given (acceptance_back (Err (refusal 5 0))) scratch)
  unfolding machine_call acceptance_back Waits cursor_now
  answer_not_now w =
      let by = not_now e full name (answer_of status bytes) scratch (rw v at w) in
      record { leaves = sym (ap (λ x. x.0) by); gives = sym (ap (λ x. x.1) by); stands = λ x. refl; same_domains = λ x. (refl, refl) }

  module _ (walk : ℕ) (place : Octet) (w : Waits (pair_now e) e.point live name (WaitedFor.Walk walk place)) (after : Octets) where
    walk_few : e.count < 16
    unfolding Waits cursor_now
    walk_few = few e full (sym v ∙ w.0) w.2

    pub walk_refused : (f : Refusal) → Takes (answer_of status bytes) scratch (Err f) after → DoesCheck e (answer name status bytes scratch) e (given (acceptance_back (Err f)) after)
    unfolding machine_call acceptance_back Waits cursor_now
    walk_refused f k =
        let by = taken_refused e full name (answer_of status bytes) scratch (sym v ∙ w.0) (mark_in (pair_now e) walk place) w.4 w.1 f (sym k.answers) in
        record { leaves = sym (ap (λ x. x.0) by); gives = ap (given (refused f)) k.leaves ∙ sym (ap (λ x. x.1) by); stands = λ x. refl; same_domains = λ x. (refl, refl) }

    pub walk_accepted : (r : Reply) → Takes (answer_of status bytes) scratch (Ok r) after → (c : Check) → AcceptsInRoom e walk place r c
        → DoesCheck e (answer name status bytes scratch) c (given (acceptance_back (Ok tt)) after)
    unfolding machine_call acceptance_back Waits cursor_now changes_check
    walk_accepted r k c in_room =
        let x = in_room.accepts walk_few in
        let by = kept_by e full name (answer_of status bytes) scratch (sym v ∙ w.0) (mark_in (pair_now e) walk place) w.4 w.1 r (sym k.answers) in
        record {
          leaves = walk_leaves e full name (answer_of status bytes) scratch (sym v ∙ w.0) (mark_in (pair_now e) walk place) w.4 w.1 r w.2 walk place w.3 refl c x ∙ sym (ap (λ x. x.0) by);
          gives = ap (given accepted) k.leaves ∙ sym (ap (λ x. x.1) by);
          stands = λ x. absurd (true≢false x);
          same_domains = λ y. (x.domains, x.numbers);
        }

  module _ (w : Waits (pair_now e) e.point live name WaitedFor.Confirming) {h : Octets} (i : h ≡ (pair_now e).host) (after : Octets) where
    at_it : stands (pair_now e) (cursor_now e) ≡ needs (confirming_name (pair_now e).policy (pair_now e).host)
    unfolding Waits cursor_now stands
    at_it = ap (stands (pair_now e)) w.2

    pub confirming_refused : (f : Refusal) → TakesConfirming (answer_of status bytes) (lower h) scratch (Err f) after → DoesCheck e (answer name status bytes scratch) e (given (acceptance_back (Err f)) after)
    unfolding machine_call acceptance_back Waits cursor_now
    confirming_refused f k =
        let by = taken_refused e full name (answer_of status bytes) scratch (sym v ∙ w.0) _ at_it w.1 f (refused_taken (lower h) (answer_of status bytes) (taken (answer_of status bytes) scratch) f k.answers) in
        record { leaves = sym (ap (λ x. x.0) by); gives = ap (given (refused f)) k.leaves ∙ sym (ap (λ x. x.1) by); stands = λ x. refl; same_domains = λ x. (refl, refl) }

    pub confirming_accepted : (g : Agreement) → TakesConfirming (answer_of status bytes) (lower h) scratch (Ok g) after → (c : Check) → Settles e g c
        → DoesCheck e (answer name status bytes scratch) c (given (acceptance_back (Ok tt)) after)
    unfolding machine_call acceptance_back Waits cursor_now changes_check
    confirming_accepted g k c x =
        let (r, t, y) = says_taken (lower h) (answer_of status bytes) (taken (answer_of status bytes) scratch) g k.answers in
        let by = kept_by e full name (answer_of status bytes) scratch (sym v ∙ w.0) _ at_it w.1 r t in
        record {
          leaves = settled_leaves e full name (answer_of status bytes) scratch (sym v ∙ w.0) _ at_it w.1 r w.2 g (y ∙ ap (λ z. confirmation (lower z) (answer_of status bytes)) i) c x ∙ sym (ap (λ x. x.0) by);
          gives = ap (given accepted) k.leaves ∙ sym (ap (λ x. x.1) by);
          stands = λ x. absurd (true≢false x);
          same_domains = λ y. (x.domains, x.numbers);
        }
