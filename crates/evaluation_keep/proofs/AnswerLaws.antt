-- Laws of an answer: what an evaluation keeps after it, and what it gives.
use mathlib.Core.Path.{◌≡◌, refl, ap, sym, ◌∙◌}
use mathlib.Core.List.{List, [], ◌∷◌, ◌++◌}
use mathlib.Core.Bool.{Bool, true, false, ◌&&◌, and-false, false≢true}
use Prim.Native.Nat.{ℕ, ◌+◌, ◌≤◌, ◌<◌, min}
use native.Mathlib.Omega.{arith}
use native.Mathlib.Decide.{dec_le}
use lib.Dec.{ltb}
use lib.ListN.{length, drop}
use borrow.Author.Tests.{ltb-true, lt-ltb, le-ltb}
use Rattle.std.specs.Prelude.{Result, Ok, Err, Option, None, Some}
use Rattle.octets.specs.Octets.{Octets, same_text}
use Rattle.octets.specs.Refusing.{refusal}
use Rattle.octets.specs.declared.Refusal.{Refusal}
use Rattle.lookup.specs.Lookup.{Name}
use Rattle.domain.specs.declared.Octet.{Octet}
use Rattle.domain.specs.Domain.{without_dot, asked_name}
use Rattle.txt.specs.declared.Status.{Status}
use Rattle.txt.specs.declared.Reply.{Reply}
use Rattle.txt.specs.Answers.{Answer, answer_of}
use Rattle.txt.specs.Taking.{taken, left_after, Takes}
use Rattle.walk_known.specs.code.Kept.{kept_answers}
use Rattle.alignment_stored.specs.code.Stored.{slot}
use Rattle.verdict_cursor.specs.declared.Position.{Position}
use Rattle.verdict_cursor.specs.code.Cursor.{stands, needed}
use Rattle.verdict_cursor.specs.code.Standing.{OnlyThese, Moves}
use Rattle.verdict_cursor.specs.code.Positions.{place_in}
use Rattle.asking.specs.Asking.{given, refused}
use Rattle.book.specs.Book.{answer}
use Rattle.evaluation.specs.declared.Evaluation.{Evaluation}
use Rattle.evaluation.specs.code.Machine.{Keeps, keeps_nothing, keeps_opened, moved, keeping, answer_taken, has_room, answer_at, machine_call}
use Rattle.evaluation.specs.code.View.{replies_now, cursor_now, asked_now, handed_view, view_by, view, numbers_kept, Numbered}
use Rattle.evaluation.specs.Promises.{changing, Does}
use Rattle.evaluation.specs.GivenBack.{message_now, marked, acceptance_back}
use Rattle.evaluation.proofs.CallLaws.{replies_length}
use Rattle.evaluation_keep.specs.code.Asking.{answered}
use Rattle.evaluation_keep.specs.code.Accepting.{NumberedNow, Accepts}

just≢nothing : {n : Name} → Some n ≡ None → ⊥
just≢nothing e = false≢true (ap (λ (o : Option Name). elim o as (λ _. Bool) [ None ↦ true | Some n ↦ false ]) e)

-- ------------------------------------------------------------------ what an answer is for

module _ (name : Octets) where
  answered_none : (b : Bool) → answered b name None ≡ None
  unfolding answered
  answered_none true = refl
  answered_none false = refl

  answered_live : (b : Bool) (o : Option Name) {n : Name} → answered b name o ≡ Some n → b ≡ true
  unfolding answered
  answered_live true o h = refl
  answered_live false o h = absurd (just≢nothing (sym h))

  module _ (k : Keeps) (a : Answer) (scratch : Octets) where
    -- for no name: refused
    refused_by : (o : Option Name) → answered (has_room k) name o ≡ None → answer_at k name a scratch o ≡ (k, given (refused (refusal 5 0)) scratch)
    unfolding answer_at answered
    refused_by None h = refl
    refused_by (Some n) h = go (has_room k) (same_text (without_dot name) n) refl refl h
      where
        go : (b t : Bool) → has_room k ≡ b → same_text (without_dot name) n ≡ t → answered b name (Some n) ≡ None → answer_at k name a scratch (Some n) ≡ (k, given (refused (refusal 5 0)) scratch)
        go false t e f g = rw (e, and-false (same_text (without_dot name) n))
        go true false e f g = rw f
        go true true e f g = absurd (just≢nothing (rw f at g))

    -- for the name now asked: taken
    taken_by : (o : Option Name) (n : Name) → answered (has_room k) name o ≡ Some n → answer_at k name a scratch o ≡ answer_taken k n (left_after a scratch) (taken a scratch)
    unfolding answer_at answered
    taken_by None n h = absurd (just≢nothing (sym h ∙ answered_none (has_room k)))
    taken_by (Some m) n h = go (has_room k) (same_text (without_dot name) m) refl refl h
      where
        go : (b t : Bool) → has_room k ≡ b → same_text (without_dot name) m ≡ t → answered b name (Some m) ≡ Some n → answer_at k name a scratch (Some m) ≡ answer_taken k n (left_after a scratch) (taken a scratch)
        go false t e f g = absurd (just≢nothing (sym g))
        go true false e f g = absurd (just≢nothing (sym (rw f at g)))
        go true true e f g =
            let same : m ≡ n = cc (rw f at g) in
            rw (f, e, same)

-- ------------------------------------------------------------------ by what is stored

module _ (e : Evaluation) where
  -- whether an answer is waited for, and there is room for it
  abbrev live_in : Bool
  live_in = e.started && (e.handed && (e.asked && ltb e.count 136))

  -- the name that an answer by a name is for
  abbrev pub answered_in : (name : Octets) → Option Name
  answered_in name = answered live_in name (needed (stands (message_now e) (cursor_now e)))

  -- with an answer accepted there was room, and the first step was made
  live_parts : live_in ≡ true → (e.started ≡ true) × (e.handed ≡ true) × (e.count < 136)
  live_parts = go e.started e.handed e.asked (ltb e.count 136) refl
    where
      go : (s h a r : Bool) → ltb e.count 136 ≡ r → (s && (h && (a && r))) ≡ true → (s ≡ true) × (h ≡ true) × (e.count < 136)
      go true true true true q x = (refl, refl, ltb-true e.count 136 q)
      go true true true false q x = absurd (false≢true x)
      go true true false r q x = absurd (false≢true x)
      go true false a r q x = absurd (false≢true x)
      go false h a r q x = absurd (false≢true x)

  pub accepted_few : (name : Octets) {n : Name} → answered_in name ≡ Some n → e.count < 136
  accepted_few name h = (live_parts (answered_live name live_in (needed (stands (message_now e) (cursor_now e))) h)).2

  module _ (full : length e.kept ≡ 408) where
    same_room : ltb (length (replies_now e)) 136 ≡ ltb e.count 136
    same_room = rw (replies_length e full) (go (dec_le 136 e.count))
      where
        go : Dec (136 ≤ e.count) → ltb (min e.count 136) 136 ≡ ltb e.count 136
        go (yes h) = le-ltb (min e.count 136) 136 (omega arith) ∙ sym (le-ltb e.count 136 h)
        go (no h) = lt-ltb (min e.count 136) 136 (omega arith) ∙ sym (lt-ltb e.count 136 (omega arith))

    answered_view : (name : Octets) → answered_in name ≡ answered (has_room (view e)) name (view e).asked
    unfolding view view_by keeps_nothing keeps_opened handed_view asked_now has_room answered
    answered_view name = go e.started e.handed
      where
        last : (a : Bool) → answered (a && ltb e.count 136) name (needed (stands (message_now e) (cursor_now e))) ≡ answered (ltb (length (replies_now e)) 136) name (asked_now e a)
        last true = rw same_room
        last false = sym (answered_none name (ltb (length (replies_now e)) 136))

        go : (s h : Bool) → answered (s && (h && (e.asked && ltb e.count 136))) name (needed (stands (message_now e) (cursor_now e))) ≡ answered (has_room (view_by e s h)) name (view_by e s h).asked
        go false h = refl
        go true false = refl
        go true true = last e.asked

    module _ (name : Octets) (status : Status) (bytes scratch : Octets) where
      -- refused 5
      pub answer_not_now : answered_in name ≡ None → Does e (answer name status bytes scratch) e (given (acceptance_back (Err (refusal 5 0))) scratch)
      unfolding machine_call acceptance_back
      answer_not_now h =
          let by = refused_by name (view e) (answer_of status bytes) scratch (view e).asked (sym (answered_view name) ∙ h) in
          record { leaves = rw by; gives = rw by; stands = λ x. refl; same_domains = λ x. (refl, refl); numbers = λ n. n }

      module _ {n : Name} (now : answered_in name ≡ Some n) (after : Octets) where
        answer_takes : (t : Result Reply Refusal) → Takes (answer_of status bytes) scratch t after → machine_call (view e) (answer name status bytes scratch) ≡ answer_taken (view e) n after t
        unfolding machine_call
        answer_takes t takes = taken_by name (view e) (answer_of status bytes) scratch (view e).asked n (sym (answered_view name) ∙ now) ∙ rw (takes.answers, takes.leaves)

        pub answer_refused : (f : Refusal) → Takes (answer_of status bytes) scratch (Err f) after → Does e (answer name status bytes scratch) e (given (acceptance_back (Err f)) after)
        unfolding answer_taken acceptance_back
        answer_refused f takes =
            let by = answer_takes (Err f) takes in
            record { leaves = rw by; gives = rw by; stands = λ x. refl; same_domains = λ x. (refl, refl); numbers = λ n. n }

      module _ (walk : ℕ) (place : Octet) (now : answered_in name ≡ Some (marked e walk place)) (after : Octets) (r : Reply) (later : Evaluation) (accepts : Accepts e walk place r later) where
        now_live : (e.started ≡ true) × (e.handed ≡ true) × (e.count < 136)
        now_live = live_parts (answered_live name live_in (needed (stands (message_now e) (cursor_now e))) now)

        shown : view e ≡ handed_view e
        unfolding view view_by
        shown = rw (now_live.0, now_live.1)

        shown_later : view later ≡ handed_view later
        unfolding view view_by
        shown_later = rw (accepts.started, accepts.handed, now_live.0, now_live.1)

        same_message : message_now later ≡ message_now e
        unfolding message_now
        same_message = rw (accepts.domains, accepts.numbers, accepts.terms)

        none_asked : asked_now later later.asked ≡ None
        unfolding asked_now
        none_asked = ap (asked_now later) accepts.asked

        kept_on : view later ≡ keeping (view e) (marked e walk place) r
        unfolding handed_view keeping moved
        kept_on = rw (shown_later, shown, same_message, none_asked, accepts.cursor, accepts.replies)

        numbered_on : Numbered e → Numbered later
        unfolding Numbered handed_view numbers_kept cursor_now NumberedNow OnlyThese
        numbered_on n = rw shown_later (accepts.numbered (rw shown at n))

        pub answer_accepted : Takes (answer_of status bytes) scratch (Ok r) after → Does e (answer name status bytes scratch) later (given (acceptance_back (Ok tt)) after)
        unfolding answer_taken acceptance_back changing
        answer_accepted takes =
            let by = answer_takes now after (Ok r) takes in
            record { leaves = kept_on ∙ rw by; gives = rw by; stands = λ x. absurd (false≢true (sym x)); same_domains = λ x. (accepts.domains, accepts.numbers); numbers = numbered_on }

-- ------------------------------------------------------------------ the reply kept, and where it stands moved on

pub accepts_moved : (e : Evaluation) (walk : ℕ) (place : Octet) (r : Reply) (kept stored : List ℕ) (stands : Position)
    → kept_answers e.domains (e.count + 1) kept ≡ kept_answers e.domains e.count e.kept ++ ((asked_name (drop place.0 (slot e.domains e.numbers walk)), r) ∷ [])
    → Moves e.domains e.numbers e.terms (kept_answers e.domains (e.count + 1) kept) e.stored (place_in e.position) r stored (place_in stands)
    → Accepts e walk place r (record { started = e.started; handed = e.handed; asked = false; domains = e.domains; numbers = e.numbers; terms = e.terms; kept = kept; count = e.count + 1; stored = stored; position = stands })
unfolding message_now replies_now cursor_now marked NumberedNow
accepts_moved e walk place r kept stored stands more moves =
    record { started = refl; handed = refl; asked = refl; domains = refl; numbers = refl; terms = refl; replies = more; cursor = moves.place; numbered = moves.only }
