-- The calls by what an evaluation keeps give what the book gives.
use mathlib.Core.Path.{◌≡◌, refl, ap, ap₂, sym, ◌∙◌, subst}
use mathlib.Core.List.{List, [], ◌∷◌, ◌++◌, map-append}
use mathlib.Core.Bool.{Bool, true, false, and-true, or-true}
use Prim.Native.Nat.{suc}
use native.Mathlib.Omega.{arith}
use lib.Dec.{leb}
use lib.ListN.{length}
use borrow.Author.Tests.{lt-ltb}
use Rattle.std.specs.Prelude.{if◌then◌else◌, Option, None, Some, option_map}
use Rattle.octets.specs.Octets.{Octets, same, same_text}
use Rattle.octets.specs.Refusing.{OrRefused, ok, not_ok, ◌>>=◌, refusal, refuse_if}
use Rattle.octets.specs.Lent.{written_if, left_if}
use Rattle.lookup.specs.Lookup.{Name, Answers, names, find, Standing, needs, has, run_over}
use Rattle.lookup.proofs.RunLaws.{run_same, has≢needs}
use Rattle.lookup.proofs.ReadingLaws.{run_reading}
use Rattle.domain.specs.Domain.{without_dot}
use Rattle.txt.specs.Answers.{Answer, lookup_error, answer_of, texts, reply, scratch_after}
use Rattle.txt.specs.Taking.{taken, left_after}
use Rattle.asking.specs.Asking.{verdict, accepted, refused, Given, given, Asking, begun, with_asked, kept, standing, count, next_by as book_next_by, next_step, take_texts, take_asked, take, result_by, result_of, replies, transcript, leaves}
use Rattle.asking.specs.Claims.{AskingClaims, AskingClaimed}
use Rattle.asking.proofs.Completing.{completed, completes}
use Rattle.asking.proofs.AskingLaws.{held, asking_claimed}
use Rattle.asking.proofs.ReplyLaws.{replies_append, length_replies, run_replies}
use Rattle.verdict.specs.Message.{Message}
use Rattle.verdict.specs.Verdict.{Verdict, evaluate, separate_walks}
use Rattle.verdict_cursor.specs.code.Cursor.{Cursor, answered_on, stands}
use Rattle.verdict_cursor.specs.code.CursorClaims.{KeptCursor}
use Rattle.verdict_cursor.proofs.CursorLaws.{cursor_claims}
use Rattle.book.specs.Start.{GivenIdentifier, Opened, adding}
use Rattle.book.specs.Book.{Call, add, next, result, answer, field, Book, opened, walks, added, add_by as book_add_by, book_add, hands_out, stepped, book_next, answered, book_answer, book_result, field_of, back_of, field_by, book_field, book_call}
use Rattle.book.specs.BookClaims.{book_after}
use Rattle.book.proofs.FirstName.{first_name}
use Rattle.book.proofs.BookLaws.{Kept, kept_opened, kept_call, kept_after, after_snoc}
use Rattle.evaluation.specs.declared.Evaluation.{Evaluation}
use Rattle.evaluation.specs.code.Machine.{Keeps, keeps_opened, add_by, add_at, point, now_asking, next_by, next_from, next_at, moved, keeping, answer_taken, has_room, answer_at, judged_by, judged_at, judged, result_back, field_at, machine_call}
use Rattle.evaluation.specs.code.View.{view}
use Rattle.evaluation.specs.Promises.{Does}
use Rattle.evaluation.specs.code.Showing.{shows, Beside, Shows}
use Rattle.evaluation.specs.Demand3.{Ran}
use Rattle.evaluation.specs.StoredAfter.{Left}
use Rattle.evaluation.proofs.SoundLaws.{list_short}
use Rattle.std.proofs.lemmas.Option.{none-some, same_Some}

-- ------------------------------------------------------------------ the replies of a book's answers

-- one more
replies_kept : (s : Asking Answer) (n : Name) (a : Answer) → replies (kept s n a).taken ≡ replies s.taken ++ ((n, reply a) ∷ [])
unfolding replies kept
replies_kept s n a = replies_append s.taken ((n, a) ∷ [])

-- ------------------------------------------------------------------ where it stands

-- what one call leaves and gives
unfoldable Same : Keeps × Given Verdict → Book × Given Verdict → Type 0
Same x y = (o : Option Cursor) × ((x ≡ (shows y.0 o, y.1)) × Beside y.0 o)

-- of a book that calls have left
module _ (b : Book) (κ : Kept b) where
  claims : AskingClaims (walks b) b.run
  unfolding AskingClaimed
  claims = asking_claimed Answer Verdict (walks b) b.run κ.reached

  -- the book stands where a to f stand over its replies
  standing_read : standing (walks b) b.run ≡ run_over (replies b.run.taken) (evaluate b.message)
  unfolding standing walks run_over separate_walks
  standing_read = run_replies b.run.taken (evaluate b.message)

  -- until a name is handed out, one is needed
  waits_first : b.handed_out ≡ false → (n : Name) × (standing (walks b) b.run ≡ needs n)
  unfolding walks
  waits_first h = let (n, e) = first_name b.message κ.sound.author in (n, ap (standing (walks b)) (κ.fresh h) ∙ e)

  -- and none is asked
  none_asked : b.handed_out ≡ false → b.run.asked ≡ None
  unfolding begun
  none_asked h = ap (λ (s : Asking Answer). s.asked) (κ.fresh h)

  here : Option Cursor → Cursor
  here o = point b.message (replies b.run.taken) o

  pointed : (o : Option Cursor) → Beside b o → KeptCursor (replies b.run.taken) b.message (here o)
  unfolding Beside here point
  pointed None h = (cursor_claims (replies b.run.taken) b.message).begins
  pointed (Some c) h = h.1

  stands_here : (o : Option Cursor) → Beside b o → standing (walks b) b.run ≡ stands b.message (here o)
  stands_here o h = standing_read ∙ (cursor_claims (replies b.run.taken) b.message).right (here o) (pointed o h)

  -- ---------------------------------------------------------------- each call

  some_answers : Name → Answer
  some_answers = completed b.run.taken (λ n. lookup_error)

  -- at the verdict there are as many replies as the book counts
  count_shown : (v : Verdict) → standing (walks b) b.run ≡ has v → length (replies b.run.taken) ≡ count b.run
  unfolding some_answers
  count_shown v e =
      let all = completes b.run.taken (λ n. lookup_error) in
      length_replies b.run.taken ∙ ap length (claims.answered v e some_answers all) ∙ sym (claims.counted v e some_answers all)

  -- while a name is asked, there is room for its answer
  room_shown : (o : Option Cursor) (n : Name) → b.run.asked ≡ Some n → has_room (shows b o) ≡ true
  unfolding has_room shows walks some_answers
  room_shown o n e = lt-ltb (length (replies b.run.taken)) _ (omega (
    arith,
    length_replies b.run.taken,
    claims.not_after n ((held (walks b) b.run κ.reached).stands n e) some_answers (completes b.run.taken (λ n. lookup_error)),
    list_short some_answers b.message κ.sound.few,
  ))

  -- an answer is kept for the name now asked
  keep_simulates : (n : Name) (a : Answer) (after : Octets) → b.run.asked ≡ Some n → (o : Option Cursor) → Beside b o
      → Same (keeping (shows b o) n (reply a), given accepted after) (answered b (kept b.run n a, given accepted after))
  unfolding Same Beside shows keeping moved kept answered
  keep_simulates n a after e None h = absurd (none-some n (sym (none_asked h) ∙ e))
  keep_simulates n a after e (Some c) h =
      let more : replies b.run.taken ++ ((n, reply a) ∷ []) ≡ replies (kept b.run n a).taken = sym (replies_kept b.run n a) in (
        Some (answered_on (replies (kept b.run n a).taken) b.message c (reply a)),
        (
          ap (λ β. (record { message = Some b.message; replies = β; asked = None; at = Some (answered_on β b.message c (reply a)) }, given accepted after)) more,
          (
            h.0,
            subst (λ β. KeptCursor β b.message (answered_on β b.message c (reply a))) more ((cursor_claims (replies b.run.taken) b.message).answers c h.1 n (h.2 n e) (reply a)),
            λ x f. absurd (none-some x f),
          ),
        ),
      )

  -- what is kept judges as the book stands
  judged_shown : (o : Option Cursor) → Beside b o → judged_at (Some b.message) o ≡ judged_by b.message (standing (walks b) b.run)
  unfolding Beside judged_at judged_by here point
  judged_shown None h = let (n, e) = waits_first h in sym (ap (judged_by b.message) e)
  judged_shown (Some c) h = ap (judged_by b.message) (sym (stands_here (Some c) h))

  result_shown : (u : Standing Verdict) → standing (walks b) b.run ≡ u → given (result_back (length (replies b.run.taken)) (judged_by b.message u)) [] ≡ result_by b.run u
  unfolding result_back judged_by result_by
  result_shown (needs n) e = refl
  result_shown (has v) e = ap (λ i. given (verdict v i) []) (count_shown v e)

  field_shown : (output : Octets) (u : Standing Verdict)
      → given (back_of (written_if (judged_by b.message u >>= λ x. field_of x.0 x.1) output)) (left_if (judged_by b.message u >>= λ x. field_of x.0 x.1) output) ≡ field_by b.message u output
  unfolding judged_by field_by ◌>>=◌ written_if left_if back_of
  field_shown output (needs n) = refl
  field_shown output (has v) = refl

  added_simulates : b.handed_out ≡ false → (x : OrRefused Message) → Same (add_by (shows b None) x) (book_add_by b x)
  unfolding Same Beside shows add_by book_add_by keeps_opened begun replies
  added_simulates h (ok m) = (None, (ap (λ (s : Asking Answer). (record { message = Some m; replies = replies s.taken; asked = s.asked; at = None }, given accepted [])) (sym (κ.fresh h)), h))
  added_simulates h (not_ok f) = (None, (refl, h))

  added_by : (g : GivenIdentifier) (t : Bool) → b.handed_out ≡ t → added b g ≡ (if t then not_ok (refusal 17 0) else adding b.message g)
  unfolding added refuse_if ◌>>=◌
  added_by g true h = ap (λ t. refuse_if t (refusal 17 0) >>= λ _. adding b.message g) h
  added_by g false h = ap (λ t. refuse_if t (refusal 17 0) >>= λ _. adding b.message g) h

  -- an identifier, in time or too late
  add_simulates : (g : GivenIdentifier) (o : Option Cursor) → Beside b o → Same (add_at (shows b o) (Some b.message) o g) (book_add_by b (added b g))
  unfolding Beside add_at
  add_simulates g None h = subst (λ x. Same (add_by (shows b None) (adding b.message g)) (book_add_by b x)) (sym (added_by g false h)) (added_simulates h (adding b.message g))
  add_simulates g (Some c) h =
      subst (λ x. Same (shows b (Some c), given (refused (refusal 17 0)) []) (book_add_by b x)) (sym (added_by g true h.0)) (unfold Same Beside book_add_by in (Some c, (refl, h)))

  -- the verdict is not handed out first
  verdict_beside : (v : Verdict) → standing (walks b) b.run ≡ has v → (o : Option Cursor) → Beside b o → Beside (stepped b (b.run, given (verdict v (count b.run)) [])).0 o
  unfolding Beside stepped hands_out
  verdict_beside v e None h = let (n, f) = waits_first h in absurd (has≢needs (sym e ∙ f))
  verdict_beside v e (Some c) h = (or-true b.handed_out, h.1, h.2)

  module _ (o : Option Cursor) (h : Beside b o) where
    next_simulates : (u : Standing Verdict) → standing (walks b) b.run ≡ u → u ≡ stands b.message (here o)
        → Same (next_by (shows b o) (here o) u) (stepped b (book_next_by b.run u))
    unfolding Same Beside shows next_by book_next_by now_asking with_asked stepped hands_out
    next_simulates (needs n) e f = (Some (here o), (refl, (or-true b.handed_out, pointed o h, λ x g. sym f ∙ ap needs (same_Some n x g))))
    next_simulates (has v) e f = (o, (ap (λ i. (shows b o, given (verdict v i) [])) (count_shown v e), verdict_beside v e o h))

    taken_simulates : (n : Name) (a : Answer) (scratch : Octets) → b.run.asked ≡ Some n
        → Same (answer_taken (shows b o) n (left_after a scratch) (taken a scratch)) (answered b (take_texts b.run n a scratch (texts a)))
    unfolding answer_taken left_after taken take_texts answered Same
    taken_simulates n a scratch e = go (texts a) refl (leb 4096 (length scratch)) refl
      where
        go : (x : Option (List Octets)) → texts a ≡ x → (t : Bool) → leb 4096 (length scratch) ≡ t
            → Same (answer_taken (shows b o) n (left_after a scratch) (taken a scratch)) (answered b (take_texts b.run n a scratch (texts a)))
        go None f t g = rw (f, left_after, taken) (o, (refl, h))
        go (Some ts) f true g = rw (f, left_after, taken, g) (keep_simulates n a (scratch_after ts scratch) e o h)
        go (Some ts) f false g = rw (f, left_after, taken, g) (o, (refl, h))

    answer_simulates : (name : Octets) (a : Answer) (scratch : Octets) (x : Option Name) → b.run.asked ≡ x
        → Same (answer_at (shows b o) name a scratch x) (answered b (take_asked b.run name a a scratch x))
    unfolding answer_at take_asked
    answer_simulates name a scratch None e = unfold Same answered in (o, (refl, h))
    answer_simulates name a scratch (Some n) e =
        rw (room_shown o n e, and-true)
        (elim (same_text (without_dot name) n) as (λ t. Same (if t then answer_taken (shows b o) n (left_after a scratch) (taken a scratch) else (shows b o, given (refused (refusal 5 0)) scratch))
        (answered b (if t then take_texts b.run n a scratch (texts a) else (b.run, given (refused (refusal 5 0)) scratch)))) [
          | true ↦ taken_simulates n a scratch e
          | false ↦ unfold Same answered in (o, (refl, h))
        ])

    -- a call by what is kept leaves and gives what the call by the book does
    simulates : (c : Call) → Same (machine_call (shows b o) c) (book_call b c)
    unfolding machine_call book_call shows
    simulates (add g) = unfold book_add in add_simulates g o h
    simulates next =
        unfold next_at next_from book_next next_step here in
        subst (λ u. Same (next_by (shows b o) (here o) u) (stepped b (book_next_by b.run (standing (walks b) b.run)))) (stands_here o h) (next_simulates (standing (walks b) b.run) refl (stands_here o h))
    simulates (answer name status bytes scratch) = unfold book_answer take in answer_simulates name (answer_of status bytes) scratch b.run.asked refl
    simulates result =
        unfold Same judged book_result result_of in (
          o,
          (
            ap (λ x. (shows b o, given (result_back (length (replies b.run.taken)) x) [])) (judged_shown o h) ∙ ap (λ g. (shows b o, g)) (result_shown (standing (walks b) b.run) refl),
            h,
          ),
        )
    simulates (field output) =
        unfold Same judged field_at book_field in (
          o,
          (
            ap (λ (x : OrRefused (Message × Verdict)). (shows b o, given (back_of (written_if (x >>= λ y. field_of y.0 y.1) output)) (left_if (x >>= λ y. field_of y.0 y.1) output))) (judged_shown o h)
                ∙ ap (λ g. (shows b o, g)) (field_shown output (standing (walks b) b.run)),
            h,
          ),
        )

-- ------------------------------------------------------------------ calls that do what they promise

-- a call from an evaluation that shows a book leaves one that shows what the book's call leaves, and gives what it gives
does_book : (b : Book) → Kept b → {before now : Evaluation} {c : Call} {g : Given Verdict} → Shows before b → Does before c now g
    → Shows now (book_call b c).0 × (g ≡ (book_call b c).1)
unfolding Same
does_book b κ {c = c} w d =
    let (o, (e, h)) = simulates b κ w.stands_at w.beside c in
    let f = ap (λ k. machine_call k c) w.keeps ∙ e in
    (record { stands_at = o; keeps = d.leaves ∙ ap (λ x. x.0) f; beside = h }, d.gives ∙ ap (λ x. x.1) f)

-- what calls give
ran_shows : (b : Book) → Kept b → {e : Evaluation} {cs : List Call} {gs : List (Given Verdict)} → Shows e b → Ran e cs gs → gs ≡ transcript book_call b cs
unfolding transcript
ran_shows b κ w Ran.none = refl
ran_shows b κ w (Ran.call {c = c} d r) =
    let (now, e) = does_book b κ w d in
    ap₂ ◌∷◌ e (ran_shows (book_call b c).0 (kept_call b κ c) now r)

-- what they leave
left_shows : (b : Book) → Kept b → {e after : Evaluation} {cs : List Call} → Shows e b → Left e cs after → Shows after (leaves book_call b cs)
unfolding leaves
left_shows b κ w Left.none = w
left_shows b κ w (Left.call {c = c} d l) = left_shows (book_call b c).0 (kept_call b κ c) (does_book b κ w d).0 l

-- ------------------------------------------------------------------ all calls after an opening

-- an opening's evaluation shows the book that it opens
pub opened_shows : {e : Evaluation} (m : Message) → view e ≡ keeps_opened m → Shows e (opened m)
unfolding shows Beside keeps_opened opened begun replies
opened_shows m v = record { stands_at = None; keeps = v; beside = refl }

module _ (m : Message) (o : Opened m) where
  pub as_the_book : {e : Evaluation} → view e ≡ keeps_opened m → {cs : List Call} {gs : List (Given Verdict)} → Ran e cs gs → gs ≡ transcript book_call (opened m) cs
  as_the_book v r = ran_shows (opened m) (kept_opened m o) (opened_shows m v) r

  pub left_as_the_book : {e : Evaluation} → view e ≡ keeps_opened m → {cs : List Call} {after : Evaluation} → Left e cs after → Shows after (book_after m cs)
  unfolding book_after
  left_as_the_book v l = left_shows (opened m) (kept_opened m o) (opened_shows m v) l

  -- the message and the verdict that an evaluation stands at after some calls, or 7, are the book's
  pub judged_as_the_book : {e : Evaluation} → view e ≡ keeps_opened m → {cs : List Call} {after : Evaluation} → Left e cs after
      → judged (view after) ≡ judged_by (book_after m cs).message (standing (walks (book_after m cs)) (book_after m cs).run)
  unfolding judged shows
  judged_as_the_book v {cs = cs} l =
      let w = left_as_the_book v l in
      ap judged w.keeps ∙ judged_shown (book_after m cs) (kept_after m o cs) w.stands_at w.beside

  -- an evaluation that shows the book after some calls shows it after one more, which gives what the book gives
  pub does_shows : (cs : List Call) {before now : Evaluation} {c : Call} {g : Given Verdict} → Shows before (book_after m cs) → Does before c now g
      → Shows now (book_after m (cs ++ (c ∷ []))) × (g ≡ (book_call (book_after m cs) c).1)
  does_shows cs {now = now} {c = c} w d =
      let (after, e) = does_book (book_after m cs) (kept_after m o cs) w d in
      (subst (Shows now) (sym (after_snoc m cs c)) after, e)
