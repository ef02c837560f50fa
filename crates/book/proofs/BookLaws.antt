-- What holds of the book after every list of calls.
use mathlib.Core.Path.{◌≡◌, refl, ap, sym, ◌∙◌, subst}
use mathlib.Core.List.{List, [], ◌∷◌, ◌++◌, append-nil, append_assoc, map}
use mathlib.Core.Bool.{Bool, true, false, ◌||◌, true≢false, false≢true, or-false, or-true, or_assoc}
use Prim.Native.Nat.{◌+◌, ◌*◌, ◌≤◌}
use native.Mathlib.Omega.{arith}
use lib.ListN.{length, length-append}
use Rattle.std.specs.Prelude.{if◌then◌else◌, Result, Ok, Err, ℕ}
use Rattle.octets.specs.Octets.{Octets, any}
use Rattle.octets.specs.Refusing.{OrRefused, ok, not_ok, ◌>>=◌, refuse_if, refusal}
use Rattle.octets.specs.declared.Refusal.{Refusal}
use Rattle.octets.specs.Lent.{over, fits, written, left, written_if, left_if}
use Rattle.octets.proofs.RefusingLaws.{bind_ok, refuse_if_ok}
use Rattle.lookup.specs.Lookup.{Name, names, once, list, Standing, needs, has, Completes}
use Rattle.lookup.proofs.NameLaws.{once_append}
use Rattle.lookup.proofs.ReadingLaws.{list_reading}
use Rattle.txt.specs.declared.Status.{Status}
use Rattle.txt.specs.Answers.{Answer, answer_of, reply}
use Rattle.asking.specs.Asking.{Back, ask_name, verdict, accepted, wrote, refused, Given, given, Asking, begun, standing, now_asked, asked_names, count, next_by, next_step, result_by, result_of, transcript, leaves}
use Rattle.asking.specs.Claims.{Reached, at_first, by_next, by_answer, given_name, AskingClaims, AskingClaimed}
use Rattle.asking.proofs.AskingLaws.{take_cases, held, adds_next, adds_take, result_quiet, asking_claimed}
use Rattle.verdict.specs.Message.{Message}
use Rattle.verdict.specs.Verdict.{Verdict, evaluate, separate_walks}
use Rattle.verdict.specs.Claims.{walked_domains, AskedAtMost}
use Rattle.verdict.proofs.Bounds.{asked_at_most}
use Rattle.book.specs.Start.{GivenIdentifier, Opened, adding, adding_each, started}
use Rattle.book.specs.Book.{Call, add, next, result, answer, field, Book, opened, walks, added, add_by, book_add, hands_out, stepped, book_next, answered, book_answer, book_result, field_of, back_of, field_by, book_field, book_call}
use Rattle.book.specs.BookClaims.{book_after, book_gave, given_names, any_handed_out, accepted_adding, accepted_addings, lent, BookClaimed, SameState, NextCloses, NothingYet}
use Rattle.book.proofs.StartLaws.{as_single, Sound, sound_opened, sound_added}
use Rattle.book.proofs.FirstName.{first_name}
use Rattle.std.proofs.lemmas.Option.{none-some}

-- ------------------------------------------------------------------ one call

-- an adding is refused, and the book is as it was; or nothing was handed out yet, and the message is the one that it gives
add_cases : (P : Book × Given Verdict → Type 0) (b : Book) (g : GivenIdentifier)
    → ((f : Refusal) → P (b, given (refused f) []))
    → ((n : Message) → b.handed_out ≡ false → adding b.message g ≡ ok n → P (record { message = n; handed_out = b.handed_out; run = b.run }, given accepted []))
    → P (book_add b g)
unfolding book_add add_by added
add_cases P b g stays adds = go (added b g) refl
  where
    go : (u : OrRefused Message) → added b g ≡ u → P (add_by b u)
    go (not_ok f) e = stays f
    go (ok n) e = let (h, k) = refuse_if_ok b.handed_out (refusal 17 0) (adding b.message g) n e in adds n h k

next_gives : (s : Asking Answer) (u : Standing Verdict) → hands_out (next_by s u).1.back ≡ true
unfolding next_by hands_out
next_gives s (needs n) = refl
next_gives s (has v) = refl

-- and so it closes the adding
closed : (b : Book) → (book_next b).0.handed_out ≡ true
unfolding book_next stepped next_step
closed b = ap (λ t. b.handed_out || t) (next_gives b.run (standing (walks b) b.run)) ∙ or-true b.handed_out

pub next_closes : NextCloses
unfolding NextCloses book_call book_next stepped next_step
next_closes b = (next_gives b.run (standing (walks b) b.run), closed b)

-- ------------------------------------------------------------------ what every call keeps

pub record Kept (b : Book) : Type 0 where
  -- the run is one of the walks as they stand
  pub reached : Reached (walks b) b.run
  -- until a name or the verdict is handed out, it is as it began
  pub fresh : b.handed_out ≡ false → b.run ≡ begun
  pub sound : Sound b.message

pub kept_opened : (m : Message) → Opened m → Kept (opened m)
unfolding opened
kept_opened m o = record { reached = at_first; fresh = λ e. refl; sound = sound_opened m o }

module _ (b : Book) (κ : Kept b) where
  kept_add : (g : GivenIdentifier) → Kept (book_add b g).0
  kept_add g = add_cases (λ x. Kept x.0) b g (λ f. κ) λ n h e. record {
    reached = subst (Reached _) (sym (κ.fresh h)) at_first;
    fresh = κ.fresh;
    sound = sound_added b.message κ.sound g n e;
  }

  kept_next : Kept (book_next b).0
  unfolding book_next stepped walks
  kept_next = record {
    reached = by_next κ.reached;
    fresh = λ e. absurd (true≢false (sym (closed b) ∙ e));
    sound = κ.sound;
  }

  kept_answer : (name : Octets) (status : Status) (bytes scratch : Octets) → Kept (book_answer b name status bytes scratch).0
  unfolding book_answer answered walks begun
  kept_answer name status bytes scratch = record {
    reached = by_answer κ.reached name (answer_of status bytes) (answer_of status bytes) scratch;
    fresh = λ h. take_cases (λ x. x.0 ≡ begun) b.run name (answer_of status bytes) (answer_of status bytes) scratch (λ f. κ.fresh h)
        λ n ts e. absurd (none-some n (sym (ap (λ (s : Asking Answer). s.asked) (κ.fresh h)) ∙ e));
    sound = κ.sound;
  }

pub kept_call : (b : Book) → Kept b → (c : Call) → Kept (book_call b c).0
unfolding book_call
kept_call b κ (add g) = kept_add b κ g
kept_call b κ next = kept_next b κ
kept_call b κ (answer name status bytes scratch) = kept_answer b κ name status bytes scratch
kept_call b κ result = κ
kept_call b κ (field output) = κ

kept_calls : (b : Book) → Kept b → (cs : List Call) → Kept (leaves book_call b cs)
unfolding leaves
kept_calls b κ [] = κ
kept_calls b κ (c ∷ cs) = kept_calls (book_call b c).0 (kept_call b κ c) cs

pub kept_after : (m : Message) → Opened m → (cs : List Call) → Kept (book_after m cs)
unfolding book_after
kept_after m o cs = kept_calls (opened m) (kept_opened m o) cs

leaves_snoc : (b : Book) (cs : List Call) (c : Call) → leaves book_call b (cs ++ (c ∷ [])) ≡ (book_call (leaves book_call b cs) c).0
unfolding leaves
leaves_snoc b [] c = refl
leaves_snoc b (d ∷ cs) c = leaves_snoc (book_call b d).0 cs c

-- the book after one call more
pub after_snoc : (m : Message) (cs : List Call) (c : Call) → book_after m (cs ++ (c ∷ [])) ≡ (book_call (book_after m cs) c).0
unfolding book_after
after_snoc m cs c = leaves_snoc (opened m) cs c

-- ------------------------------------------------------------------ the names asked

-- a call adds to the names asked the name that it gives, if it was not asked yet
unfoldable Names : Book → Book × Given Verdict → Type 0
Names b x = asked_names x.0.run ≡ asked_names b.run ++ once (asked_names b.run) (given_name x.1.back)

quiet : (b : Book) (l : List Name) → l ≡ [] → asked_names b.run ≡ asked_names b.run ++ once (asked_names b.run) l
unfolding once
quiet b l e = sym (append-nil _) ∙ ap (λ l. asked_names b.run ++ once (asked_names b.run) l) (sym e)

quiet_back : (w : Result ℕ Refusal) → given_name (back_of w) ≡ []
unfolding back_of given_name
quiet_back (Ok n) = refl
quiet_back (Err f) = refl

quiet_field : (m : Message) (u : Standing Verdict) (output : Octets) → given_name (field_by m u output).back ≡ []
unfolding field_by given_name
quiet_field m (needs n) output = refl
quiet_field m (has v) output = quiet_back (written_if (field_of m v) output)

module _ (b : Book) (κ : Kept b) where
  names_call : (c : Call) → Names b (book_call b c)
  unfolding Names book_call book_next stepped book_answer answered book_result result_of book_field given_name
  names_call (add g) = add_cases (Names b) b g (λ f. quiet b [] refl) (λ n h e. quiet b [] refl)
  names_call next = adds_next (walks b) b.run (held (walks b) b.run κ.reached)
  names_call (answer name status bytes scratch) = adds_take Verdict b.run name (answer_of status bytes) (answer_of status bytes) scratch
  names_call result = quiet b _ (result_quiet b.run (standing (walks b) b.run))
  names_call (field output) = quiet b _ (quiet_field b.message (standing (walks b) b.run) output)

names_calls : (b : Book) → Kept b → (ns : List Name) → asked_names b.run ≡ once [] ns → (cs : List Call)
    → asked_names (leaves book_call b cs).run ≡ once [] (ns ++ given_names (transcript book_call b cs))
unfolding leaves transcript given_names Names
names_calls b κ ns e [] = e ∙ ap (once []) (sym (append-nil ns))
names_calls b κ ns e (c ∷ cs) =
    names_calls (book_call b c).0 (kept_call b κ c) (ns ++ given_name (book_call b c).1.back)
    (names_call b κ c ∙ ap (λ (l : List Name). l ++ once l (given_name (book_call b c).1.back)) e ∙ sym (once_append [] ns (given_name (book_call b c).1.back))) cs
    ∙ ap (once []) (append_assoc ns (given_name (book_call b c).1.back) (given_names (transcript book_call (book_call b c).0 cs)))

names_after : (m : Message) → Opened m → (cs : List Call) → asked_names (book_after m cs).run ≡ once [] (given_names (book_gave m cs))
unfolding book_after book_gave opened begun asked_names now_asked names once
names_after m o cs = names_calls (opened m) (kept_opened m o) [] refl cs

-- ------------------------------------------------------------------ a name or the verdict handed out

-- a call hands out what it gives
unfoldable Hands : Book → Book × Given Verdict → Type 0
Hands b x = x.0.handed_out ≡ (b.handed_out || hands_out x.1.back)

hands_back : (w : Result ℕ Refusal) → hands_out (back_of w) ≡ false
unfolding back_of hands_out
hands_back (Ok n) = refl
hands_back (Err f) = refl

hands_field : (m : Message) (u : Standing Verdict) (output : Octets) → hands_out (field_by m u output).back ≡ false
unfolding field_by hands_out
hands_field m (needs n) output = refl
hands_field m (has v) output = hands_back (written_if (field_of m v) output)

module _ (b : Book) (κ : Kept b) where
  nothing_more : (t : Bool) → t ≡ false → b.handed_out ≡ (b.handed_out || t)
  nothing_more t e = sym (ap (λ t. b.handed_out || t) e ∙ or-false b.handed_out)

  -- a result gives no verdict before a name was handed out
  hands_result : b.handed_out ≡ (b.handed_out || hands_out (book_result b).back)
  unfolding book_result result_of result_by hands_out walks
  hands_result = go b.handed_out refl
    where
      go : (t : Bool) → b.handed_out ≡ t → t ≡ (t || hands_out (result_of (walks b) b.run).back)
      go true e = refl
      go false e = let (n, f) = first_name b.message κ.sound.author in rw (κ.fresh e, f)

  hands_call : (c : Call) → Hands b (book_call b c)
  unfolding Hands book_call book_next stepped book_answer answered book_field hands_out
  hands_call (add g) = add_cases (Hands b) b g (λ f. nothing_more false refl) (λ n h e. nothing_more false refl)
  hands_call next = refl
  hands_call (answer name status bytes scratch) =
      take_cases (λ x. Hands b (answered b x)) b.run name (answer_of status bytes) (answer_of status bytes) scratch (λ f. nothing_more false refl) (λ n ts e. nothing_more false refl)
  hands_call result = hands_result
  hands_call (field output) = nothing_more _ (hands_field b.message (standing (walks b) b.run) output)

hands_calls : (b : Book) → Kept b → (cs : List Call) → (leaves book_call b cs).handed_out ≡ (b.handed_out || any_handed_out (transcript book_call b cs))
unfolding leaves transcript any_handed_out any Hands
hands_calls b κ [] = sym (or-false b.handed_out)
hands_calls b κ (c ∷ cs) =
    hands_calls (book_call b c).0 (kept_call b κ c) cs
    ∙ ap (λ t. t || any_handed_out (transcript book_call (book_call b c).0 cs)) (hands_call b κ c)
    ∙ or_assoc b.handed_out (hands_out (book_call b c).1.back) (any_handed_out (transcript book_call (book_call b c).0 cs))

pub handed_after : (m : Message) → Opened m → (cs : List Call) → (book_after m cs).handed_out ≡ any_handed_out (book_gave m cs)
unfolding book_after book_gave opened
handed_after m o cs = hands_calls (opened m) (kept_opened m o) cs

-- ------------------------------------------------------------------ adding

add_in_time : (b : Book) (g : GivenIdentifier) → b.handed_out ≡ false → book_call b (add g) ≡ add_by b (adding b.message g)
unfolding book_call book_add added refuse_if ◌>>=◌
add_in_time b g e = ap (λ t. add_by b (refuse_if t (refusal 17 0) >>= λ _. adding b.message g)) e

add_too_late : (b : Book) (g : GivenIdentifier) → b.handed_out ≡ true → book_call b (add g) ≡ (b, given (refused (refusal 17 0)) [])
unfolding book_call book_add added refuse_if ◌>>=◌ add_by
add_too_late b g e = ap (λ t. add_by b (refuse_if t (refusal 17 0) >>= λ _. adding b.message g)) e

-- a call adds to the message the identifier that it gives, if it is accepted
unfoldable Adds : Book → Call → Book × Given Verdict → Type 0
Adds b c x = (gs : List GivenIdentifier) → adding_each b.message (accepted_adding c x.1.back ++ gs) ≡ adding_each x.0.message gs

adds_call : (b : Book) (c : Call) → Adds b c (book_call b c)
unfolding Adds book_call book_next stepped book_answer answered accepted_adding adding_each ◌>>=◌
adds_call b (add g) = add_cases (Adds b (add g)) b g (λ f gs. refl) (λ n h e gs. ap (λ u. u >>= λ n. adding_each n gs) e)
adds_call b next = λ gs. refl
adds_call b (answer name status bytes scratch) = λ gs. refl
adds_call b result = λ gs. refl
adds_call b (field output) = λ gs. refl

adds_calls : (b : Book) (cs : List Call) → adding_each b.message (accepted_addings cs (transcript book_call b cs)) ≡ ok (leaves book_call b cs).message
unfolding leaves transcript accepted_addings adding_each Adds
adds_calls b [] = refl
adds_calls b (c ∷ cs) = adds_call b c (accepted_addings cs (transcript book_call (book_call b c).0 cs)) ∙ adds_calls (book_call b c).0 cs

adds_after : (m : Message) (cs : List Call) → adding_each m (accepted_addings cs (book_gave m cs)) ≡ ok (book_after m cs).message
unfolding book_after book_gave opened
adds_after m cs = adds_calls (opened m) cs

-- added one by one, the book is as it is opened with them all
opened_each : (m n : Message) (gs : List GivenIdentifier) → adding_each m gs ≡ ok n → leaves book_call (opened m) (map add gs) ≡ opened n
unfolding adding_each leaves book_call book_add added add_by refuse_if opened ◌>>=◌
opened_each m n [] e = ap opened cc
opened_each m n (g ∷ gs) e =
    let (k, (f, h)) = bind_ok (adding m g) (λ k. adding_each k gs) n e in
    ap (λ u. leaves book_call (add_by (opened m) u).0 (map add gs)) f ∙ opened_each k n gs h

pub same_state : SameState
unfolding SameState book_after started ◌>>=◌
same_state g m n e f = opened_each m n g.identifiers (ap (λ u. u >>= λ k. adding_each k g.identifiers) (sym e) ∙ as_single g ∙ f)

-- ------------------------------------------------------------------ refused

is_refused : Back Verdict → Bool
is_refused (ask_name n) = false
is_refused (verdict v c) = false
is_refused accepted = false
is_refused (wrote n) = false
is_refused (refused f) = true

Stands : Book → Octets → Refusal → Book × Given Verdict → Type 0
Stands b memory f x = x.1.back ≡ refused f → x ≡ (b, given (refused f) memory)

given_more : (k : Back Verdict) (f : Refusal) → is_refused k ≡ false → k ≡ refused f → ⊥
unfolding is_refused
given_more k f e h = false≢true (sym e ∙ ap is_refused h)

stands_next : (b : Book) (u : Standing Verdict) (f : Refusal) → Stands b [] f (stepped b (next_by b.run u))
unfolding Stands stepped next_by is_refused
stands_next b (needs n) f h = absurd (given_more (ask_name n) f refl h)
stands_next b (has v) f h = absurd (given_more (verdict v (count b.run)) f refl h)

stands_result : (b : Book) (u : Standing Verdict) (f : Refusal) → Stands b [] f (b, result_by b.run u)
unfolding Stands result_by is_refused
stands_result b (needs n) f h = ap (λ k. (b, given k [])) h
stands_result b (has v) f h = absurd (given_more (verdict v (count b.run)) f refl h)

stands_field : (b : Book) (u : Standing Verdict) (output : Octets) (f : Refusal) → Stands b output f (b, field_by b.message u output)
unfolding Stands field_by written_if left_if back_of written left is_refused
stands_field b (needs n) output f h = ap (λ k. (b, given k output)) h
stands_field b (has v) output f h = ap (λ g. (b, g)) (go (field_of b.message v) h)
  where
    go : (o : OrRefused Octets) → back_of (written_if o output) ≡ refused f → given (back_of (written_if o output)) (left_if o output) ≡ given (refused f) output
    go (not_ok r) h = ap (λ k. given k output) h
    go (ok t) h = fit (fits t output) h
      where
        fit : (r : Bool) → back_of (if r then Ok (length t) else Err (refusal 10 (length t))) ≡ refused f
            → given (back_of (if r then Ok (length t) else Err (refusal 10 (length t)))) (if r then over t output else output) ≡ given (refused f) output
        fit true h = absurd (given_more (wrote (length t)) f refl h)
        fit false h = ap (λ k. given k output) h

stands_call : (b : Book) (c : Call) (f : Refusal) → Stands b (lent c) f (book_call b c)
unfolding Stands book_call book_next next_step book_answer answered book_result result_of book_field lent is_refused
stands_call b (add g) f = add_cases (Stands b [] f) b g (λ r h. ap (λ k. (b, given k [])) h) (λ n e g h. absurd (given_more accepted f refl h))
stands_call b next f = stands_next b (standing (walks b) b.run) f
stands_call b result f = stands_result b (standing (walks b) b.run) f
stands_call b (field output) f = stands_field b (standing (walks b) b.run) output f
stands_call b (answer name status bytes scratch) f =
    take_cases (λ x. Stands b scratch f (answered b x)) b.run name (answer_of status bytes) (answer_of status bytes) scratch
    (λ r h. ap (λ k. (b, given k scratch)) h) (λ n ts e h. absurd (given_more accepted f refl h))

-- ------------------------------------------------------------------ the claims

-- the bound on the names asked
pub list_bounded : (α : Name → Answer) (m : Message) → length (list α (separate_walks m)) ≤ 8 + 8 * length (walked_domains (λ n. reply (α n)) m)
unfolding AskedAtMost separate_walks
list_bounded α m = rw (list_reading reply α (evaluate m)) (asked_at_most (λ n. reply (α n)) m)

pub run_claims : (m : Message) → Opened m → (cs : List Call) → AskingClaims (walks (book_after m cs)) (book_after m cs).run
unfolding AskingClaimed
run_claims m o cs = asking_claimed Answer Verdict (walks (book_after m cs)) (book_after m cs).run (kept_after m o cs).reached

bounded_by : (b : Book) → AskingClaims (walks b) b.run → (α : Name → Answer) → Completes α b.run.taken
    → (count b.run ≤ length (list α (walks b))) × (length (list α (walks b)) ≤ 8 + 8 * length (walked_domains (λ n. reply (α n)) b.message))
unfolding count walks
bounded_by b claims α agrees =
    let (rest, f) = claims.until_then α agrees in
    (omega (arith, ap length f ∙ length-append (asked_names b.run) rest), list_bounded α b.message)

pub book_claimed : BookClaimed
unfolding BookClaimed Stands
book_claimed m o cs = record {
  asked = names_after m o cs;
  of_its_run = run_claims m o cs;
  bounded = bounded_by (book_after m cs) (run_claims m o cs);
  refused_stands = stands_call (book_after m cs);
  in_time = λ e g. add_in_time (book_after m cs) g (handed_after m o cs ∙ e);
  too_late = λ e g. add_too_late (book_after m cs) g (handed_after m o cs ∙ e);
  as_they_stand = adds_after m cs;
  up_to_16 = (kept_after m o cs).sound.few;
}

pub nothing_yet : (b : Book) → NothingYet b
unfolding book_call book_next stepped next_step next_by book_result result_of result_by book_field field_by hands_out
nothing_yet b = record {
  asks = λ n e. ap (λ u. stepped b (next_by b.run u)) e ∙ rw or-true;
  no_result = λ n e. ap (λ u. (b, result_by b.run u)) e;
  no_field = λ n output e. ap (λ u. (b, field_by b.message u output)) e;
}
