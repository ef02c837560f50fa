-- What an evaluation keeps between calls, and what each call makes of it: the definitions that the calls' contracts cite. A call moves on from where
-- the last one left off, and nothing is replayed.
use Rattle.std.specs.Prelude.{[], ◌∷◌, ◌++◌, Bool, ◌&&◌, ℕ, ltb, length, if◌then◌else◌, Result, Ok, Err, Option, None, Some}
use Rattle.octets.specs.Octets.{Octets, same_text}
use Rattle.octets.specs.Refusing.{◌>>=◌, OrRefused, ok, not_ok, refusal}
use Rattle.octets.specs.Lent.{written_if, left_if}
use Rattle.lookup.specs.Lookup.{Name, Answers, Standing, needs, has}
use Rattle.domain.specs.Domain.{without_dot}
use Rattle.txt.specs.declared.Reply.{Reply}
use Rattle.txt.specs.Answers.{Answer, answer_of}
use Rattle.txt.specs.Taking.{taken, left_after}
use Rattle.verdict.specs.Message.{Message}
use Rattle.verdict.specs.Verdict.{Verdict}
use Rattle.verdict_cursor.specs.code.Cursor.{Cursor, begin_on, answered_on, stands}
use Rattle.asking.specs.Asking.{Back, ask_name, verdict, accepted, refused, Given, given}
use Rattle.book.specs.Start.{GivenIdentifier, adding}
use Rattle.book.specs.Book.{Call, add, next, result, answer, field, back_of, field_of}
use Rattle.octets.specs.declared.Refusal.{Refusal}

-- the message, once one is opened; the replies taken, with their names, and the name now asked; and, once a name was given to ask, where the
-- evaluation stands and what is stored of its walks
pub record Keeps : Type 0 where
  pub message : Option Message
  pub replies : Answers Reply
  pub asked : Option Name
  pub at : Option Cursor

unfoldable pub keeps_nothing : Keeps
keeps_nothing = record { message = None; replies = []; asked = None; at = None }

unfoldable pub keeps_opened : Message → Keeps
keeps_opened m = record { message = Some m; replies = []; asked = None; at = None }

-- ------------------------------------------------------------------ adding

unfoldable pub add_by : Keeps → OrRefused Message → Keeps × Given Verdict
add_by k (ok m) = (keeps_opened m, given accepted [])
add_by k (not_ok f) = (k, given (refused f) [])

-- 17 "where nothing was opened", and once a name was given to ask
unfoldable pub add_at : Keeps → Option Message → Option Cursor → GivenIdentifier → Keeps × Given Verdict
add_at k None c g = (k, given (refused (refusal 17 0)) [])
add_at k (Some m) (Some c) g = (k, given (refused (refusal 17 0)) [])
add_at k (Some m) None g = add_by k (adding m g)

-- ------------------------------------------------------------------ next step: where it stands is read, or the first name is found

unfoldable pub point : Message → Answers Reply → Option Cursor → Cursor
point m β None = begin_on β m
point m β (Some c) = c

unfoldable pub now_asking : Keeps → Cursor → Name → Keeps
now_asking k c n = record { message = k.message; replies = k.replies; asked = Some n; at = Some c }

unfoldable pub next_by : Keeps → Cursor → Standing Verdict → Keeps × Given Verdict
next_by k c (needs n) = (now_asking k c n, given (ask_name n) [])
next_by k c (has v) = (k, given (verdict v (length k.replies)) [])

unfoldable pub next_from : Keeps → Message → Cursor → Keeps × Given Verdict
next_from k m c = next_by k c (stands m c)

-- 7 where nothing was opened
unfoldable pub next_at : Keeps → Option Message → Keeps × Given Verdict
next_at k None = (k, given (refused (refusal 7 0)) [])
next_at k (Some m) = next_from k m (point m k.replies k.at)

-- ------------------------------------------------------------------ answer: where it stands moves on

-- over the replies that are now taken
unfoldable pub moved : Option Message → Answers Reply → Reply → Option Cursor → Option Cursor
moved None β r c = c
moved (Some m) β r None = None
moved (Some m) β r (Some c) = Some (answered_on β m c r)

unfoldable pub keeping : Keeps → Name → Reply → Keeps
keeping k n r = record {
  message = k.message;
  replies = k.replies ++ ((n, r) ∷ []);
  asked = None;
  at = moved k.message (k.replies ++ ((n, r) ∷ [])) r k.at;
}

unfoldable pub answer_taken : Keeps → Name → (after : Octets) → Result Reply Refusal → Keeps × Given Verdict
answer_taken k n after (Ok r) = (keeping k n r, given accepted after)
answer_taken k n after (Err f) = (k, given (refused f) after)

-- there is room for 136 replies, and no message needs more: what no list of calls can make is refused 5
unfoldable pub has_room : Keeps → Bool
has_room k = ltb (length k.replies) 136

-- a name "in either case", and with a final dot or without
unfoldable pub answer_at : Keeps → (name : Octets) → Answer → (scratch : Octets) → Option Name → Keeps × Given Verdict
answer_at k name a scratch None = (k, given (refused (refusal 5 0)) scratch)
answer_at k name a scratch (Some n) =
    if same_text (without_dot name) n && has_room k then answer_taken k n (left_after a scratch) (taken a scratch) else (k, given (refused (refusal 5 0)) scratch)

-- ------------------------------------------------------------------ result and field: where it stands is read

unfoldable pub judged_by : Message → Standing Verdict → OrRefused (Message × Verdict)
judged_by m (needs n) = not_ok (refusal 7 0)
judged_by m (has v) = ok (m, v)

-- 7 until the first step: every message that an opening accepts has a name to ask
unfoldable pub judged_at : Option Message → Option Cursor → OrRefused (Message × Verdict)
judged_at None c = not_ok (refusal 7 0)
judged_at (Some m) None = not_ok (refusal 7 0)
judged_at (Some m) (Some c) = judged_by m (stands m c)

-- the message and its verdict, or 7
unfoldable pub judged : Keeps → OrRefused (Message × Verdict)
judged k = judged_at k.message k.at

unfoldable pub result_back : (count : ℕ) → OrRefused (Message × Verdict) → Back Verdict
result_back n (ok x) = verdict x.1 n
result_back n (not_ok f) = refused f

-- the field's octets, or 7, or 9
unfoldable pub field_at : Keeps → OrRefused Octets
field_at k = do
  x ← judged k
  field_of x.0 x.1

-- ------------------------------------------------------------------ calls

unfoldable pub machine_call : Keeps → Call → Keeps × Given Verdict
machine_call k (add g) = add_at k k.message k.at g
machine_call k next = next_at k k.message
machine_call k (answer name status bytes scratch) = answer_at k name (answer_of status bytes) scratch k.asked
machine_call k result = (k, given (result_back (length k.replies) (judged k)) [])
machine_call k (field output) = (k, given (back_of (written_if (field_at k) output)) (left_if (field_at k) output))
