-- What a check keeps between calls, and what each call makes of it: the definitions that the calls' contracts cite.
use Rattle.std.specs.Prelude.{[], ◌∷◌, ◌++◌, Bool, true, false, ◌&&◌, ◌||◌, not, ℕ, ◌+◌, ltb, length, if◌then◌else◌, Result, Ok, Err, Option, None, Some}
use Rattle.octets.specs.Octets.{Octets, lower, same_text}
use Rattle.octets.specs.Refusing.{OrRefused, ok, not_ok, refusal}
use Rattle.lookup.specs.Lookup.{Name, Answers, Standing, needs, has}
use Rattle.domain.specs.Domain.{without_dot}
use Rattle.txt.specs.declared.Reply.{Reply}
use Rattle.txt.specs.Answers.{Answer, answer_of}
use Rattle.txt.specs.Taking.{taken, left_after}
use Rattle.asking.specs.Asking.{Back, ask_name, verdict, accepted, refused, Given, given}
use Rattle.address.specs.declared.Agreement.{Agreement}
use Rattle.address.specs.Address.{confirmation}
use Rattle.address.specs.Checks.{CheckCall, start, next, result, answer, Pair, check_started}
use Rattle.address_check.specs.code.Cursor.{Cursor, on_policy, on_host, on_confirming, settled, begin_on, answered_on, stands, is_walk}
use Rattle.octets.specs.declared.Refusal.{Refusal}

-- the domains, once a check was started; the replies taken on the walks, with their names; whether the confirming name was answered; the name now
-- asked; and where the check stands
pub record Keeps : Type 0 where
  pub pair : Option Pair
  pub replies : Answers Reply
  pub confirmed : Bool
  pub asked : Option Name
  pub at : Cursor

unfoldable pub keeps_nothing : Keeps
keeps_nothing = record { pair = None; replies = []; confirmed = false; asked = None; at = settled Agreement.NotKnown }

unfoldable pub keeps_started : Pair → Keeps
keeps_started c = record { pair = Some c; replies = []; confirmed = false; asked = None; at = begin_on [] c }

-- how many names were answered
unfoldable pub count_of : Keeps → ℕ
count_of k = length k.replies + (if k.confirmed then 1 else 0)

-- ------------------------------------------------------------------ start

unfoldable pub start_by : Keeps → OrRefused Pair → Keeps × Given Agreement
start_by k (ok c) = (keeps_started c, given accepted [])
start_by k (not_ok f) = (k, given (refused f) [])

-- ------------------------------------------------------------------ next step: where it stands is read

unfoldable pub now_asking : Keeps → Name → Keeps
now_asking k n = record { pair = k.pair; replies = k.replies; confirmed = k.confirmed; asked = Some n; at = k.at }

unfoldable pub next_by : Keeps → Standing Agreement → Keeps × Given Agreement
next_by k (needs n) = (now_asking k n, given (ask_name n) [])
next_by k (has a) = (k, given (verdict a (count_of k)) [])

-- 7 where nothing was started
unfoldable pub next_at : Keeps → Option Pair → Keeps × Given Agreement
next_at k None = (k, given (refused (refusal 7 0)) [])
next_at k (Some c) = next_by k (stands c k.at)

-- ------------------------------------------------------------------ answer: where it stands moves on

unfoldable pub walking : Keeps → Pair → Name → Reply → Keeps
walking k c n r = record {
  pair = k.pair;
  replies = k.replies ++ ((n, r) ∷ []);
  confirmed = k.confirmed;
  asked = None;
  at = answered_on (k.replies ++ ((n, r) ∷ [])) c k.at r;
}

-- at the confirming name the answer is judged, and no reply is kept
unfoldable pub confirming : Keeps → Pair → Answer → Keeps
confirming k c a = record { pair = k.pair; replies = k.replies; confirmed = true; asked = None; at = settled (confirmation (lower c.host) a) }

unfoldable pub keeping_at : Keeps → Pair → Name → Answer → Reply → Cursor → Keeps
keeping_at k c n a r (on_policy q) = walking k c n r
keeping_at k c n a r (on_host o q) = walking k c n r
keeping_at k c n a r on_confirming = confirming k c a
keeping_at k c n a r (settled g) = k

unfoldable pub keeping : Keeps → Option Pair → Name → Answer → Reply → Keeps
keeping k None n a r = k
keeping k (Some c) n a r = keeping_at k c n a r k.at

unfoldable pub answer_taken : Keeps → Name → Answer → (after : Octets) → Result Reply Refusal → Keeps × Given Agreement
answer_taken k n a after (Ok r) = (keeping k k.pair n a r, given accepted after)
answer_taken k n a after (Err f) = (k, given (refused f) after)

-- there is room for the 16 replies that two walks need, and at the confirming name none is kept: what no list of calls can make is refused 5
unfoldable pub has_room : Keeps → Bool
has_room k = not (is_walk k.at) || ltb (length k.replies) 16

-- a name "in either case", and with a final dot or without
unfoldable pub answer_at : Keeps → (name : Octets) → Answer → (scratch : Octets) → Option Name → Keeps × Given Agreement
answer_at k name a scratch None = (k, given (refused (refusal 5 0)) scratch)
answer_at k name a scratch (Some n) =
    if same_text (without_dot name) n && has_room k then answer_taken k n a (left_after a scratch) (taken a scratch) else (k, given (refused (refusal 5 0)) scratch)

-- ------------------------------------------------------------------ result: where it stands is read

unfoldable pub outcome_by : Standing Agreement → OrRefused Agreement
outcome_by (needs n) = not_ok (refusal 7 0)
outcome_by (has a) = ok a

unfoldable pub outcome_at : Option Pair → Cursor → OrRefused Agreement
outcome_at None x = not_ok (refusal 7 0)
outcome_at (Some c) x = outcome_by (stands c x)

unfoldable pub result_back : (count : ℕ) → OrRefused Agreement → Back Agreement
result_back n (ok a) = verdict a n
result_back n (not_ok f) = refused f

-- ------------------------------------------------------------------ calls

unfoldable pub machine_call : Keeps → CheckCall → Keeps × Given Agreement
machine_call k (start policy entry) = start_by k (check_started policy entry)
machine_call k next = next_at k k.pair
machine_call k (answer name status bytes scratch) = answer_at k name (answer_of status bytes) scratch k.asked
machine_call k result = (k, given (result_back (count_of k) (outcome_at k.pair k.at)) [])
