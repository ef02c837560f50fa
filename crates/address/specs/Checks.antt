-- "a second kind of run": the calls of an address check, and their book, an instance of `asking` (document 02, Ask 11).
use Rattle.std.specs.Prelude.{[], not, Option, None, Some}
use Rattle.octets.specs.Octets.{Octets, lower}
use Rattle.octets.specs.Refusing.{◌>>=◌, OrRefused, ok, not_ok, refusal, refuse_if, or_refuse}
use Rattle.lookup.specs.Lookup.{Lookups}
use Rattle.domain.specs.Domain.{Domain, without_dot, is_domain}
use Rattle.txt.specs.declared.Status.{Status}
use Rattle.txt.specs.Answers.{Answer, answer_of}
use Rattle.asking.specs.Asking.{accepted, refused, Given, given, Asking, begun, next_step, take, result_of}
use Rattle.address.specs.declared.Agreement.{Agreement}
use Rattle.address.specs.Address.{host_of, check}

-- each with the lent memory as it comes in
pub data CheckCall : Type 0 where
  start : (policy entry : Octets) → CheckCall
  next result : CheckCall
  answer : (name : Octets) → Status → (bytes scratch : Octets) → CheckCall

-- "Given the policy domain, the rua entry and answers as before": the two domains of a check
pub record Pair : Type 0 where
  pub policy : Domain
  pub host : Domain

-- "Refusals: 11 a bad policy domain, then 23"
unfoldable pub check_started : (policy entry : Octets) → OrRefused Pair
check_started policy entry = do
  _ ← refuse_if (not (is_domain (without_dot policy))) (refusal 11 0)
  h ← or_refuse (host_of entry) (refusal 23 0)
  ok (record { policy = lower (without_dot policy); host = h })

-- ------------------------------------------------------------------ the book

-- "a book like 01's: names for that one check": its domains, once one was started, "accepted answers and the name now asked"
pub record CheckBook : Type 0 where
  pub pair : Option Pair
  pub run : Asking Answer

unfoldable pub nothing_started : CheckBook
nothing_started = record { pair = None; run = begun }

unfoldable pub check_lookups : Pair → Lookups Answer Agreement
check_lookups c = check c.policy c.host

-- a start that is accepted begins another check
unfoldable pub start_by : CheckBook → OrRefused Pair → CheckBook × Given Agreement
start_by b (ok c) = (record { pair = Some c; run = begun }, given accepted [])
start_by b (not_ok f) = (b, given (refused f) [])

unfoldable pub with_run : CheckBook → Asking Answer × Given Agreement → CheckBook × Given Agreement
with_run b x = (record { pair = b.pair; run = x.0 }, x.1)

-- 7 "where nothing was started"
unfoldable pub next_of : CheckBook → Option Pair → CheckBook × Given Agreement
next_of b None = (b, given (refused (refusal 7 0)) [])
next_of b (Some c) = with_run b (next_step (check_lookups c) b.run)

unfoldable pub result_in : CheckBook → Option Pair → Given Agreement
result_in b None = given (refused (refusal 7 0)) []
result_in b (Some c) = result_of (check_lookups c) b.run

-- "Refused, it stays as it is"
unfoldable pub check_call : CheckBook → CheckCall → CheckBook × Given Agreement
check_call b (start policy entry) = start_by b (check_started policy entry)
check_call b next = next_of b b.pair
check_call b (answer name status bytes scratch) = with_run b (take b.run name (answer_of status bytes) (answer_of status bytes) scratch)
check_call b result = (b, result_in b b.pair)
