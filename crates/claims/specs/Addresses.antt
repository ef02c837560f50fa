-- What is claimed of address checks: document 02, Ask 11.
use Rattle.std.specs.Prelude.{◌≡◌, true, false, ◌&&◌, ◌+◌, ◌≤◌, ◌<◌, eqb, leb, length, if◌then◌else◌, Some}
use mathlib.Core.List.{List, [], ◌∷◌, ◌++◌, flatten}
use Rattle.octets.specs.Octets.{Octets, is_empty, all, any, same, part_of}
use Rattle.octets.specs.Refusing.{ok}
use Rattle.octets.specs.declared.Refusal.{Refusal}
use Rattle.lookup.specs.Lookup.{Name, value, member, once, list, has}
use Rattle.domain.specs.Domain.{Domain}
use Rattle.policy.specs.declared.Bounds.{Bounds}
use Rattle.policy.specs.Records.{rua_text, rua_begin, rua_length}
use Rattle.txt.specs.Answers.{Answer, records, texts_read, policy_records, reply}
use Rattle.txt.specs.Taking.{left_after}
use Rattle.asking.specs.Asking.{refused, given, standing, asked_names, count}
use Rattle.walk.specs.Claims.{is_error}
use Rattle.address.specs.declared.Agreement.{Agreement}
use Rattle.address.specs.Address.{confirmation, confirming_name, organization, check}
use Rattle.address.specs.Checks.{CheckCall, start, Pair, check_started, nothing_started, check_lookups, check_call}
use Rattle.address.specs.Claims.{is_inside, is_outside, says_inside, says_not_known, check_book, check_gave, names_since, check_memory}
use Rattle.address.specs.Marked.{MarkedChecks, MarkedAnswers, MarkedHosts}
use Rattle.address_place.specs.Place.{no_host, only_host, ReplacedBy}
use Rattle.address_check.specs.declared.Check.{Check}
use Rattle.address_check.specs.declared.CheckCalled.{CheckCalled}
use Rattle.address_check.specs.Numbers.{agreement_number}
use Rattle.address_check.specs.Promises.{Gives}
use Rattle.address_check.specs.Demand3.{Got, InTurn, EachAsTheBook}
use Rattle.claims.specs.Runs.{RunHolds}

-- the names of one check, over an answer for every name
pub record CheckNamesHold (p h : Domain) (α : Name → Answer) : Type 0 where
  -- "say whether the address is inside": "equal domains, .. or equal organizational domains by the walks of 01"
  pub inside_exactly : says_inside (value α (check p h)) ≡ is_inside α p h
  -- "equal domains, with nothing asked"
  pub equal_domains_ask_nothing : same h p ≡ true → list α (check p h) ≡ []
  -- "at most 17 in all"
  pub seventeen_names : length (list α (check p h)) ≤ 17
  -- "the confirming name last"
  pub confirming_last : member (confirming_name p h) (list α (check p h)) ≡ true → (ns : List Name) × (list α (check p h) ≡ ns ++ (confirming_name p h ∷ []))
  -- "and only for an address that is not inside"; "over 253 octets is not asked"
  pub confirming_exactly : member (confirming_name p h) (list α (check p h)) ≡ (is_outside α p h && leb (length (confirming_name p h)) 253)
  -- "and counts as none", which "is a plain no"
  pub too_long_is_no : is_outside α p h ≡ true → 253 < length (confirming_name p h) → value α (check p h) ≡ Agreement.PlainNo
  -- "and whether the answer confirms it": what the answer at the confirming name says
  pub outcome_by_the_answer : is_outside α p h ≡ true → length (confirming_name p h) ≤ 253
      → value α (check p h) ≡ confirmation h (α (confirming_name p h))
  -- "by the walks of 01, policy domain first"
  pub policy_domain_first : same h p ≡ false → (rest : List Name) × (list α (check p h) ≡ list α (organization p) ++ rest)
  -- "an error in either gives not known", "an error not known", and nothing else does
  pub not_known_exactly : says_not_known (value α (check p h)) ≡ any (λ n. is_error (reply (α n))) (list α (check p h))

-- every list of calls, "refused ones too", starts among them
pub record CheckCallsHold (cs : List CheckCall) : Type 0 where
  -- "names for that one check, each asked once"
  pub names_of_the_check : asked_names (check_book cs).run ≡ once [] (names_since [] cs (check_gave cs))
  -- the mission's sentences on a run
  pub check_run : (c : Pair) → (check_book cs).pair ≡ Some c → RunHolds (check_lookups c) (check_book cs).run
  -- "at most 17 in all"
  pub seventeen_asked : count (check_book cs).run ≤ 17
  -- "the confirming name last", of the names asked so far too
  pub confirming_last_so_far : (c : Pair) → (check_book cs).pair ≡ Some c
      → member (confirming_name c.policy c.host) (asked_names (check_book cs).run) ≡ true
      → (ns : List Name) × (asked_names (check_book cs).run ≡ ns ++ (confirming_name c.policy c.host ∷ []))
  -- "an error in either gives not known, and after it nothing more is asked"; at the confirming name, "an error not known"
  pub after_an_error : (c : Pair) → (check_book cs).pair ≡ Some c → any (λ x. is_error (reply x.1)) (check_book cs).run.taken ≡ true
      → standing (check_lookups c) (check_book cs).run ≡ has Agreement.NotKnown
  -- "A refusal leaves the evaluation and lent memory unchanged"
  pub refused_check_call_stands : (c : CheckCall) (f : Refusal) → (check_call (check_book cs) c).1.back ≡ refused f
      → check_call (check_book cs) c ≡ (check_book cs, given (refused f) (check_memory c))

pub record AddressesHold : Type 0 where
  pub names_of_checks : (p h : Domain) (α : Name → Answer) → CheckNamesHold p h α
  pub calls_of_checks : (cs : List CheckCall) → CheckCallsHold cs
  -- "The first with an entry that 23 lets through replaces the address by its rua text, given as a place in the scratch, if every such host in it is
  -- the first host; another host makes the answer a plain no"
  pub first_host_decides : (host : Domain) (bytes : Octets) (earlier later : List Octets) (text : Octets) → texts_read bytes ≡ Some (earlier ++ text ∷ later)
      → all no_host earlier ≡ true → no_host text ≡ false
      → confirmation host (records bytes) ≡ (if only_host host text
      then Agreement.Replaced (record { begin = length (flatten earlier) + rua_begin text; length = rua_length text })
      else Agreement.PlainNo)
  -- "One policy record or more confirms, none is a plain no"
  pub record_confirms : (host : Domain) (bytes : Octets) (ts : List Octets) → texts_read bytes ≡ Some ts → all no_host ts ≡ true
      → confirmation host (records bytes) ≡ (if is_empty (policy_records ts) then Agreement.PlainNo else Agreement.Confirmed)
  -- "given as a place in the scratch": what replaces the address stands there after the answer
  pub in_the_scratch : (host : Domain) (bytes scratch : Octets) (b : Bounds) → confirmation host (records bytes) ≡ Agreement.Replaced b → 4096 ≤ length scratch
      → (ts : List Octets) × (text : Octets) × (texts_read bytes ≡ Some ts) × ReplacedBy host ts text
      × (part_of (left_after (records bytes) scratch) b.begin (b.begin + b.length) ≡ rua_text text)
  -- "a second kind of run, every list of an address check's calls after its start, refused ones too, with a book like 01's", by the numbers given
  pub checks_as_the_book : (e : Check) (policy entry : Octets) (c : Pair) → check_started policy entry ≡ ok c
      → (cs : List CheckCall) (rs : List Got) → InTurn e (start policy entry ∷ cs) rs → EachAsTheBook nothing_started (start policy entry ∷ cs) rs
  pub before_a_start : (e : Check) → e.started ≡ 0 → (cs : List CheckCall) (rs : List Got) → InTurn e cs rs → EachAsTheBook nothing_started cs rs
  -- "A refusal leaves the evaluation .. unchanged": the very octets
  pub check_stands : (e : Check) (c : CheckCall) (r : CheckCalled) (memory : Octets) → Gives e c r memory → leb 2 r.given.kind ≡ true → r.check ≡ e
  -- whatever the octets, what gives no outcome reads not known
  pub not_known_else : (e : Check) (c : CheckCall) (r : CheckCalled) (memory : Octets) → Gives e c r memory → eqb r.given.kind 2 ≡ false
      → r.given.agreement ≡ agreement_number Agreement.NotKnown
  -- computed
  pub marked_checks : MarkedChecks
  pub marked_answers : MarkedAnswers
  pub marked_hosts : MarkedHosts
