-- What is claimed of every address check (the mission, demand 3; document 02, Ask 11).
use Rattle.std.specs.Prelude.{◌≡◌, List, [], ◌∷◌, ◌++◌, Bool, true, false, ◌&&◌, ◌||◌, not, ◌≤◌, ◌<◌, leb, length, Option, None, Some}
use Rattle.octets.specs.Octets.{Octets, is_nothing, any, same}
use Rattle.octets.specs.declared.Refusal.{Refusal}
use Rattle.lookup.specs.Lookup.{Name, value, member, once, list, has}
use Rattle.domain.specs.Domain.{Domain}
use Rattle.txt.specs.Answers.{Answer, reply}
use Rattle.asking.specs.Asking.{Back, ask_name, verdict, accepted, wrote, refused, Given, given, standing, asked_names, count, transcript, leaves}
use Rattle.asking.specs.Claims.{given_name, AskingClaims}
use Rattle.walk.specs.Claims.{is_error}
use Rattle.address.specs.declared.Agreement.{Agreement}
use Rattle.address.specs.Address.{confirmation, confirming_name, organization, check}
use Rattle.address.specs.Checks.{CheckCall, start, next, result, answer, Pair, CheckBook, nothing_started, check_lookups, check_call}

-- ------------------------------------------------------------------ the names of one check, over an answer for every name

unfoldable pub equal_known : (policy host : Option Domain) → Bool
equal_known (Some o) (Some q) = same q o
equal_known (Some o) None = false
equal_known None q = false

-- "Inside means equal domains, .. or equal organizational domains by the walks of 01"
unfoldable pub is_inside : (α : Name → Answer) → (policy host : Domain) → Bool
is_inside α p h = same h p || equal_known (value α (organization p)) (value α (organization h))

-- "not inside", and no "error in either"
unfoldable pub is_outside : (α : Name → Answer) → (policy host : Domain) → Bool
is_outside α p h = not (is_inside α p h) && not (is_nothing (value α (organization p))) && not (is_nothing (value α (organization h)))

unfoldable pub says_inside : Agreement → Bool
says_inside Agreement.Inside = true
says_inside Agreement.NotKnown = false
says_inside Agreement.PlainNo = false
says_inside Agreement.Confirmed = false
says_inside (Agreement.Replaced b) = false

unfoldable pub says_not_known : Agreement → Bool
says_not_known Agreement.Inside = false
says_not_known Agreement.NotKnown = true
says_not_known Agreement.PlainNo = false
says_not_known Agreement.Confirmed = false
says_not_known (Agreement.Replaced b) = false

pub record NamesOfCheck (p h : Domain) (α : Name → Answer) : Type 0 where
  -- "say whether the address is inside"
  pub exactly_inside : says_inside (value α (check p h)) ≡ is_inside α p h
  -- "equal domains, with nothing asked"
  pub nothing_asked : same h p ≡ true → list α (check p h) ≡ []
  -- "at most 17 in all"
  pub at_most_17 : length (list α (check p h)) ≤ 17
  -- "the confirming name last": where it is among them
  pub last : member (confirming_name p h) (list α (check p h)) ≡ true → (ns : List Name) × (list α (check p h) ≡ ns ++ (confirming_name p h ∷ []))
  -- "and only for an address that is not inside"; "over 253 octets is not asked"
  pub asked_exactly : member (confirming_name p h) (list α (check p h)) ≡ (is_outside α p h && leb (length (confirming_name p h)) 253)
  -- "and counts as none", which "is a plain no"
  pub too_long : is_outside α p h ≡ true → 253 < length (confirming_name p h) → value α (check p h) ≡ Agreement.PlainNo
  -- "and whether the answer confirms it": what the answer at the confirming name says
  pub by_the_answer : is_outside α p h ≡ true → length (confirming_name p h) ≤ 253 → value α (check p h) ≡ confirmation h (α (confirming_name p h))
  -- "by the walks of 01, policy domain first"
  pub policy_first : same h p ≡ false → (rest : List Name) × (list α (check p h) ≡ list α (organization p) ++ rest)
  -- "an error in either gives not known", "an error not known", and nothing else does
  pub not_known_exactly : says_not_known (value α (check p h)) ≡ any (λ n. is_error (reply (α n))) (list α (check p h))

-- ------------------------------------------------------------------ every list of calls

-- the book after a list of calls, and what they gave
unfoldable pub check_book : List CheckCall → CheckBook
check_book cs = leaves check_call nothing_started cs

unfoldable pub check_gave : List CheckCall → List (Given Agreement)
check_gave cs = transcript check_call nothing_started cs

-- whether a call began another check
unfoldable pub begins : CheckCall → Back Agreement → Bool
begins (start policy entry) accepted = true
begins (start policy entry) (ask_name n) = false
begins (start policy entry) (verdict a c) = false
begins (start policy entry) (wrote n) = false
begins (start policy entry) (refused f) = false
begins next k = false
begins result k = false
begins (answer name status bytes scratch) k = false

-- "names for that one check": those that calls were given to ask since the last start that was accepted, after these
unfoldable pub names_since : (so_far : List Name) → List CheckCall → List (Given Agreement) → List Name
names_since ns [] gs = ns
names_since ns (c ∷ cs) [] = ns
names_since ns (c ∷ cs) (g ∷ gs) = elim (begins c g.back) [ true ↦ names_since [] cs gs | false ↦ names_since (ns ++ given_name g.back) cs gs ]

-- the memory that a call lends
unfoldable pub check_memory : CheckCall → Octets
check_memory (start policy entry) = []
check_memory next = []
check_memory result = []
check_memory (answer name status bytes scratch) = scratch

pub record CheckClaims (cs : List CheckCall) : Type 0 where
  -- the names that calls were given to ask, each once, are those that the book has as asked
  pub asked : asked_names (check_book cs).run ≡ once [] (names_since [] cs (check_gave cs))
  -- what is claimed of every run by calls
  pub of_its_run : (c : Pair) → (check_book cs).pair ≡ Some c → AskingClaims (check_lookups c) (check_book cs).run
  -- "at most 17 in all"
  pub at_most_17 : count (check_book cs).run ≤ 17
  -- "the confirming name last", of the names asked so far too
  pub last : (c : Pair) → (check_book cs).pair ≡ Some c → member (confirming_name c.policy c.host) (asked_names (check_book cs).run) ≡ true
      → (ns : List Name) × (asked_names (check_book cs).run ≡ ns ++ (confirming_name c.policy c.host ∷ []))
  -- "an error .. gives not known, and after it nothing more is asked"
  pub after_an_error : (c : Pair) → (check_book cs).pair ≡ Some c → any (λ x. is_error (reply x.1)) (check_book cs).run.taken ≡ true
      → standing (check_lookups c) (check_book cs).run ≡ has Agreement.NotKnown
  -- "A refusal leaves the evaluation and lent memory unchanged"
  pub refused_stands : (c : CheckCall) (f : Refusal) → (check_call (check_book cs) c).1.back ≡ refused f
      → check_call (check_book cs) c ≡ (check_book cs, given (refused f) (check_memory c))

-- of every list of calls, and of the names of every check
pub record CheckClaimed : Type 0 where
  pub calls : (cs : List CheckCall) → CheckClaims cs
  pub names : (p h : Domain) (α : Name → Answer) → NamesOfCheck p h α
