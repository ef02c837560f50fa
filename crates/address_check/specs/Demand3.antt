-- "Demand 3 gets a second kind of run": one claim on the list of an address check's calls, about the numbers that a caller gets (document 02, Ask 11).
use Rattle.std.specs.Prelude.{◌≡◌, List, [], ◌∷◌, true, false, eqb, leb}
use Rattle.octets.specs.Octets.{Octets}
use Rattle.octets.specs.Refusing.{ok}
use Rattle.address.specs.declared.Agreement.{Agreement}
use Rattle.address.specs.Checks.{CheckCall, start, Pair, check_started, CheckBook, nothing_started, check_call}
use Rattle.address_check.specs.declared.Check.{Check}
use Rattle.address_check.specs.declared.CheckCalled.{CheckCalled}
use Rattle.address_check.specs.Numbers.{agreement_number, Tells}
use Rattle.address_check.specs.Promises.{Gives}

-- what a caller has when a call returns: the check and the numbers, and the memory that was lent
pub record Got : Type 0 where
  pub called : CheckCalled
  pub lent : Octets

-- calls one after the other, each with the check as the last one left it, and each does what its contract promises
pub data InTurn : Check → List CheckCall → List Got → Type 0 where
  none : {e : Check} → InTurn e [] []
  call : {before : Check} {c : CheckCall} {r : CheckCalled} {memory : Octets} {cs : List CheckCall} {rs : List Got}
      → Gives before c r memory → InTurn r.check cs rs → InTurn before (c ∷ cs) (record { called = r; lent = memory } ∷ rs)

-- call by call, numbers and lent memory are those of what the book gives
unfoldable pub EachAsTheBook : CheckBook → List CheckCall → List Got → Type 0
EachAsTheBook b [] [] = Unit
EachAsTheBook b [] (r ∷ rs) = ⊥
EachAsTheBook b (c ∷ cs) [] = ⊥
EachAsTheBook b (c ∷ cs) (r ∷ rs) =
    Tells r.called.check r.called.given (check_call b c).1.back × (r.lent ≡ (check_call b c).1.memory) × EachAsTheBook (check_call b c).0 cs rs

pub record CheckDemand3 : Type 0 where
  -- "every list of an address check's calls after its start, refused ones too, with a book like 01's", starts among them: from a start that is
  -- accepted, over a check of any octets
  pub after_a_start : (e : Check) (policy entry : Octets) (c : Pair) → check_started policy entry ≡ ok c
      → (cs : List CheckCall) (rs : List Got) → InTurn e (start policy entry ∷ cs) rs → EachAsTheBook nothing_started (start policy entry ∷ cs) rs
  -- and from a check on in which nothing was started
  pub before_a_start : (e : Check) → e.started ≡ 0 → (cs : List CheckCall) (rs : List Got) → InTurn e cs rs → EachAsTheBook nothing_started cs rs
  -- "A refusal leaves the evaluation .. unchanged", of any octets; so does an outcome: kinds 3 and 2
  pub stands : (e : Check) (c : CheckCall) (r : CheckCalled) (memory : Octets) → Gives e c r memory → leb 2 r.given.kind ≡ true → r.check ≡ e
  -- whatever the octets, what gives no outcome reads not known
  pub not_known_else : (e : Check) (c : CheckCall) (r : CheckCalled) (memory : Octets) → Gives e c r memory → eqb r.given.kind 2 ≡ false
      → r.given.agreement ≡ agreement_number Agreement.NotKnown
