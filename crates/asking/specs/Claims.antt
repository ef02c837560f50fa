-- What is claimed of a run, wherever its calls have left it (the mission, demand 3).
use Rattle.std.specs.Prelude.{◌≡◌, List, [], ◌∷◌, ◌++◌, true, ◌≤◌, ◌<◌, length, Some}
use Rattle.octets.specs.Octets.{Octets, same_text}
use Rattle.octets.specs.Refusing.{refusal}
use Rattle.octets.specs.declared.Refusal.{Refusal}
use Rattle.lookup.specs.Lookup.{Name, Lookups, names, value, list, needs, has, Completes}
use Rattle.lookup.specs.Claims.{Distinct}
use Rattle.domain.specs.Domain.{without_dot}
use Rattle.txt.specs.Answers.{Answer, texts, scratch_after}
use Rattle.asking.specs.Asking.{Back, ask_name, verdict, accepted, wrote, refused, given, Asking, begun, with_asked, kept, standing, asked_names, count, next_step, take, result_of}

-- where calls can leave a run: a result leaves it as it is
pub data Reached {R A : Type 0} (t : Lookups R A) : Asking R → Type 0 where
  at_first : Reached t begun
  by_next : {s : Asking R} → Reached t s → Reached t (next_step t s).0
  by_answer : {s : Asking R} → Reached t s → (name : Octets) (a : Answer) (r : R) (scratch : Octets) → Reached t (take {A = A} s name a r scratch).0

-- the name that a call is given to ask, if it is given one
unfoldable pub given_name : {A : Type 0} → Back A → List Name
given_name (ask_name n) = n ∷ []
given_name (verdict a c) = []
given_name accepted = []
given_name (wrote n) = []
given_name (refused f) = []

-- the verdict stands, or it comes after the next step and whatever answer is accepted then
pub data Comes {R A : Type 0} (t : Lookups R A) : Asking R → Type 0 where
  arrived : {s : Asking R} (a : A) → standing t s ≡ has a → Comes t s
  goes_on : {s : Asking R} (n : Name) → (next_step t s).1.back ≡ ask_name n
      → ((name : Octets) (a : Answer) (r : R) (scratch : Octets) → (take {A = A} (next_step t s).0 name a r scratch).1.back ≡ accepted
      → Comes t (take {A = A} (next_step t s).0 name a r scratch).0)
      → Comes t s

-- α stands for any completion of the missing answers
pub record AskingClaims {R A : Type 0} (t : Lookups R A) (s : Asking R) : Type 0 where
  -- ".. in 01's order, each once"
  pub each_once : Distinct (asked_names s)
  -- "At the verdict, the names asked are those that separate walks with no memory would ask over the accepted answers"
  pub at_verdict : (a : A) → standing t s ≡ has a → (α : Name → R) → Completes α s.taken → list α t ≡ asked_names s
  -- "The verdict is the one those separate walks give"
  pub that_verdict : (a : A) → standing t s ≡ has a → (α : Name → R) → Completes α s.taken → value α t ≡ a
  -- "The reported count is their number"
  pub counted : (a : A) → standing t s ≡ has a → (α : Name → R) → Completes α s.taken → count s ≡ length (list α t)
  -- so both calls then give "what a to f give and the list's length as count"
  pub reported : (a : A) → standing t s ≡ has a → (α : Name → R) → Completes α s.taken
      → (next_step t s ≡ (s, given (verdict (value α t) (length (list α t))) [])) × (result_of t s ≡ given (verdict (value α t) (length (list α t))) [])
  -- "Until then, the names asked so far are the first of those, whatever the missing answers may be"
  pub until_then : (α : Name → R) → Completes α s.taken → (rest : List Name) × (list α t ≡ asked_names s ++ rest)
  -- "Asked and answered in turn, every run comes to its verdict"
  pub comes : Comes t s
  -- "exactly with the accepted answer to its last name": not after it, since the list has more names than were answered while one lacks an answer
  pub not_after : (n : Name) → standing t s ≡ needs n → (α : Name → R) → Completes α s.taken → length (names s.taken) < length (list α t)
  -- and not before it, since at the verdict every name of the list is answered
  pub answered : (a : A) → standing t s ≡ has a → (α : Name → R) → Completes α s.taken → names s.taken ≡ list α t
  -- an answer that can be read, for the name now asked, in either case and with a final dot or without, with scratch enough, is kept
  pub accepts : (n : Name) → s.asked ≡ Some n → (name : Octets) → same_text (without_dot name) n ≡ true
      → (a : Answer) (ts : List Octets) → texts a ≡ Some ts → (r : R) (scratch : Octets) → 4096 ≤ length scratch
      → take {A = A} s name a r scratch ≡ (kept s n r, given accepted (scratch_after ts scratch))
  -- "A refusal leaves the evaluation and lent memory unchanged"
  pub refused_stands : (name : Octets) (a : Answer) (r : R) (scratch : Octets) (f : Refusal) → (take {A = A} s name a r scratch).1.back ≡ refused f
      → take {A = A} s name a r scratch ≡ (s, given (refused f) scratch)

-- of every program, and wherever its calls have left a run of it
unfoldable pub AskingClaimed : Type 1
AskingClaimed = (R A : Type 0) (t : Lookups R A) (s : Asking R) → Reached t s → AskingClaims t s

-- "A lookup without an answer is never read as an empty one": while a name lacks an answer it is asked, and there is no verdict
pub record NoVerdictYet {R A : Type 0} (t : Lookups R A) (s : Asking R) : Type 0 where
  pub asks : (n : Name) → standing t s ≡ needs n → next_step t s ≡ (with_asked s n, given (ask_name n) [])
  pub no_result : (n : Name) → standing t s ≡ needs n → result_of t s ≡ given (refused (refusal 7 0)) []
