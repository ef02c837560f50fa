-- What is claimed of every lookup program that is run by calls, wherever these have left it: the sentences of the mission's demand 3 that do not
-- speak of messages.
use Rattle.std.specs.Prelude.{◌≡◌, List, [], ◌++◌, true, ◌≤◌, ◌<◌, length, Some}
use Rattle.octets.specs.Octets.{Octets, same_text}
use Rattle.octets.specs.Refusing.{refusal}
use Rattle.octets.specs.declared.Refusal.{Refusal}
use Rattle.lookup.specs.Lookup.{Name, Lookups, names, value, list, needs, has, Completes}
use Rattle.lookup.specs.Claims.{Distinct}
use Rattle.domain.specs.Domain.{without_dot}
use Rattle.txt.specs.Answers.{Answer, texts, scratch_after}
use Rattle.asking.specs.Asking.{ask_name, verdict, accepted, refused, given, Asking, with_asked, kept, standing, asked_names, count, next_step, take, result_of}
use Rattle.asking.specs.Claims.{Comes}

-- α stands for any completion of the missing answers
pub record RunHolds {R A : Type 0} (t : Lookups R A) (s : Asking R) : Type 0 where
  -- ".. in 01's order, each once"
  pub each_once : Distinct (asked_names s)
  -- "At the verdict, the names asked are those that separate walks with no memory would ask over the accepted answers"
  pub names_at_verdict : (a : A) → standing t s ≡ has a → (α : Name → R) → Completes α s.taken → list α t ≡ asked_names s
  -- "The verdict is the one those separate walks give"
  pub same_verdict : (a : A) → standing t s ≡ has a → (α : Name → R) → Completes α s.taken → value α t ≡ a
  -- "The reported count is their number"
  pub count_is_length : (a : A) → standing t s ≡ has a → (α : Name → R) → Completes α s.taken → count s ≡ length (list α t)
  -- so both calls then give "what a to f give and the list's length as count"
  pub both_report : (a : A) → standing t s ≡ has a → (α : Name → R) → Completes α s.taken
      → (next_step t s ≡ (s, given (verdict (value α t) (length (list α t))) [])) × (result_of t s ≡ given (verdict (value α t) (length (list α t))) [])
  -- "Until then, the names asked so far are the first of those, whatever the missing answers may be"
  pub first_of_those : (α : Name → R) → Completes α s.taken → (rest : List Name) × (list α t ≡ asked_names s ++ rest)
  -- "Asked and answered in turn, every run comes to its verdict"
  pub comes_to_verdict : Comes t s
  -- "exactly with the accepted answer to its last name": while one lacks an answer, the list has more names than were answered
  pub not_after_last : (n : Name) → standing t s ≡ needs n → (α : Name → R) → Completes α s.taken → length (names s.taken) < length (list α t)
  -- and at the verdict every name of the list is answered
  pub not_before_last : (a : A) → standing t s ≡ has a → (α : Name → R) → Completes α s.taken → names s.taken ≡ list α t
  -- an answer that can be read, for the name now asked, in either case and with a final dot or without, with scratch enough, is kept
  pub readable_is_kept : (n : Name) → s.asked ≡ Some n → (name : Octets) → same_text (without_dot name) n ≡ true
      → (a : Answer) (ts : List Octets) → texts a ≡ Some ts → (r : R) (scratch : Octets) → 4096 ≤ length scratch
      → take {A = A} s name a r scratch ≡ (kept s n r, given accepted (scratch_after ts scratch))
  -- "A refusal leaves the evaluation and lent memory unchanged"; "after a refused answer the name asked, if any, still stands"
  pub refused_answer_stands : (name : Octets) (a : Answer) (r : R) (scratch : Octets) (f : Refusal) → (take {A = A} s name a r scratch).1.back ≡ refused f
      → take {A = A} s name a r scratch ≡ (s, given (refused f) scratch)
  -- "A lookup without an answer is never read as an empty one": while a name lacks an answer it is asked, and there is no verdict
  pub lacking_is_asked : (n : Name) → standing t s ≡ needs n → next_step t s ≡ (with_asked s n, given (ask_name n) [])
  pub lacking_has_no_result : (n : Name) → standing t s ≡ needs n → result_of t s ≡ given (refused (refusal 7 0)) []
