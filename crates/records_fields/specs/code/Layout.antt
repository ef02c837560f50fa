-- A sheet's records where they lie: a record is the text from its mark on.
use Rattle.std.specs.Prelude.{◌≡◌, List, [], ◌∷◌, Bool, ◌&&◌, ℕ, zero, suc, ◌+◌, ◌-◌, length, take, drop, get_or, if◌then◌else◌, Result, Ok, Err, Option, None, Some}
use Rattle.octets.specs.Octets.{Octets, octets, same, same_text}
use Rattle.octets.specs.Framing.{mark_of, body_of, after_record}
use Rattle.octets.specs.Refusing.{ok, not_ok, refusal}
use Rattle.domain.specs.Domain.{without_dot}
use Rattle.txt.specs.declared.Status.{Status}
use Rattle.book.specs.Start.{GivenIdentifier, GivenMessage}
use Rattle.records.specs.Sheet.{Entry, status_of, entry_of, entries}

unfoldable pub onto : Option Entry → List Entry → List Entry
onto None rs = rs
onto (Some r) rs = r ∷ rs

-- the entries of the first k records
unfoldable pub listed : ℕ → Octets → List Entry
listed zero t = []
listed (suc k) t = onto (entry_of t) (listed k (after_record t))

-- ------------------------------------------------------------------ the answer at a name

-- the name in an answer's body, without a final dot
unfoldable pub name_in : Octets → Octets
name_in body = without_dot (take (get_or body 1 0) (drop 2 body))

unfoldable pub answers_name : (name : Octets) → Octets → Bool
answers_name name t = same (mark_of t) (octets "AN") && same_text (name_in (body_of t)) name

-- the body of the first answer for a name among the first k records; empty where there is none
unfoldable pub found_body : ℕ → (name : Octets) → Octets → Octets
found_body zero name t = []
found_body (suc k) name t = if answers_name name t then body_of t else found_body k name (after_record t)

unfoldable pub status_or_error : Option Status → Status
status_or_error None = Status.Error
status_or_error (Some s) = s

-- its status, where the number of an empty body is 2: "An asked name that has no `AN` is an error"
unfoldable pub status_in : Octets → Status
status_in body = status_or_error (status_of (get_or body 0 2))

-- and its bytes
unfoldable pub bytes_in : Octets → Octets
bytes_in body = drop (2 + get_or body 1 0) body

-- ------------------------------------------------------------------ the message

-- the identifier of the record where it lies
unfoldable pub identifier_at : Octets → GivenIdentifier
identifier_at t = record { kind = get_or (body_of t) 0 0; outcome = get_or (body_of t) 1 0; domain = drop 2 (body_of t) }

-- the identifiers among the first k records, up to the first record of another mark
unfoldable pub identified : ℕ → Octets → List GivenIdentifier
identified zero t = []
identified (suc k) t = if same (mark_of t) (octets "ID") then identifier_at t ∷ identified k (after_record t) else []

-- those of a sheet of k records, which follow the author's
unfoldable pub identifiers_on : ℕ → Octets → List GivenIdentifier
identifiers_on k sheet = identified (k - 1) (after_record sheet)

-- and its message
unfoldable pub message_on : ℕ → Octets → GivenMessage
message_on k sheet = record { author = drop 2 (body_of sheet); existence = get_or sheet 4 0; support = get_or sheet 5 0; identifiers = identifiers_on k sheet }

-- ------------------------------------------------------------------ what a check promises

-- a sheet of k records, none of them wrong
pub record Whole (k : ℕ) (sheet : Octets) : Type 0 where
  pub reads : entries sheet ≡ ok (listed k sheet)
  pub all_listed : length (listed k sheet) ≡ k

unfoldable pub Checks : Octets → Result ℕ ℕ → Type 0
Checks sheet (Ok k) = Whole k sheet
Checks sheet (Err place) = entries sheet ≡ not_ok (refusal 8 place)
