-- What the steps of taking an answer promise one another.
use Rattle.std.specs.Prelude.{◌≡◌, Bool, true, false, ℕ, ◌≤◌, length, if◌then◌else◌, Some, None, Option, option_map}
use mathlib.Core.List.{List, [], flatten}
use Rattle.octets.specs.Octets.{Octets}
use Rattle.octets.specs.Framing.{size_of}
use Rattle.octets.specs.Lent.{over}
use Rattle.txt_found.specs.declared.Found.{Found}
use Rattle.txt_found.specs.code.Finding.{found_of}
use Rattle.txt.specs.Answers.{is_text_record, texts_of, policy_records}

-- whether something could be read
abbrev pub is_there : {A : Type 0} → Option A → Bool
is_there None = false
is_there (Some x) = true

-- what could be read, or nothing
abbrev pub or_empty : {A : Type 0} → Option (List A) → List A
or_empty None = []
or_empty (Some xs) = xs

-- the record at the front, with the length of its RDATA
unfoldable pub front_of : Octets → Option ℕ
front_of bytes = if is_text_record bytes then Some (size_of bytes) else None

-- the texts of an answer, one after another
unfoldable pub all_texts : Octets → Option Octets
all_texts bytes = option_map flatten (texts_of 16 bytes)

-- a text that can be read, and memory with room for it
pub record Room (text : Option Octets) (memory : Octets) : Type 0 where
  pub reads : is_there text ≡ true
  pub fits : length (or_empty text) ≤ length memory

-- the promise of a copier: how long the text is, and the memory with the text in front
pub record Copies (text : Option Octets) (before : Octets) (answer : ℕ) (after : Octets) : Type 0 where
  pub answers : answer ≡ length (or_empty text)
  pub leaves : after ≡ over (or_empty text) before

-- the promise of the reader of records: the policy records of an answer, and the scratch with its texts in front
pub record Finds (bytes before : Octets) (answer : Found) (after : Octets) : Type 0 where
  pub answers : answer ≡ found_of (policy_records (or_empty (texts_of 16 bytes)))
  pub leaves : after ≡ over (or_empty (all_texts bytes)) before
