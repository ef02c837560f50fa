-- What is claimed of every list of calls on a reader of aggregate reports (document 02, Ask 10).
use Rattle.std.specs.Prelude.{◌≡◌, ◌⊎◌, Bool, true, false, ℕ, eqb, take, drop, if◌then◌else◌}
use mathlib.Core.List.{List, [], ◌∷◌, ◌++◌, flatten}
use Rattle.octets.specs.Octets.{Octets}
use Rattle.octets.specs.Refusing.{ok, not_ok}
use Rattle.octets.specs.declared.Refusal.{Refusal}
use Rattle.parsing.specs.Reads.{stuck, feed, ended}
use Rattle.report_form.specs.ReportForm.{Said}
use Rattle.report_form.specs.code.ReportReading.{new_reader}
use Rattle.report_kept.specs.declared.ReaderState.{ReaderState}
use Rattle.report_parts.specs.declared.Told.{Told}
use Rattle.report_parts.specs.Parts.{LentReader, row_in, row_given, IsNew, Feeds, EndsAt}

-- a call: the part that is lent, how many octets of it are used, what is told, and the reader then
pub record PartCall : Type 0 where
  pub part : Octets
  pub used : ℕ
  pub told : Told
  pub after : LentReader

abbrev pub FedBy : LentReader → PartCall → Type 0
FedBy r c = Feeds r c.part c.after c.used c.told

-- calls, each on the reader that the one before left
unfoldable pub Called : LentReader → List PartCall → Type 0
Called r [] = Unit
Called r (c ∷ cs) = FedBy r c × Called c.after cs

-- the reader after them
unfoldable pub reader_after : LentReader → List PartCall → LentReader
reader_after r [] = r
reader_after r (c ∷ cs) = reader_after c.after cs

-- the text: the octets that they used
abbrev pub used_by : PartCall → Octets
used_by c = take c.used c.part

unfoldable pub text_used : List PartCall → Octets
text_used [] = []
text_used (c ∷ cs) = used_by c ++ text_used cs

-- the rows that they handed out
unfoldable pub rows_given : List PartCall → List Said
rows_given [] = []
rows_given (c ∷ cs) = row_given c.told c.after ++ rows_given cs

-- parts lent one after the other: behind a row, what is left of its part again
unfoldable pub still_lent : PartCall → List Octets → List Octets
still_lent c ps = if eqb c.told.event 1 then drop c.used c.part ∷ ps else ps

unfoldable pub Lends : List PartCall → List Octets → Type 0
Lends [] ps = ps ≡ []
Lends (c ∷ cs) [] = ⊥
Lends (c ∷ cs) (p ∷ ps) = (c.part ≡ p) × Lends cs (still_lent c ps)

-- of the calls on a reader that has read nothing
pub record OfNewReader (r : LentReader) (cs : List PartCall) : Type 0 where
  -- "in parts cut anywhere": "The rows .. are those of the uncut text"
  pub rows_uncut : rows_given cs ≡ (feed new_reader (text_used cs)).rows
  -- "the refusal and its place are those of the uncut text": one call more tells that nothing is refused, a row's count, or the refusal
  pub told_uncut : (c : PartCall) → FedBy (reader_after r cs) c
      → ((c.told ≡ record { event = 0; number = 0; place = 0; count = 0 }) × ((q : Refusal) → (feed new_reader (text_used cs ++ used_by c)).reader.left ≡ stuck q → ⊥))
      ⊎ (c.told ≡ record { event = 1; number = 0; place = 0; count = (row_in c.after).count })
      ⊎ ((q : Refusal) × ((feed new_reader (text_used cs ++ used_by c)).reader.left ≡ stuck q) × (c.told ≡ record { event = 2; number = q.number; place = q.place; count = 0 }))
  -- "only when the end is declared"
  pub end_uncut : (after : ReaderState) (told : Told) → EndsAt (reader_after r cs).state after told
      → ((ended (feed new_reader (text_used cs)).reader ≡ ok tt) × (told ≡ record { event = 0; number = 0; place = 0; count = 0 }))
      ⊎ ((q : Refusal) × (ended (feed new_reader (text_used cs)).reader ≡ not_ok q) × (told ≡ record { event = 2; number = q.number; place = q.place; count = 0 }))

pub record PartsClaims : Type 0 where
  -- calls that are lent all parts use the whole text
  pub all_used : (r : LentReader) (cs : List PartCall) → Called r cs → (ps : List Octets) → Lends cs ps → text_used cs ≡ flatten ps
  pub as_uncut : (s : ReaderState) (row : Octets) → IsNew s → (cs : List PartCall) → Called (record { state = s; row = row }) cs
      → OfNewReader (record { state = s; row = row }) cs
  -- "after a refusal every later part gets the same one", and the end too
  pub same_again : (r : LentReader) (c d : PartCall) → FedBy r c → c.told.event ≡ 2 → FedBy c.after d → d.told ≡ c.told
  pub same_at_the_end : (r : LentReader) (c : PartCall) → FedBy r c → c.told.event ≡ 2 → (after : ReaderState) (told : Told) → EndsAt c.after.state after told → told ≡ c.told
  -- an end that is refused is such a refusal
  pub same_after_the_end : (s after : ReaderState) (told : Told) → EndsAt s after told → told.event ≡ 2
      → (row : Octets) (c : PartCall) → FedBy (record { state = after; row = row }) c → c.told ≡ told
