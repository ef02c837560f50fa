-- What a record is, as the code names it.
use Rattle.std.specs.Prelude.{Option, None, Some}
use Rattle.records.specs.Sheet.{Entry, author_entry, identifier_entry, answer_entry}
use Rattle.records_read.specs.declared.RecordKind.{RecordKind}

-- of a record that its mark can read, or not
unfoldable pub record_kind : Option Entry → RecordKind
record_kind None = RecordKind.Wrong
record_kind (Some (author_entry e s d)) = RecordKind.Author
record_kind (Some (identifier_entry k o d)) = RecordKind.Identifier
record_kind (Some (answer_entry n s b)) = RecordKind.Answer
