-- The fields, computed.
use mathlib.Core.Path.{refl}
use Rattle.reporting.specs.Field.{is_listed, methods, field_text}
use Rattle.book.specs.FieldExamples.{message_with, verdict_with, field_table, FieldsWritten}
use Rattle.book.proofs.Computing.{book_computes}

pub fields_written : FieldsWritten
unfolding book_computes is_listed methods field_text message_with verdict_with field_table FieldsWritten
fields_written = refl
