-- A sheet's beginning: what a check of its records, the opening of its message and the adding of its identifiers leave.
use Rattle.std.specs.Prelude.{◌≡◌, ℕ, length, Ok, Err}
use Rattle.octets.specs.Octets.{Octets}
use Rattle.octets.specs.Refusing.{not_ok}
use Rattle.octets.specs.declared.Refusal.{Refusal}
use Rattle.verdict.specs.Message.{Message}
use Rattle.evaluation.specs.declared.Evaluation.{Evaluation}
use Rattle.records_fields.specs.code.Layout.{listed}
use Rattle.sheet.specs.Printed.{evaluated_over, text_of, printed}
use Rattle.sheet_turn.specs.code.Conversing.{answers_on, Conversing}
use Rattle.sheet_run.specs.declared.Begun.{Begun}

-- a conversation about the sheet's message begins, over its answers, in any memory that has room for every text
pub record Starts (sheet : Octets) (records : ℕ) (e : Evaluation) : Type 0 where
  pub message : Message
  pub all_listed : length (listed records sheet) ≡ records
  pub conversing : (lines : Octets) → length lines ≡ 36864 → Conversing message (answers_on records sheet) 0 e 0 lines
  pub prints : printed sheet ≡ text_of (evaluated_over message (answers_on records sheet))

-- a refusal is the sheet's; where all is accepted, the conversation begins
pub record Begins (sheet : Octets) (r : Begun) : Type 0 where
  pub refused : (f : Refusal) → r.acceptance ≡ Err f → printed sheet ≡ text_of (not_ok f)
  pub accepted : r.acceptance ≡ (Ok tt) → Starts sheet r.records r.evaluation
