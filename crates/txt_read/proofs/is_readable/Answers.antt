-- `txt_read::is_readable` meets its contract.
use mathlib.Core.Path.{◌∙◌}
use borrow.Author.Tests.{lt-leb}
use Rattle.txt_read.proofs.AnswerLaws.{limit_kept, limit_broken}
use Rattle.txt_read.proofs.is_readable.Goals as goal

pub returns-then-bytes-le-ANSWER_OCTETS : goal.returns-then-bytes-le-ANSWER_OCTETS
returns-then-bytes-le-ANSWER_OCTETS c = rw (limit_kept c.args.bytes.now c.if-bytes-le-ANSWER_OCTETS.true) c.are_records.ensures

pub returns-else-bytes-le-ANSWER_OCTETS : goal.returns-else-bytes-le-ANSWER_OCTETS
returns-else-bytes-le-ANSWER_OCTETS c = lt-leb _ _ c.if-bytes-le-ANSWER_OCTETS.false ∙ rw (limit_broken c.args.bytes.now c.if-bytes-le-ANSWER_OCTETS.false)
