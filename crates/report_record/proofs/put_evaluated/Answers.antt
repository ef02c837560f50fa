-- `report_record::put_evaluated` meets its contract.
use Rattle.std.proofs.Common.{◌≡◌, ◌||◌, arith}
use Rattle.std.proofs.lemmas.Grind.{common_steps}
use mathlib.Core.List.{flatten}
use Rattle.octets.specs.Octets.{octets, is_set}
use Rattle.report_record.proofs.RecordLaws.{evaluated_texts}
use Rattle.report_record.proofs.put_evaluated.Goals as goal

pub returns : goal.returns
unfolding octets flatten is_set
returns c =
    let seen = c.args.seen in
    let aligned : c.if-dkim.disposition_word ≡ (is_set seen.dkim || is_set seen.spf) = grind (arith, common_steps) in
    rw (evaluated_texts seen _ aligned) at (rw (c.disposition_word.ensures, c.alignment_word.ensures, c.alignment_word-2.ensures) at c.put_all.ensures)
