-- `sheet_print::append_refusal` meets its contract.
use Rattle.sheet_print.proofs.PrintingLaws.{refusal_puts, refusal_text_short}
use Rattle.octets.specs.Octets.{octets}
use native.Mathlib.Omega.{arith}
use Rattle.sheet_print.proofs.append_refusal.Goals as goal

pub returns : goal.returns
unfolding octets
returns c =
    let a = c.args in (
      refusal_puts a.out.now a.at a.f c.put-number.ensures c.put_decimal_then-place.ensures c.put_decimal_then.ensures,
      refusal_text_short a.f (omega arith) (omega arith),
    )
