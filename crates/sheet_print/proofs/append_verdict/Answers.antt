-- `sheet_print::append_verdict` meets its contract.
use Rattle.sheet_print.proofs.PrintingLaws.{verdict_puts, verdict_lines_short}
use Rattle.octets.specs.Octets.{octets}
use mathlib.Core.List.{flatten}
use Rattle.octets_pieces.specs.code.Pieces.{starts}
use Rattle.sheet_print.specs.code.Words.{words}
use native.Mathlib.Omega.{arith}
use Rattle.sheet_print.proofs.append_verdict.Goals as goal

pub returns : goal.returns
unfolding words octets flatten starts
returns c =
    let a = c.args in (
      verdict_puts a.out.now a.at a.r a.p a.d a.count _ _ _
          c.result_piece.ensures c.applied_piece.ensures c.disposition_piece.ensures
          c.put_pieces-digits.ensures c.put_decimal_then.ensures,
      verdict_lines_short a.r a.p a.d a.count (omega (arith, c)),
    )
