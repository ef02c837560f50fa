-- `report_rows::put_row` meets its contract.
use native.Mathlib.Omega.{arith}
use Rattle.report_rows.proofs.LineLaws.{row_puts, row_short}
use Rattle.octets.specs.Octets.{octets, part_of}
use Rattle.report_rows.proofs.put_row.Goals as goal

pub returns : goal.returns
unfolding octets part_of
returns c =
    let a = c.args in (
      row_puts a.row.now a.out.now a.at _ c.octet_at.ensures c.octet_at-2.ensures c.octet_at-3.ensures c.number_at-count.ensures
          c.part.ensures c.put-first.ensures c.put_address-second.ensures.0 c.put-third.ensures c.put_decimal_then-fourth.ensures
          c.put_evaluated-last.ensures c.put.ensures,
      row_short a.row.now c.number_at-count.ensures (omega arith) (rw c.part.ensures
          at c.put_address-second.ensures.2),
    )
