-- `octets_pieces::put_decimal` meets its contract.
use Rattle.std.proofs.Common.{arith}
use Rattle.octets.specs.Decimal.{decimal}
use Rattle.octets_pieces.proofs.PuttingLaws.{puts}
use Rattle.octets_pieces.proofs.put_decimal.Goals as goal

pub returns : goal.returns
returns c =
    let a = c.args in
    puts (decimal a.x) a.out.now a.at (omega (arith, c)) c.append_decimal.ensures (rw c.decimal_length.ensures)
