-- `octets_pieces::put_decimal_then` meets its contract.
use Rattle.octets.specs.Decimal.{decimal}
use Rattle.octets_pieces.proofs.PuttingLaws.{puts_both}
use Rattle.octets_pieces.proofs.put_decimal_then.Goals as goal

pub returns : goal.returns
returns c =
    let a = c.args in
    puts_both (decimal a.x) a.rest.now a.out.now a.at c.put_decimal-middle.ensures c.put.ensures
