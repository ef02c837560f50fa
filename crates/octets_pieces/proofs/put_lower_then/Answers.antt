-- `octets_pieces::put_lower_then` meets its contract.
use Rattle.octets.specs.Octets.{lower}
use Rattle.octets_pieces.proofs.PuttingLaws.{puts_both}
use Rattle.octets_pieces.proofs.put_lower_then.Goals as goal

pub returns : goal.returns
returns c =
    let a = c.args in
    puts_both (lower a.text.now) a.rest.now a.out.now a.at c.put_lower-middle.ensures c.put.ensures
