-- `octets_pieces::put_then` meets its contract.
use Rattle.octets_pieces.proofs.PuttingLaws.{puts_both}
use Rattle.octets_pieces.proofs.put_then.Goals as goal

pub returns : goal.returns
returns c =
    let a = c.args in
    puts_both a.text.now a.rest.now a.out.now a.at c.put-middle.ensures c.put.ensures
