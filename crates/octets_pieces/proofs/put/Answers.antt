-- `octets_pieces::put` meets its contract.
use Rattle.std.proofs.Common.{refl, arith}
use Rattle.octets_pieces.proofs.PuttingLaws.{puts}
use Rattle.octets_pieces.proofs.put.Goals as goal

pub returns : goal.returns
returns c =
    let a = c.args in
    puts a.text.now a.out.now a.at (omega (arith, c)) c.append.ensures refl
