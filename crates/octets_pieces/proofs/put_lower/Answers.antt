-- `octets_pieces::put_lower` meets its contract.
use Rattle.std.proofs.Common.{arith}
use Rattle.octets.specs.Octets.{lower}
use Rattle.octets.proofs.TextLaws.{lower_length}
use Rattle.octets_pieces.proofs.PuttingLaws.{puts}
use Rattle.octets_pieces.proofs.put_lower.Goals as goal

pub returns : goal.returns
returns c =
    let a = c.args in
    puts (lower a.text.now) a.out.now a.at (omega (arith, c)) c.append_lower.ensures (rw (lower_length a.text.now))
