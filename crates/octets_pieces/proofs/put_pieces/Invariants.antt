-- `octets_pieces::put_pieces` meets its contract.
use Rattle.std.proofs.Common.{take}
use Rattle.octets_pieces.specs.code.Pieces.{pieces}
use Rattle.octets_pieces.specs.code.Putting.{Puts}
use Rattle.octets_pieces.proofs.put_pieces.Given as goal

abbrev pub invariant-loop-n : goal.invariant-loop-n
invariant-loop-n l = Puts (pieces l.texts l.begins (take l.n-index l.list)) l.at l.initial.out l.end l.out
