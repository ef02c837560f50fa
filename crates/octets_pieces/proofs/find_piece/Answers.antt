-- `octets_pieces::find_piece` meets its contract.
use Rattle.std.proofs.Common.{sym, arith, rules}
use Rattle.octets_pieces.specs.code.Pieces.{piece}
use Rattle.octets_pieces.proofs.PieceLaws.{no_piece}
use Rattle.octets_pieces.proofs.find_piece.Goals as goal

pub returns-then-i-begins : goal.returns-then-i-begins
unfolding piece
returns-then-i-begins c = search rules

pub returns-else-i-begins : goal.returns-else-i-begins
returns-else-i-begins c =
    let a = c.args in
    sym (no_piece a.texts.now a.begins.now a.n (omega arith))
