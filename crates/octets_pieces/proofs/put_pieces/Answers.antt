-- `octets_pieces::put_pieces` meets its contract.
use Rattle.std.proofs.Common.{arith}
use mathlib.Core.List.{flatten}
use Rattle.octets_pieces.specs.code.Pieces.{piece, pieces}
use Rattle.octets_pieces.proofs.PuttingLaws.{puts_nothing, puts_both}
use Rattle.octets_pieces.proofs.PieceLaws.{one_more}
use Rattle.octets_pieces.proofs.put_pieces.Goals as goal

pub loop-n-init : goal.loop-n-init
unfolding pieces flatten
loop-n-init c = puts_nothing c.args.out.now c.args.at

pub loop-n-preserved : goal.loop-n-preserved
unfolding pieces
loop-n-preserved c =
    let a = c.args in
    let m = c.loop-n in
    rw (one_more (piece a.texts.now a.begins.now) a.list.now m.n-index 0 (omega arith))
    (puts_both _ _ a.out.now a.at m.invariant (rw c.find_piece.ensures at c.put-end.ensures))
