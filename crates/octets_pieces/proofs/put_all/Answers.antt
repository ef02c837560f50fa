-- `octets_pieces::put_all` meets its contract.
use Rattle.std.proofs.Common.{[], Bor, arith}
use mathlib.Core.List.{flatten}
use Rattle.octets.specs.Octets.{Octets}
use Rattle.octets_pieces.proofs.PuttingLaws.{puts_nothing, puts_both}
use Rattle.octets_pieces.proofs.PieceLaws.{one_more}
use Rattle.octets_pieces.proofs.put_all.Goals as goal

pub loop-text-init : goal.loop-text-init
unfolding flatten
loop-text-init c = puts_nothing c.args.out.now c.args.at

pub loop-text-preserved : goal.loop-text-preserved
loop-text-preserved c =
    let a = c.args in
    let m = c.loop-text in
    rw (one_more (λ (t : Bor Octets). t.now) a.texts.now m.text-index (record { ref_ptr = (0, 0); now = [] }) (omega arith)) (puts_both _ _ a.out.now a.at m.invariant c.put-end.ensures)
