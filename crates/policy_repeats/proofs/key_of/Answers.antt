-- `policy_repeats::key_of` meets its contract: the key of the whole is that of what is left.
use Rattle.std.proofs.Common.{sym, ◌∙◌, arith}
use native.Mathlib.Nat.{mod-lt}
use Rattle.policy_repeats.specs.code.Storing.{prime, key_of}
use Rattle.policy_repeats.proofs.StoreLaws.{key_lower, key_next, key_end}
use Rattle.policy_repeats.proofs.key_of.Goals as goal

pub loop-x-preserved : goal.loop-x-preserved
loop-x-preserved c =
    let m = c.loop-x in
    (mod-lt _ {m = prime} (omega arith), m.invariant.1 ∙ rw c.from.ensures (key_next m.key c.args.name.now m.x-index (omega arith)))

pub returns : goal.returns
unfolding key_of
returns c =
    let m = c.loop-x in
    let s = c.args.name.now in
    sym (key_lower 0 s ∙ m.invariant.1 ∙ key_end m.key s m.x-index (omega arith))
