-- `alignment_settle::settle_passing` meets its contract.
use Rattle.alignment.specs.Alignments.{settled}
use Rattle.alignment_settle.proofs.settle_passing.Goals as goal

pub returns-then-equal : goal.returns-then-equal
unfolding settled
returns-then-equal c = rw c.if-equal.true

pub returns-in-Strict : goal.returns-in-Strict
unfolding settled
returns-in-Strict c = rw (c.if-equal.false, c.in-Strict.is)

pub returns-in-Relaxed : goal.returns-in-Relaxed
unfolding settled
returns-in-Relaxed c = rw (c.if-equal.false, c.in-Relaxed.is)
