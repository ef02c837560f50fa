-- `alignment_settle::settle` meets its contract.
use mathlib.Core.Logic.{inl, inr}
use Rattle.alignment.specs.Alignments.{settled}
use Rattle.alignment_settle.proofs.settle.Goals as goal

pub returns-in-NotPassing : goal.returns-in-NotPassing
unfolding settled
returns-in-NotPassing c = elim c.in-NotPassing.is [ inl e ↦ rw e | inr e ↦ rw e ]

pub returns-in-Pass : goal.returns-in-Pass
returns-in-Pass c = rw c.in-Pass.is c.settle_passing.ensures
