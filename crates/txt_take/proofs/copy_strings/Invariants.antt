-- `txt_take::copy_strings` meets its contract. The loop's invariant: what was read stands in front, and the others are to come.
use lib.ListN.{length}
use Rattle.txt.specs.Answers.{joined}
use Rattle.txt_read.proofs.CopyLaws.{Copied}
use Rattle.txt_take.proofs.copy_strings.Given as goal

abbrev pub invariant-loop-rest : goal.invariant-loop-rest
invariant-loop-rest l = Copied (joined 0 l.strings) (joined 0 l.rest) l.initial.out l.out l.at

abbrev pub decreases-loop-rest : goal.decreases-loop-rest
decreases-loop-rest l = length l.rest
