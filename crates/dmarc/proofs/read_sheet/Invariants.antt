use Rattle.std.proofs.Common.{◌≤◌, ◌-◌, length}
use Rattle.dmarc.proofs.read_sheet.Given as goal

abbrev pub invariant-loop-size : goal.invariant-loop-size
invariant-loop-size g l = l.size ≤ length l.memory

abbrev pub decreases-loop-size : goal.decreases-loop-size
decreases-loop-size g l = length l.initial.memory - l.size
