-- Some completion of accepted answers.
use Rattle.std.specs.Prelude.{None, Some}
use Rattle.lookup.specs.Lookup.{Name, Answers, find, Completes}

-- accepted answers, and given ones for the names that have none
unfoldable pub completed : {R : Type 0} → Answers R → (Name → R) → Name → R
completed β α n = elim (find β n) [ None ↦ α n | Some r ↦ r ]

pub completes : {R : Type 0} (β : Answers R) (α : Name → R) → Completes (completed β α) β
unfolding completed
completes β α n r e = rw (e, completed)
