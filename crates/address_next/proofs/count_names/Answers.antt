-- `address_next::count_names` meets its contract.
use native.Mathlib.Omega.{arith}
use Rattle.octets.proofs.TextLaws.{flag_unset, flag_set}
use Rattle.address_next.proofs.count_names.Goals as goal

pub returns-then-confirmed-eq0 : goal.returns-then-confirmed-eq0
returns-then-confirmed-eq0 c = rw (flag_unset c.args.confirmed c.if-confirmed-eq0.true) (omega (arith, c.min-walked.ensures))

pub returns-else-confirmed-eq0 : goal.returns-else-confirmed-eq0
returns-else-confirmed-eq0 c = rw (flag_set c.args.confirmed c.if-confirmed-eq0.false) (omega (arith, c.min-walked.ensures))
