-- `policy_read::rua` meets its contract: it cuts by what `rua_bounds` ensures.
use native.Mathlib.Omega.{arith}
use Rattle.policy_read.proofs.RecordLaws.{rua_fits, rua_cut}
use Rattle.policy_read.proofs.rua.Goals as goal

pub overflow_add-result : goal.overflow_add-result
overflow_add-result c = omega (arith, rua_fits c.args.text.now c.rua_bounds-bounds.result c.rua_bounds-bounds.ensures)

pub slice_bounds-result-end : goal.slice_bounds-result-end
slice_bounds-result-end c = omega (arith, rua_fits c.args.text.now c.rua_bounds-bounds.result c.rua_bounds-bounds.ensures)

pub returns : goal.returns
returns c = rua_cut c.args.text.now c.rua_bounds-bounds.result c.rua_bounds-bounds.ensures
