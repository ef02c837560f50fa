-- `policy_words::step_down` meets its contract: the rule of its table is computed at every row.
use mathlib.Core.List.{[], ◌∷◌}
use Rattle.policy.specs.declared.Policy.TheVariants.{None, Quarantine}
use Rattle.force.specs.InForce.{step_down}
use Rattle.policy_words.specs.code.Rows.{policy_number, policy_at}
use Rattle.policy_words.proofs.TableLaws.{policy_fits, steps}
use Rattle.policy_words.proofs.step_down.Goals as goal

pub bounds-policy_number-policy_number : goal.bounds-policy_number-policy_number
bounds-policy_number-policy_number c = rw c.policy_number.ensures (policy_fits c.args.p)

pub returns : goal.returns
unfolding policy_number policy_at step_down
returns c = rw c.policy_number.ensures (steps (None ∷ None ∷ Quarantine ∷ []) tt None c.args.p (policy_fits c.args.p))
