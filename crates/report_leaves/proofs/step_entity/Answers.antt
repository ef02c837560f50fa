-- `report_leaves::step_entity` meets its contract.
use mathlib.Core.Logic.{inl, inr}
use native.Mathlib.Omega.{arith}
use Rattle.report_leaves.proofs.LeafLaws.{past_entities, amp, lt, gt, no_entity, comes_m, not_m, comes_p, not_p, comes_end, not_end, comes_t, not_t}
use Rattle.report_leaves.proofs.step_entity.Goals as goal

pub returns-in-0-eq97 : goal.returns-in-0-eq97
returns-in-0-eq97 c = let a = c.args in let h = c.in-0-eq97 in amp a.at a.x (omega (arith, h.is-0)) h.is-1

pub returns-in-0-eq108 : goal.returns-in-0-eq108
returns-in-0-eq108 c = let a = c.args in let h = c.in-0-eq108 in elim h.is-1 [ inl e ↦ gt a.at a.x (omega (arith, h.is-0)) e | inr e ↦ lt a.at a.x (omega (arith, h.is-0)) e ]

pub returns-in-2-eq109 : goal.returns-in-2-eq109
returns-in-2-eq109 c = let a = c.args in let h = c.in-2-eq109 in comes_m a.at a.x h.is-0 h.is-1

pub returns-in-3-eq112 : goal.returns-in-3-eq112
returns-in-3-eq112 c = let a = c.args in let h = c.in-3-eq112 in comes_p a.at a.x h.is-0 h.is-1

pub returns-in-4-eq59 : goal.returns-in-4-eq59
returns-in-4-eq59 c = let a = c.args in let h = c.in-4-eq59 in comes_end a.at a.x h.is-0 h.is-1

pub returns-in-5-eq116 : goal.returns-in-5-eq116
returns-in-5-eq116 c = let a = c.args in let h = c.in-5-eq116 in comes_t a.at a.x h.is-0 h.is-1

pub returns-in_default : goal.returns-in_default
returns-in_default c = let a = c.args in let h = c.in_default in not_m a.at a.x h.is-0 h.is-1.1

pub returns-in_default-2 : goal.returns-in_default-2
returns-in_default-2 c = let a = c.args in let h = c.in_default in not_p a.at a.x h.is-0 h.is-1.1

pub returns-in_default-3 : goal.returns-in_default-3
returns-in_default-3 c = let a = c.args in let h = c.in_default in not_end a.at a.x h.is-0 h.is-1.1

pub returns-in_default-4 : goal.returns-in_default-4
returns-in_default-4 c = let a = c.args in let h = c.in_default in not_t a.at a.x h.is-0 h.is-1.1

pub returns-in_default-5 : goal.returns-in_default-5
returns-in_default-5 c = let a = c.args in let h = c.in_default in no_entity a.at a.x (omega (arith, h.is-0)) h.is-1.0.1 (λ e. h.is-1.1 (inr e)) (λ e. h.is-1.1 (inl e))

pub returns-in_default-6 : goal.returns-in_default-6
returns-in_default-6 c = let a = c.args in let h = c.in_default in past_entities a.at a.x (omega (arith, h.is-0))
