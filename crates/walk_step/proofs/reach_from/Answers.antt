-- `walk_step::reach_from` meets its contract. The loop's invariant: the whole goes as far as what is left, after this last record.
use mathlib.Core.Path.{◌≡◌, refl, ap, sym, ◌∙◌}
use Prim.Native.Nat.{◌+◌, ◌-◌, min}
use native.Mathlib.Omega.{arith}
use Rattle.domain_labels.specs.declared.Target.{Target}
use Rattle.walk_known.specs.code.Kept.{kept_answers}
use Rattle.walk_progress.specs.code.Summary.{found_in}
use Rattle.walk_progress.specs.code.Stops.{turned_in}
use Rattle.walk_step.specs.code.Steps.{reach_at, reach_placed}
use Rattle.walk_step.proofs.StepLaws.{placed_end, placed_next}
use Rattle.walk_step.proofs.reach_from.Goals as goal
use Rattle.walk_step.proofs.reach_from.Goals.{After-min-targets, After-step}

-- no more targets than there are
clipped : (v : After-min-targets) →
    let a = v.args in
    v.min-targets.result ≡ min a.left.0 (min 8 a.starts.labels.0)
clipped v = v.min-targets.ensures ∙ ap (min v.args.left.0) v.count_targets.ensures

-- the whole after a target
after : (v : After-step) →
    let a = v.args in
    let on = reach_placed (kept_answers a.domains.now a.count a.kept.now) a.d.now a.starts.begins in
    on (found_in a.d.now a.first) v.min-targets.result ≡ turned_in a.d.now (λ l. on l (v.loop-more.more - 1)) v.step.result
after v =
    let a = v.args in
    let m = v.loop-more in
    let β = kept_answers a.domains.now a.count a.kept.now in
    let last = found_in a.d.now m.last in
    let before : m.more - 1 + 1 ≡ m.more = omega arith in
    m.invariant
    ∙ placed_next β a.d.now a.starts.begins last m.more (omega arith)
    ∙ ap (λ (t : Target). reach_at β a.d.now t last (m.more - 1) (λ l. reach_placed β a.d.now a.starts.begins l (m.more - 1))) (sym (rw before at v.find_target-target.ensures))
    ∙ sym (v.step.ensures (λ l. reach_placed β a.d.now a.starts.begins l (m.more - 1)))

pub loop-more-init : goal.loop-more-init
loop-more-init c = refl

pub returns-in-Break : goal.returns-in-Break
unfolding turned_in
returns-in-Break c =
    rw (← clipped (goal.at.returns-in-Break c).After-min-targets) (sym (rw c.in-Break.is at (after (goal.at.returns-in-Break c).After-step)))

pub loop-more-preserved : goal.loop-more-preserved
unfolding turned_in
loop-more-preserved c = rw c.in-Continue.is at (after (goal.at.loop-more-preserved c).After-step)

pub returns : goal.returns
returns c =
    let a = c.args in
    let m = c.loop-more in
    let β = kept_answers a.domains.now a.count a.kept.now in
    let ended = placed_end β a.d.now a.starts.begins (found_in a.d.now m.last) m.more (omega arith) in
    rw (← clipped (goal.at.returns c).After-min-targets, m.invariant, ended) (c.end_at.ensures a.d.now)
