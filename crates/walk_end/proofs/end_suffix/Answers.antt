-- `walk_end::end_suffix` meets its contract.
use Rattle.std.specs.Prelude.{Some}
use mathlib.Core.Path.{ap, ◌∙◌}
use Rattle.walk_progress.specs.code.Summary.{Summary, found_in, summary_in}
use Rattle.walk_progress.specs.code.Reaching.{over}
use Rattle.walk_progress.specs.code.Stops.{reached_in}
use Rattle.walk_end.proofs.EndLaws.{suffix_at_start, suffix_above}
use Rattle.walk_end.proofs.end_suffix.Goals as goal

pub returns-then-same_end : goal.returns-then-same_end
unfolding found_in
returns-then-same_end c =
    let a = c.args in
    let test = c.same_end in
    c.end_at.ensures a.d.now
    ∙ ap (λ (x : Summary). over (Some x)) (suffix_at_start a.d.now a.at.begin.0 a.at.wider.0 (found_in a.d.now a.last) a.settings test.result test.ensures c.if-same_end.true)

pub returns-else-same_end : goal.returns-else-same_end
unfolding found_in reached_in summary_in
returns-else-same_end c =
    let a = c.args in
    let test = c.same_end in
    ap (λ (x : Summary). over (Some x))
    (suffix_above a.d.now a.at.begin.0 a.at.wider.0 (found_in a.d.now a.last) a.settings test.result test.ensures c.if-same_end.false _ c.choose.ensures)
