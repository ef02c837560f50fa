-- `policy_gather::gather` meets its contract: the known names were judged in one pass, the others where there are two of them.
use Rattle.std.proofs.Common.{sym, ◌∙◌, arith}
use Rattle.policy_gather.proofs.StartLaws.{no_start, known_twice, once, twice, few}
use Rattle.policy_gather.proofs.gather.Goals as goal
use Rattle.policy_gather.proofs.gather.Goals.{else-tags-ge2-via-then-tags-ge2+else-repeats_unknown, else-tags-ge2-via-else-tags-ge2}

pub returns-in_err-from : goal.returns-in_err-from
returns-in_err-from c = rw c.from_residual.ensures (no_start c.args.text.now (sym c.later_parts.ensures ∙ c.in_err-from.was))

pub returns-in_err-tags : goal.returns-in_err-tags
returns-in_err-tags c =
    rw c.from_residual-in_err-tags.ensures (known_twice c.args.text.now c.in_ok-from.from (sym c.later_parts.ensures ∙ c.in_ok-from.was) (rw c.in_err-tags.was at c.gather_known.ensures))

pub returns-then-repeats_unknown : goal.returns-then-repeats_unknown
returns-then-repeats_unknown c =
    twice c.args.text.now c.in_ok-from.from (sym c.later_parts.ensures ∙ c.in_ok-from.was) (sym c.repeats_unknown.ensures ∙ c.if-repeats_unknown.true)

pub returns-else-tags-ge2 : goal.returns-else-tags-ge2
returns-else-tags-ge2 c =
    let from = c.in_ok-from.from in
    let e = sym c.later_parts.ensures ∙ c.in_ok-from.was in
    let known = rw c.in_ok-tags.was at c.gather_known.ensures in
    elim c.else-tags-ge2.branch [
      | else-tags-ge2-via-then-tags-ge2+else-repeats_unknown w ↦ once c.args.text.now from e c.in_ok-tags.tags known (sym w.repeats_unknown.ensures ∙ w.if-repeats_unknown.false)
      | else-tags-ge2-via-else-tags-ge2 w ↦ few c.args.text.now from e c.in_ok-tags.tags known (omega (arith, w.if-tags-ge2.false))
    ]
