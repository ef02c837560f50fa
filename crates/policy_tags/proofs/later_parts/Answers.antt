-- `policy_tags::later_parts` meets its contract: the first part decides.
use Rattle.std.proofs.Common.{sym, ◌∙◌}
use Rattle.policy_tags.proofs.TagLaws.{starts, no_start}
use Rattle.policy_tags.proofs.later_parts.Goals as goal

pub returns-then-is_version : goal.returns-then-is_version
returns-then-is_version c = starts c.args.text.now c.front-first.result.now c.front-first.ensures (sym c.is_version.ensures ∙ c.if-is_version.true)

pub returns-else-is_version : goal.returns-else-is_version
returns-else-is_version c = no_start c.args.text.now c.front-first.result.now c.front-first.ensures (sym c.is_version.ensures ∙ c.if-is_version.false)
