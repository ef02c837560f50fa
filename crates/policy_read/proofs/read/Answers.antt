-- `policy_read::read` meets its contract: what was gathered sets what the tags of the text set.
use Rattle.std.proofs.Common.{Some, ap, ◌∙◌}
use Rattle.policy_read.proofs.RecordLaws.{no_record, one_record}
use Rattle.policy_read.proofs.read.Goals as goal

pub returns-in-Some : goal.returns-in-Some
returns-in-Some c = ap Some c.read_settings.ensures ∙ one_record c.args.text.now c.in-Some.tags (rw c.in-Some.is at c.gather.ensures)

pub returns-in-None : goal.returns-in-None
returns-in-None c = no_record c.args.text.now (rw c.in-None.is at c.gather.ensures)
