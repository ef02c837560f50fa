-- `report_texts::put_entity` meets its contract.
use Rattle.std.proofs.Common.{◌≡◌, arith}
use Rattle.std.proofs.lemmas.Grind.{common_steps}
use Rattle.octets.specs.Octets.{octets}
use Rattle.report.specs.Xml.{entity}
use Rattle.report_texts.proofs.put_entity.Goals as goal

pub returns : goal.returns
unfolding octets entity
returns c =
    let text : c.match-b.text.now ≡ entity c.args.b = grind (arith, common_steps) in
    rw (← text) c.put.ensures
