-- `report_sources::digit` meets its contract.
use Rattle.octets.specs.Octets.{octets}
use Rattle.report.specs.Xml.{hex_octet}
use Rattle.report_sources.proofs.digit.Goals as goal

pub returns : goal.returns
unfolding octets hex_octet
returns c = c.octet_at.ensures
