-- `report_address::can_dot` meets its contract.
use Rattle.report_address.proofs.AddressTests.{dots}
use Rattle.report_address.proofs.can_dot.Goals as goal

pub returns : goal.returns
returns c = dots c.args.kind
