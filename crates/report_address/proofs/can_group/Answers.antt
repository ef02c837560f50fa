-- `report_address::can_group` meets its contract.
use Rattle.report_address.proofs.AddressTests.{groups}
use Rattle.report_address.proofs.can_group.Goals as goal

pub returns : goal.returns
returns c = groups c.args.kind
