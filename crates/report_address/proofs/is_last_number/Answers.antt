-- `report_address::is_last_number` meets its contract.
use Rattle.std.proofs.Common.{◌≡◌, arith}
use Rattle.report_address.proofs.AddressTests.{last_either, last_dotted, last_grouped}
use Rattle.report_address.proofs.is_last_number.Goals as goal

pub returns-in-0 : goal.returns-in-0
returns-in-0 c = last_either c.args.kind c.args.numbers c.in-0.is

pub returns-in-1 : goal.returns-in-1
returns-in-1 c = last_dotted c.args.kind c.args.numbers c.in-1.is

pub returns-in_default : goal.returns-in_default
returns-in_default c =
    let k = c.args.kind in
    last_grouped k c.args.numbers (λ (e : k ≡ 0). omega arith) (λ (e : k ≡ 1). omega arith)
