-- `rows_gather::put_number` meets its contract.
use Rattle.rows_gather.proofs.GatherLaws.{number_bytes}
use Rattle.rows_gather.proofs.put_number.Goals as goal

pub returns : goal.returns
returns c = rw (c.to_le_bytes.ensures, number_bytes) at c.append.ensures
