-- `txt_read::are_records` ends: the octets that are left fall.
use lib.ListN.{length}
use Rattle.txt_read.proofs.+are_records.Given as goal

abbrev pub decreases-are_records : goal.decreases-are_records
decreases-are_records l = length l.bytes.now
