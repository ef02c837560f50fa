-- `txt_take::take_records` ends: the octets that are left fall.
use lib.ListN.{length}
use Rattle.txt_take.proofs.+take_records.Given as goal

abbrev pub decreases-take_records : goal.decreases-take_records
decreases-take_records l = length l.bytes.now
