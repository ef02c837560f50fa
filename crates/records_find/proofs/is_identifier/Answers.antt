-- `records_find::is_identifier` meets its contract.
use mathlib.Core.Path.{sym}
use Rattle.octets.specs.Octets.{octets}
use Rattle.octets.proofs.FramingLaws.{mark_is}
use Rattle.records_find.proofs.is_identifier.Goals as goal

pub returns : goal.returns
unfolding octets
returns c = sym (mark_is c.args.t.now (octets "ID") c.part.ensures c.same_octets.ensures)
