-- `publishing_write::put_tags` meets its contract: a tag more at each turn.
use lib.ListN.{take}
use Rattle.octets_pieces.specs.code.Putting.{Puts}
use Rattle.publishing_write.specs.code.TagWords.{tags_from}
use Rattle.publishing_write.proofs.put_tags.Given as goal

abbrev pub invariant-loop-name : goal.invariant-loop-name
invariant-loop-name l = Puts (tags_from 0 (take l.name l.values)) l.at l.initial.out l.end l.out
