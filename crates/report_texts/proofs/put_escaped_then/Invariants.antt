-- `report_texts::put_escaped_then` meets its contract.
use Rattle.std.proofs.Common.{take}
use Rattle.report.specs.Xml.{with_entities}
use Rattle.octets_pieces.specs.code.Putting.{Puts}
use Rattle.report_texts.proofs.put_escaped_then.Given as goal

abbrev pub invariant-loop-b : goal.invariant-loop-b
invariant-loop-b l = Puts (with_entities (take l.b-index l.text)) l.at l.initial.out l.end l.out
