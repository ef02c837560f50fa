-- `text_parts::part` meets its contract.
use Rattle.octets.proofs.PartLaws.{clipped_part}
use Rattle.text_parts.proofs.part.Goals as goal

pub returns : goal.returns
returns c =
    let a = c.args in
    clipped_part a.s.now a.from a.end c.min.result c.min-stop.result c.min-stop.ensures c.min.ensures
