-- `evaluation_state::write_domain` meets its contract.
use Rattle.octets.proofs.PartLaws.{part_rest}
use Rattle.evaluation_state.proofs.write_domain.Goals as goal

pub returns : goal.returns
returns c =
    let a = c.args in
    rw (← c.slot-whole.ensures, ← part_rest c.slot-whole.result.now a.place.0, ← c.part.ensures) c.write_lower.ensures
