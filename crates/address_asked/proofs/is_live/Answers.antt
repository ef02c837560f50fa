-- `address_asked::is_live` meets its contract.
use Rattle.octets.proofs.TextLaws.{flag_unset, flag_set}
use Rattle.address_asked.proofs.is_live.Goals as goal
use Rattle.address_asked.proofs.is_live.Goals.{then-started-eq0-via-then-started-eq0, then-started-eq0-via-else-started-eq0+then-asked-eq0}

pub returns-then-started-eq0 : goal.returns-then-started-eq0
returns-then-started-eq0 c = λ p.
    let a = c.args in
    elim c.then-started-eq0.branch [
      | then-started-eq0-via-then-started-eq0 w ↦ rw (flag_unset a.started w.if-started-eq0.true)
      | then-started-eq0-via-else-started-eq0+then-asked-eq0 w ↦ rw (flag_set a.started w.if-started-eq0.false, flag_unset a.asked w.if-asked-eq0.true)
    ]

pub returns : goal.returns
returns c = let a = c.args in λ p. rw (flag_set a.started c.if-started-eq0.false, flag_set a.asked c.if-asked-eq0.false) (c.has_room.ensures p)
