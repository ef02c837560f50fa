-- `address_hosts::judge_text` meets its contract.
use mathlib.Core.Path.{◌≡◌, ap, sym, ◌∙◌}
use Rattle.octets.specs.Octets.{lower}
use Rattle.address.specs.Address.{rua_hosts}
use Rattle.address_hosts.specs.code.Saying.{hosts_said, record_said, text_said}
use Rattle.address_hosts.proofs.HostLaws.{rua_there, not_a_record, a_record}
use Rattle.address_hosts.specs.declared.Said.{Said}
use Rattle.address_hosts.proofs.judge_text.Goals as goal
use Rattle.address_hosts.proofs.judge_text.Goals.{After-judge_rua}

-- what a policy record says, by its hosts
said : (v : After-judge_rua)
    → let a = v.args in
    record_said a.text.now v.judge_rua.result ≡ text_said (lower a.host.now) a.text.now
said v =
    let a = v.args in
    let h = lower a.host.now in
    ap (record_said a.text.now) (v.judge_rua.ensures ∙ ap (λ t. hosts_said h (rua_hosts t)) (v.rua.ensures ∙ rua_there a.text.now))
    ∙ a_record h a.text.now _ (sym v.read.ensures ∙ v.in-Some.is)

pub returns-in_default : goal.returns-in_default
returns-in_default c =
    let a = c.args in
    not_a_record (lower a.host.now) a.text.now (sym c.read.ensures ∙ c.in_default.is)

pub returns-in-Nothing : goal.returns-in-Nothing
unfolding record_said
returns-in-Nothing c = rw c.in-Nothing.is at (said (goal.at.returns-in-Nothing c).After-judge_rua)

pub returns-in-Same : goal.returns-in-Same
unfolding record_said
returns-in-Same c = ap Said.Replaces c.rua_bounds.ensures ∙ rw c.in-Same.is at (said (goal.at.returns-in-Same c).After-judge_rua)

pub returns-in-Other : goal.returns-in-Other
unfolding record_said
returns-in-Other c = rw c.in-Other.is at (said (goal.at.returns-in-Other c).After-judge_rua)
