-- `address_hosts::judge_rua` meets its contract: what was said so far and what is left say together what the whole says.
use borrow.Author.Rules.{rules}
use mathlib.Core.Path.{ap, refl, sym, ◌∙◌}
use Prim.Native.Nat.{◌+◌}
use native.Mathlib.Omega.{arith}
use Rattle.octets.specs.Octets.{lower}
use Rattle.octets.proofs.PartLaws.{goes_on}
use Rattle.address_hosts.specs.code.Saying.{both_said}
use Rattle.address_hosts.proofs.HostLaws.{both_assoc, first_of_more, last_of_all}
use Rattle.address_hosts.proofs.judge_rua.Goals as goal

pub loop-n-init : goal.loop-n-init
loop-n-init c = (search rules, c.find_octet-n.ensures, refl)

pub loop-n-smaller : goal.loop-n-smaller
loop-n-smaller c =
    let m = c.loop-n in
    goes_on (m.n + 1) m.t.now _ c.skip-rest.ensures (omega arith) (omega arith)

pub loop-n-preserved : goal.loop-n-preserved
loop-n-preserved c =
    let m = c.loop-n in
    let h = lower c.args.host.now in (
      omega (arith, goes_on (m.n + 1) m.t.now _ c.skip-rest.ensures (omega arith) (omega arith)),
      c.find_octet-n-in-loop-n.ensures,
      rw (c.join-said.ensures, c.judge_entry.ensures, c.skip-rest.ensures)
          (sym (both_assoc h m.said _ _)
          ∙ ap (both_said m.said) (sym (first_of_more h m.t.now m.n m.invariant.1 c.loop-n-test.true))
          ∙ m.invariant.2),
    )

pub returns : goal.returns
returns c =
    let m = c.loop-n in
    let h = lower c.args.host.now in
    c.join.ensures
    ∙ rw c.judge_entry-2.ensures
    (ap (both_said m.said) (sym (last_of_all h m.t.now m.n m.invariant.1 c.loop-n-test.false)) ∙ m.invariant.2)
