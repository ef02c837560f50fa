-- `address_names::write_confirming` meets its contract.
use mathlib.Core.Path.{◌≡◌, ap, sym}
use native.Mathlib.Omega.{arith}
use Prim.Native.Nat.{◌≤◌, ◌+◌}
use lib.ListN.{length}
use Rattle.octets.specs.Octets.{octets}
use Rattle.octets.proofs.LentLaws.{refuses}
use Rattle.alignment_stored.specs.code.Stored.{slot}
use Rattle.alignment_stored.proofs.StoredLaws.{slot_size}
use Rattle.address.specs.Address.{confirming_name}
use Rattle.address.proofs.NameLaws.{long_name}
use Rattle.address_names.proofs.NameLaws.{writes_confirming}
use Rattle.address_names.proofs.write_confirming.Goals as goal
use Rattle.address_names.proofs.write_confirming.Goals.{After-slot-host}

-- the domains are short
sizes : (v : After-slot-host) → (length v.slot-policy.result.now ≤ 253) × (length v.slot-host.result.now ≤ 253)
sizes v =
    let a = v.args in (
      rw v.slot-policy.ensures (slot_size a.domains.now a.numbers.now 0),
      rw v.slot-host.ensures (slot_size a.domains.now a.numbers.now 1),
    )

pub overflow_add-n-2 : goal.overflow_add-n-2
overflow_add-n-2 c = omega (arith, sizes (goal.at.overflow_add-n-2 c).After-slot-host)

pub returns-then-out-n : goal.returns-then-out-n
returns-then-out-n c =
    let a = c.args in
    let policy = slot a.domains.now a.numbers.now 0 in
    let host = slot a.domains.now a.numbers.now 1 in
    let size : length c.slot-policy.result.now + 16 + length c.slot-host.result.now ≡ length (confirming_name policy host) =
    rw (c.slot-policy.ensures, c.slot-host.ensures) (sym (long_name policy host)) in
    refuses _ a.out.now (omega (arith, size)) _ size _ c.too_short.ensures

pub returns : goal.returns
unfolding octets
returns c =
    let a = c.args in
    writes_confirming (slot a.domains.now a.numbers.now 0) (slot a.domains.now a.numbers.now 1) a.out.now
    (omega (arith, ap length c.slot-policy.ensures, ap length c.slot-host.ensures))
    (rw c.slot-policy.ensures at c.append-first.ensures)
    c.append-second.ensures (rw c.slot-host.ensures at c.append.ensures)
