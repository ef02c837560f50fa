-- `domain_names::write_name` meets its contract.
use Rattle.octets.proofs.LentLaws.{refuses}
use Rattle.octets.specs.Octets.{octets}
use Rattle.domain_names.proofs.NameLaws.{name_size, writes_name}
use native.Mathlib.Omega.{arith}
use Rattle.domain_names.proofs.write_name.Goals as goal

pub returns-then-out-n : goal.returns-then-out-n
returns-then-out-n c =
    let a = c.args in
    let size = name_size a.s.now a.at.0 c.clip-from.result.0 c.clip-from.ensures in
    refuses _ a.out.now (omega arith) _ size _ c.too_short.ensures

pub returns : goal.returns
unfolding octets
returns c =
    let a = c.args in
    let from = c.clip-from in
    writes_name a.s.now a.at.0 from.result.0 from.ensures a.out.now (omega arith) c.append-next.ensures c.append_lower.ensures
