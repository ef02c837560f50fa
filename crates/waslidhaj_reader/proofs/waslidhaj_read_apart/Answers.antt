-- `waslidhaj_reader::waslidhaj_read_apart` meets its contract.
use Rattle.report_parts.proofs.CallLaws.{feeds}
use Rattle.waslidhaj_reader.proofs.waslidhaj_read_apart.Goals as goal

pub returns : goal.returns
returns c =
    let a = c.args in
    feeds a.state a.row.now a.part.now _ _ _ c.read_part-arg-1.given.0.1 c.read_part-progress.ensures c.tell.ensures
