-- `waslidhaj_reader::waslidhaj_end` meets its contract.
use Rattle.report_parts.proofs.CallLaws.{ends_at}
use Rattle.waslidhaj_reader.proofs.waslidhaj_end.Goals as goal

pub returns : goal.returns
returns c = ends_at c.args.state _ _ c.end-after.ensures c.tell.ensures
