-- `waslidhaj_reader::waslidhaj_new_reader` meets its contract.
use Rattle.report_parts.proofs.CallLaws.{is_new}
use Rattle.waslidhaj_reader.proofs.waslidhaj_new_reader.Goals as goal

pub returns : goal.returns
returns c = is_new _ c.begin.ensures
