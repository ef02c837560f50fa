-- `waslidhaj_rows::waslidhaj_new_list` meets its contract.
use Rattle.std.proofs.Common.{rules}
use Rattle.rows_day.specs.Day.{never_cleared}
use Rattle.waslidhaj_rows.proofs.waslidhaj_new_list.Goals as goal

pub returns : goal.returns
unfolding never_cleared
returns c = search rules
