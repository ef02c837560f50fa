-- `sheet_print::append_ask` meets its contract.
use Rattle.sheet_print.proofs.PrintingLaws.{ask_puts}
use Rattle.octets.specs.Octets.{octets}
use Rattle.sheet_print.proofs.append_ask.Goals as goal

pub returns : goal.returns
unfolding octets
returns c =
    let a = c.args in
    ask_puts a.out.now a.at a.name.now c.put-begin.ensures c.put_then.ensures
