-- `rows_gather::none` meets its contract.
use borrow.Author.Rules.{rules}
use Rattle.rows_gather.specs.code.Gathered.{no_rows}
use Rattle.rows_gather.proofs.none.Goals as goal

pub returns : goal.returns
unfolding no_rows
returns c = search rules
