-- `rows_match::emptied` meets its contract.
use borrow.Author.Rules.{rules}
use Rattle.rows.specs.Rows.{with_count}
use Rattle.rows_match.proofs.emptied.Goals as goal

pub returns : goal.returns
unfolding with_count
returns c = search rules
