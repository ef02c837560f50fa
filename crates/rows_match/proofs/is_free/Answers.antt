-- `rows_match::is_free` meets its contract.
use borrow.Author.Rules.{rules}
use Rattle.rows.specs.Rows.{is_free}
use Rattle.rows_match.proofs.is_free.Goals as goal

pub returns : goal.returns
unfolding is_free
returns c = search rules
