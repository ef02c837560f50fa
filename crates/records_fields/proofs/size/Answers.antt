-- `records_fields::size` meets its contract.
use borrow.Author.Rules.{rules}
use Rattle.octets.specs.Framing.{size_of}
use Rattle.records_fields.proofs.size.Goals as goal

pub returns : goal.returns
unfolding size_of
returns c = search rules
