-- `verdict_author::store` meets its contract.
use Rattle.verdict_author.proofs.AuthorLaws.{stores_author}
use Rattle.verdict_author.proofs.store.Goals as goal

pub returns : goal.returns
returns c =
    let a = c.args in
    stores_author a.domains.now a.numbers.now _ _ a.w c.stored_number.result c.put_number.ensures (rw c.slot-author.ensures at c.stored_number.ensures)
