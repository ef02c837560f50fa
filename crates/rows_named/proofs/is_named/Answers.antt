-- `rows_named::is_named` meets its contract.
use Rattle.std.proofs.Common.{◌≡◌, true, false, arith}
use Rattle.std.proofs.lemmas.Grind.{common_steps}
use Rattle.octets.specs.Framing.{is_whole}
use Rattle.rows_named.specs.code.Naming.{records_after}
use Rattle.rows_named.proofs.NamingLaws.{named_test}
use Rattle.rows_named.proofs.is_named.Goals as goal

pub returns-then-not-is_whole : goal.returns-then-not-is_whole
returns-then-not-is_whole c =
    let a = c.args in
    let none : is_whole (records_after a.author a.authors.now) ≡ false = grind (arith, common_steps) in
    rw (← named_test, none)

pub returns-then-is_whole : goal.returns-then-is_whole
returns-then-is_whole c =
    let a = c.args in
    let author : is_whole (records_after a.author a.authors.now) ≡ true = grind (arith, common_steps) in
    let named : is_whole (records_after a.set a.sets.now) ≡ true = grind (arith, common_steps) in
    rw (c.is_set.ensures, c.body.ensures, c.record_at-named.ensures, ← named_test, author, named)

pub returns-else-is_whole : goal.returns-else-is_whole
returns-else-is_whole c =
    let a = c.args in
    let author : is_whole (records_after a.author a.authors.now) ≡ true = grind (arith, common_steps) in
    let named : is_whole (records_after a.set a.sets.now) ≡ false = grind (arith, common_steps) in
    rw (← named_test, author, named, c.if-is_whole.false)
