-- `address_texts::take_confirming` meets its contract.
use mathlib.Core.Path.{refl}
use Rattle.octets.specs.Octets.{lower}
use Rattle.txt.specs.Answers.{answer_of}
use Rattle.address.specs.Address.{confirmation}
use Rattle.address_texts.proofs.TextLaws.{refuses, says_it, says_records}
use Rattle.address_texts.proofs.take_confirming.Goals as goal

pub returns-in-Err : goal.returns-in-Err
returns-in-Err c =
    let a = c.args in
    refuses (lower a.host.now) _ c.take_answer.ensures _ c.in-Err.is

pub returns-in-Records : goal.returns-in-Records
unfolding answer_of
returns-in-Records c =
    let a = c.args in
    let h = lower a.host.now in
    let k = rw c.in-Records.is at c.take_answer.ensures in
    rw c.in-Records.is
    (says_it h _ k _ c.in-Ok.is (says_records h a.bytes.now k _ c.in-Ok.is c.judge_texts.ensures))

pub returns-in-NoRecords : goal.returns-in-NoRecords
unfolding answer_of confirmation
returns-in-NoRecords c =
    let a = c.args in
    let k = rw c.in-NoRecords.is at c.take_answer.ensures in
    rw c.in-NoRecords.is (says_it (lower a.host.now) _ k _ c.in-Ok.is refl)

pub returns-in-Error : goal.returns-in-Error
unfolding answer_of confirmation
returns-in-Error c =
    let a = c.args in
    let k = rw c.in-Error.is at c.take_answer.ensures in
    rw c.in-Error.is (says_it (lower a.host.now) _ k _ c.in-Ok.is refl)
