-- `report_head::put_published` meets its contract.
use Rattle.octets.specs.Octets.{octets, lower}
use mathlib.Core.List.{flatten}
use Rattle.report_head.proofs.HeadLaws.{published_puts}
use Rattle.report_head.proofs.put_published.Goals as goal

pub returns : goal.returns
unfolding octets flatten
returns c =
    let a = c.args in
    rw (← c.published-shown.ensures)
    (published_puts (lower a.domain.now) c.published-shown.result a.out.now a.at c.put-first.ensures c.put_lower_then-second.ensures
    (rw c.setting_word.ensures at c.put_then-third.ensures) (rw c.setting_word-2.ensures at c.put_optional-fourth.ensures) (rw c.setting_word-3.ensures at c.put_optional-fifth.ensures)
    (rw (c.mode_word.ensures, c.mode_word-2.ensures, c.testing_word.ensures) at c.put_all.ensures))
