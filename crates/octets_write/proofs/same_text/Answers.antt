-- `octets_write::same_text` meets its contract.
use Rattle.octets.proofs.TextLaws.{same_text_test}
use Rattle.octets_write.proofs.same_text.Goals as goal

pub returns : goal.returns
returns c = same_text_test _ _ _ c.eq_ignore_ascii_case.ensures.test
