-- `publishing_write::put_record` meets its contract: its parts, one after the other.
use mathlib.Core.List.{[], ◌∷◌}
use Rattle.octets_pieces.proofs.PuttingLaws.{puts_both}
use Rattle.policy_words.specs.code.Rows.{words_of}
use Rattle.publishing_write.specs.code.TagWords.{value_words, tags_from}
use Rattle.publishing_write.proofs.TagLaws.{record_parts}
use Rattle.publishing_write.proofs.put_record.Goals as goal

pub returns : goal.returns
returns c =
    let a = c.args in
    rw (record_parts a.s a.rua.now) at
    (puts_both _ _ a.out.now 0 (puts_both (words_of (22 ∷ [])) (tags_from 0 (value_words a.s)) a.out.now 0 c.put_words-first.ensures (rw c.value_words-values.ensures at c.put_tags-last.ensures)) c.put_rua.ensures)
