-- `publishing_write::put_tag` meets its contract: left out, or in four words.
use borrow.Author.Tests.{le-leb, lt-leb}
use Rattle.octets_pieces.proofs.PuttingLaws.{puts_nothing}
use Rattle.publishing_write.specs.code.TagWords.{tag_words}
use Rattle.publishing_write.proofs.put_tag.Goals as goal

pub returns-then-value-ge-NO_WORD : goal.returns-then-value-ge-NO_WORD
unfolding tag_words
returns-then-value-ge-NO_WORD c =
    let a = c.args in
    rw (le-leb 25 a.value c.if-value-ge-NO_WORD.true) (puts_nothing a.out.now a.at)

pub returns-else-value-ge-NO_WORD : goal.returns-else-value-ge-NO_WORD
unfolding tag_words
returns-else-value-ge-NO_WORD c =
    rw (lt-leb 25 c.args.value c.if-value-ge-NO_WORD.false) c.put_words.ensures
