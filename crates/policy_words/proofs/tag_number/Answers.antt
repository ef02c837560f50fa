-- `policy_words::tag_number` meets its contract: the words of its table are the tag names, computed.
use Rattle.octets.specs.Octets.{octets, between, lower_octet, lower}
use Rattle.policy_words.specs.code.Rows.{tag_names, tag_number, record_words, words_from, word_place}
use Rattle.policy_words.proofs.tag_number.Goals as goal

pub returns : goal.returns
unfolding tag_number tag_names record_words words_from word_place octets lower lower_octet between
returns c = c.find_word.ensures.place
