-- `policy_words::read_testing` meets its contract: its entries beside the words are computed.
use mathlib.Core.Bool.{false}
use mathlib.Core.Path.{refl}
use Rattle.octets.specs.Octets.{octets, between, lower_octet, lower}
use Rattle.policy.specs.Records.{testing_words}
use Rattle.policy_words.specs.code.Rows.{tag_names, record_words, words_from}
use Rattle.policy_words.proofs.TableLaws.{entry_word}
use Rattle.policy_words.proofs.read_testing.Goals as goal

pub returns : goal.returns
unfolding octets lower lower_octet between tag_names record_words words_from testing_words
returns c = entry_word _ 19 21 _ c.find_word.ensures.place testing_words false refl _
