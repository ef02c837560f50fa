-- `policy_words::read_mode` meets its contract: its entries beside the words are computed.
use mathlib.Core.Path.{refl}
use Rattle.octets.specs.Octets.{octets, between, lower_octet, lower}
use Rattle.policy.specs.declared.Mode.{Mode}
use Rattle.policy.specs.Records.{mode_words}
use Rattle.policy_words.specs.code.Rows.{tag_names, record_words, words_from}
use Rattle.policy_words.proofs.TableLaws.{entry_word}
use Rattle.policy_words.proofs.read_mode.Goals as goal

pub returns : goal.returns
unfolding octets lower lower_octet between tag_names record_words words_from mode_words
returns c = entry_word _ 17 19 _ c.find_word.ensures.place mode_words Mode.Relaxed refl _
