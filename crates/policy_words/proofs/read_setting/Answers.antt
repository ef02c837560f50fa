-- `policy_words::read_setting` meets its contract: its entries beside the words are computed.
use mathlib.Core.Path.{refl}
use Rattle.octets.specs.Octets.{octets, between, lower_octet, lower}
use Rattle.policy.specs.declared.Setting.{Setting}
use Rattle.policy.specs.Records.{policy_words}
use Rattle.policy_words.specs.code.Rows.{tag_names, record_words, words_from}
use Rattle.policy_words.proofs.TableLaws.{entry_word}
use Rattle.policy_words.proofs.read_setting.Goals as goal

pub returns : goal.returns
unfolding octets lower lower_octet between tag_names record_words words_from policy_words
returns c = entry_word _ 14 17 _ c.find_word.ensures.place policy_words Setting.Invalid refl _
