-- `policy_words::put_words` meets its contract: the words of its table are computed.
use mathlib.Core.List.{flatten}
use Rattle.octets.specs.Octets.{octets}
use Rattle.octets_pieces.specs.code.Pieces.{starts}
use Rattle.policy_words.specs.code.Rows.{tag_names, record_words}
use Rattle.policy_words.proofs.TableLaws.{words_are}
use Rattle.policy_words.proofs.put_words.Goals as goal

pub returns : goal.returns
unfolding tag_names record_words octets flatten starts
returns c = rw (words_are c.args.list.now) at c.put_pieces.ensures
