-- `report_words::step_piece` meets its contract.
use Rattle.std.proofs.Common.{refl}
use mathlib.Core.List.{flatten}
use Rattle.octets.specs.Octets.{octets}
use Rattle.octets_pieces.specs.code.Pieces.{starts}
use Rattle.report_states.specs.Standing.{literal_text, words}
use Rattle.report_words.specs.code.Table.{texts, literals, word_nodes}
use Rattle.report_words.proofs.PieceSteps.{of_table}
use Rattle.report_words.proofs.step_piece.Goals as goal

pub returns : goal.returns
unfolding texts literals word_nodes literal_text words octets flatten starts
returns c = of_table _ _ _ _ _ _ _ refl refl c.find_piece.ensures c.step_behind.ensures
