-- `report_words::piece_begins` meets its contract.
use Rattle.octets.specs.Octets.{octets}
use Rattle.report_words.proofs.PieceSteps.{first_octets, first_begins, past_begins}
use Rattle.report_words.proofs.piece_begins.Goals as goal

pub returns-then-i-lt77 : goal.returns-then-i-lt77
unfolding first_octets octets
returns-then-i-lt77 c = let a = c.args in first_begins a.n a.x c.if-i-lt77.true

pub returns-else-i-lt77 : goal.returns-else-i-lt77
unfolding first_octets
returns-else-i-lt77 c = let a = c.args in past_begins a.n a.x c.if-i-lt77.false
