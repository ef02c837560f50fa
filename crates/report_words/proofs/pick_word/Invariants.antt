-- `report_words::pick_word` meets its contract.
use Rattle.std.proofs.Common.{◌≡◌}
use Rattle.report_words.proofs.PieceSteps.{Rest}
use Rattle.report_words.proofs.pick_word.Given as goal

-- what is left of the words gives what the whole does
abbrev pub invariant-loop-k : goal.invariant-loop-k
invariant-loop-k l = Rest l.first l.count l.x 0 ≡ Rest l.first l.count l.x l.k
