-- `walk_step::reach_from` meets its contract. The loop's invariant: the whole goes as far as what is left, after this last record.
use mathlib.Core.Path.{◌≡◌}
use Rattle.walk_known.specs.code.Kept.{kept_answers}
use Rattle.walk_progress.specs.code.Summary.{found_in}
use Rattle.walk_step.specs.code.Steps.{reach_placed}
use Rattle.walk_step.proofs.reach_from.Given as goal

abbrev pub invariant-loop-more : goal.invariant-loop-more
invariant-loop-more l = let β = kept_answers l.domains l.count l.kept in
    reach_placed β l.d l.starts.begins (found_in l.d l.initial.last) l.initial.more ≡ reach_placed β l.d l.starts.begins (found_in l.d l.last) l.more
