-- What a call by numbers leaves and gives: what code promises of it.
use Rattle.std.specs.Prelude.{◌≡◌, true, false}
use Rattle.evaluation.specs.declared.Evaluation.{Evaluation}
use Rattle.evaluation_numbers.specs.declared.State.{State}
use Rattle.evaluation_numbers.specs.declared.GivenNumbers.{GivenNumbers}
use Rattle.evaluation_numbers.specs.declared.Called.{Called}
use Rattle.evaluation_numbers.specs.Numbers.{held_of, is_refused}

-- of the state before the call, the evaluation after it, and what it gives
pub record GoesOn (before : State) (after : Evaluation) (g : GivenNumbers) (r : Called) : Type 0 where
  pub gives : r.given ≡ g
  pub stands : is_refused g ≡ true → r.state ≡ before
  pub moves : is_refused g ≡ false → held_of r.state ≡ after
