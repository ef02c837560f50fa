-- What is read of an evaluation by numbers keeps the promise of the call itself.
use Rattle.std.specs.Prelude.{Result, ℕ}
use mathlib.Core.Path.{◌≡◌}
use Rattle.octets.specs.Octets.{Octets}
use Rattle.asking.specs.Asking.{given}
use Rattle.book.specs.Book.{field, back_of}
use Rattle.evaluation.specs.Promises.{Does, DoesResult}
use Rattle.evaluation_finding.specs.declared.Found.{Found}
use Rattle.evaluation_finding.specs.code.Entering.{Finds}
use Rattle.evaluation_numbers.specs.declared.State.{State}
use Rattle.evaluation_numbers.specs.declared.GivenNumbers.{GivenNumbers}
use Rattle.evaluation_numbers.specs.declared.FoundNumbers.{FoundNumbers}
use Rattle.evaluation_numbers.specs.Numbers.{held_of, resulting_numbers, resulting_said, field_numbers, field_said, found_numbers, found_said, Results, Fields, Enters}
use Rattle.evaluation_numbers.proofs.SaidLaws.{says, exactly, resulting_back, field_back, found_back}
use Rattle.octets.specs.declared.Refusal.{Refusal}
use Rattle.evaluation.specs.declared.Verdict.{Verdict}

pub results : (s : State) (x : Result Verdict Refusal) (g : GivenNumbers) → DoesResult (held_of s) x → g ≡ resulting_numbers x → Results s g
results s x g d q = record {
  does = rw (says resulting_numbers resulting_said resulting_back x g q) d;
  exact = exactly resulting_numbers resulting_said resulting_back x g q;
}

pub fields : (s : State) (before : Octets) (w : Result ℕ Refusal) (g : GivenNumbers) (after : Octets) → Does (held_of s) (field before) (held_of s) (given (back_of w) after) → g ≡ field_numbers w → Fields s before g after
fields s before w g after d q = record {
  does = rw (says field_numbers field_said field_back w g q) d;
  exact = exactly field_numbers field_said field_back w g q;
}

pub enters : (s : State) (x : Result Found Refusal) (f : FoundNumbers) → Finds (held_of s) x → f ≡ found_numbers x → Enters s f
enters s x f d q = record {
  does = rw (says found_numbers found_said found_back x f q) d;
  exact = exactly found_numbers found_said found_back x f q;
}
