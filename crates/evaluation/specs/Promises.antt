-- What each call of an evaluation promises, of every evaluation, by what it keeps (`view`) and what a call makes of that (`machine_call`). These two may
-- stay closed: of every list of such calls the claims say what it gives.
use Rattle.std.specs.Prelude.{◌≡◌, [], Bool, true, false, Result, Ok, Err}
use Rattle.octets.specs.Refusing.{OrRefused, ok, not_ok}
use Rattle.asking.specs.Asking.{Back, ask_name, verdict, accepted, wrote, refused, Given, given}
use Rattle.verdict.specs.Message.{Message}
use Rattle.verdict.specs.Verdict.{Verdict}
use Rattle.verdict_judgement.specs.Reading.{verdict_in}
use Rattle.verdict_judgement.specs.code.Judging.{Fixed}
use Rattle.book.specs.Book.{Call, add, next, answer, result, field}
use Rattle.evaluation.specs.declared.Evaluation.{Evaluation}
use Rattle.evaluation.specs.declared.Step.{Step}
use Rattle.evaluation.specs.declared.Stepped.{Stepped}
use Rattle.evaluation.specs.declared.Changed.{Changed}
use Rattle.evaluation.specs.GivenBack.{message_now, step_back, resulting_back}
use Rattle.evaluation.specs.code.Machine.{Keeps, keeps_opened, judged, machine_call}
use Rattle.evaluation.specs.code.View.{view, Numbered}
use Rattle.octets.specs.declared.Refusal.{Refusal}
use Rattle.evaluation.specs.declared.Verdict.{Verdict as Counted}

-- ------------------------------------------------------------------ what a call promises

-- whether what a call gives back says that the evaluation was changed: a name is now asked, or an identifier or an answer was kept
unfoldable pub changing : Back Verdict → Bool
changing (ask_name n) = true
changing (verdict w count) = false
changing accepted = true
changing (wrote octets) = false
changing (refused f) = false

unfoldable pub is_adding : Call → Bool
is_adding (add g) = true
is_adding next = false
is_adding (answer name status bytes scratch) = false
is_adding result = false
is_adding (field output) = false

-- of the evaluation that it gets, the call, the evaluation that it leaves, and what it gives
pub record Does (before : Evaluation) (c : Call) (after : Evaluation) (g : Given Verdict) : Type 0 where
  pub leaves : view after ≡ (machine_call (view before) c).0
  pub gives : g ≡ (machine_call (view before) c).1
  -- "A refusal leaves the evaluation .. unchanged"; so does a verdict, and a field
  pub stands : changing g.back ≡ false → after ≡ before
  -- but for an adding the stored domains stay, so a walk and a place go on to mark the same name
  pub same_domains : is_adding c ≡ false → (after.domains ≡ before.domains) × (after.numbers ≡ before.numbers)
  -- where the numbers stored were those of what is kept, they are
  pub numbers : Numbered before → Numbered after

-- ------------------------------------------------------------------ the code's answers, read

-- the message and its verdict, or a refusal
unfoldable pub resulting_in : Evaluation → Result Counted Refusal → OrRefused (Message × Verdict)
resulting_in e (Ok v) = ok (message_now e, verdict_in (message_now e) v.judgement)
resulting_in e (Err f) = not_ok f

-- a verdict that is given back has the numbers of the verdict that it says, and no others
unfoldable pub StepFixed : Message → Step → Type 0
StepFixed m (Step.Ask walk place) = Unit
StepFixed m (Step.Verdict v) = Fixed m v.judgement
StepFixed m (Step.Refused f) = Unit

unfoldable pub ResultFixed : Message → Result Counted Refusal → Type 0
ResultFixed m (Ok v) = Fixed m v.judgement
ResultFixed m (Err f) = Unit

-- the promise of the next step; a name that it gives is read in the evaluation that it gives back
pub record DoesNext (before : Evaluation) (r : Stepped) : Type 0 where
  pub does : Does before next r.evaluation (given (step_back r.evaluation r.step) [])
  pub fixed : StepFixed (message_now before) r.step

-- and of the result
pub record DoesResult (before : Evaluation) (r : Result Counted Refusal) : Type 0 where
  pub does : Does before result before (given (resulting_back before r) [])
  pub says : resulting_in before r ≡ judged (view before)
  pub fixed : ResultFixed (message_now before) r

-- ------------------------------------------------------------------ opening

-- the promise of an opening: accepted, the evaluation keeps the message and nothing more, and nothing is stored; refused, it gives back the very same
-- evaluation
unfoldable pub Changes : Evaluation → OrRefused Keeps → Changed → Type 0
Changes e (ok k) r = (r.acceptance ≡ (Ok tt)) × (view r.evaluation ≡ k) × Numbered r.evaluation
Changes e (not_ok f) r = r ≡ record { evaluation = e; acceptance = Err f }

unfoldable pub opened_view : OrRefused Message → OrRefused Keeps
opened_view (ok m) = ok (keeps_opened m)
opened_view (not_ok f) = not_ok f
