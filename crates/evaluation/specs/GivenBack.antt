-- What the calls give back, read: a name and a verdict by the numbers that mark them in an evaluation. "Where an answer is an enum, a definition gives
-- this paper's number and values for each of its cases. The promises use that definition".
use Rattle.std.specs.Prelude.{ℕ, drop, Result, Ok, Err}
use Rattle.lookup.specs.Lookup.{Name}
use Rattle.domain.specs.declared.Octet.{Octet}
use Rattle.domain.specs.Domain.{asked_name}
use Rattle.alignment_stored.specs.code.Stored.{slot}
use Rattle.asking.specs.Asking.{Back, ask_name, verdict, accepted, refused}
use Rattle.verdict.specs.Message.{Message}
use Rattle.verdict.specs.Verdict.{Verdict}
use Rattle.verdict_judgement.specs.Reading.{verdict_in}
use Rattle.verdict_judgement.specs.code.Judging.{stored_message}
use Rattle.evaluation.specs.declared.Evaluation.{Evaluation}
use Rattle.evaluation.specs.declared.Step.{Step}
use Rattle.octets.specs.declared.Refusal.{Refusal}
use Rattle.evaluation.specs.declared.Verdict.{Verdict as Counted}

-- the message that an evaluation has stored
unfoldable pub message_now : Evaluation → Message
message_now e = stored_message e.domains e.numbers e.terms

-- "A name .. given by walk and place is compared as the one these mark": the target that begins at that place of the walk's domain
unfoldable pub marked : Evaluation → (walk : ℕ) → (place : Octet) → Name
marked e walk place = asked_name (drop place.0 (slot e.domains e.numbers walk))

-- "The next step is one of three: ask this name, give the verdict, or a refusal with its number and place"
unfoldable pub step_back : Evaluation → Step → Back Verdict
step_back e (Step.Ask walk place) = ask_name (marked e walk place)
step_back e (Step.Verdict v) = verdict (verdict_in (message_now e) v.judgement) v.count
step_back e (Step.Refused f) = refused f

-- "Result: 7 while a name lacks an answer, else the verdict"
unfoldable pub resulting_back : Evaluation → Result Counted Refusal → Back Verdict
resulting_back e (Ok v) = verdict (verdict_in (message_now e) v.judgement) v.count
resulting_back e (Err f) = refused f

-- an adding, or an answer
unfoldable pub acceptance_back : Result Unit Refusal → Back Verdict
acceptance_back (Ok tt) = accepted
acceptance_back (Err f) = refused f
