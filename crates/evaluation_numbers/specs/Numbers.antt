-- What the numbers that cross to programs in other languages stand for. Each is read as the evaluation and the answers of the calls, so that a call
-- by numbers has the promise of the call itself.
use Rattle.std.specs.Prelude.{◌≡◌, List, [], ◌∷◌, Bool, true, false, ℕ, eqb, get_or, if◌then◌else◌, Ok, Err, Result as OrErr}
use Rattle.octets.specs.Octets.{Octets, is_set}
use Rattle.octets.specs.Refusing.{OrRefused, refusal}
use Rattle.octets.specs.declared.Refusal.{Refusal}
use Rattle.domain.specs.declared.Octet.{Octet}
use Rattle.policy.specs.declared.Policy.{Policy}
use Rattle.verdict.specs.declared.Result.{Result}
use Rattle.verdict.specs.declared.AppliedPolicy.{AppliedPolicy}
use Rattle.verdict.specs.declared.Disposition.{Disposition}
use Rattle.verdict_cursor.specs.declared.PlaceKind.{PlaceKind}
use Rattle.asking.specs.Asking.{given}
use Rattle.book.specs.Book.{Call, field, back_of}
use Rattle.rows.specs.Rows.{result_number, disposition_number}
use Rattle.evaluation.specs.declared.Evaluation.{Evaluation}
use Rattle.evaluation.specs.declared.Verdict.{Verdict}
use Rattle.evaluation.specs.declared.Step.{Step}
use Rattle.evaluation.specs.code.Machine.{Keeps}
use Rattle.evaluation.specs.Promises.{Does, DoesNext, DoesResult, Changes}
use Rattle.evaluation.specs.GivenBack.{acceptance_back}
use Rattle.evaluation_open.specs.code.Opening.{existence_in}
use Rattle.evaluation_finding.specs.declared.Found.{Found}
use Rattle.evaluation_finding.specs.code.Entering.{Finds}
use Rattle.evaluation_numbers.specs.declared.State.{State}
use Rattle.evaluation_numbers.specs.declared.VerdictNumbers.{VerdictNumbers}
use Rattle.evaluation_numbers.specs.declared.GivenNumbers.{GivenNumbers}
use Rattle.evaluation_numbers.specs.declared.Called.{Called}
use Rattle.evaluation_numbers.specs.declared.FoundNumbers.{FoundNumbers}

-- ------------------------------------------------------------------ the evaluation

abbrev pub place_kinds : List PlaceKind
place_kinds =
    PlaceKind.OwnName ∷ PlaceKind.Author ∷ PlaceKind.Completing ∷ PlaceKind.Identifier ∷ PlaceKind.NotKnown ∷ PlaceKind.NoRecord ∷ PlaceKind.NotUsable ∷ []

unfoldable pub place_kind_in : ℕ → PlaceKind
place_kind_in n = get_or place_kinds n PlaceKind.Judged

-- every state holds one
unfoldable pub held_of : State → Evaluation
held_of s = record {
  started = is_set s.started;
  handed = is_set s.handed;
  asked = is_set s.asked;
  domains = s.domains;
  numbers = s.numbers;
  terms = record { existence = existence_in s.existence; support = is_set s.support; identifiers = s.identifiers };
  kept = s.kept;
  count = s.count;
  stored = s.stored;
  position = record {
    kind = place_kind_in s.kind;
    ruling = s.ruling;
    walk = s.walk;
    stop = record { found = s.found; begin = s.begin; settings = s.settings; target = s.target; more = s.more };
  };
}

-- ------------------------------------------------------------------ a verdict

unfoldable pub result_said : ℕ → Result
result_said n = get_or (Result.None ∷ Result.Pass ∷ Result.Fail ∷ Result.Temperror ∷ []) n Result.Permerror

unfoldable pub policy_said : ℕ → AppliedPolicy
policy_said n =
    get_or (AppliedPolicy.Known Policy.None ∷ AppliedPolicy.Known Policy.Quarantine ∷ AppliedPolicy.Known Policy.Reject ∷ []) n AppliedPolicy.Unknown

unfoldable pub disposition_said : ℕ → Disposition
disposition_said n =
    get_or (Disposition.Apply Policy.None ∷ Disposition.Apply Policy.Quarantine ∷ Disposition.Apply Policy.Reject ∷ []) n Disposition.Defer

unfoldable pub verdict_said : VerdictNumbers → Verdict
verdict_said v = record {
  judgement = record {
    result = result_said v.result;
    begin = v.begin;
    policy = policy_said v.policy;
    disposition = disposition_said v.disposition;
    alignments = v.alignments;
  };
  count = v.count;
}

-- a policy as a disposition that applies it
unfoldable pub policy_number : AppliedPolicy → ℕ
policy_number (AppliedPolicy.Known p) = disposition_number (Disposition.Apply p)
policy_number AppliedPolicy.Unknown = 3

unfoldable pub verdict_numbers : Verdict → VerdictNumbers
verdict_numbers v = record {
  result = result_number v.judgement.result;
  policy = policy_number v.judgement.policy;
  disposition = disposition_number v.judgement.disposition;
  begin = v.judgement.begin;
  alignments = v.judgement.alignments;
  count = v.count;
}

-- ------------------------------------------------------------------ what a call gives; what its kind does not have is 0, but for a verdict

-- without one its numbers read temperror, unknown, defer: none would let a message in
abbrev no_verdict : VerdictNumbers
no_verdict = record { result = 3; policy = 3; disposition = 3; begin = record { 0 = 0 }; alignments = 0; count = 0 }

unfoldable pub accepted_numbers : (length : ℕ) → GivenNumbers
accepted_numbers n = record { kind = 0; walk = 0; place = record { 0 = 0 }; length = n; verdict = no_verdict; refusal = refusal 0 0 }

unfoldable pub ask_numbers : (walk : ℕ) → Octet → GivenNumbers
ask_numbers w p = record { kind = 1; walk = w; place = p; length = 0; verdict = no_verdict; refusal = refusal 0 0 }

unfoldable pub judged_numbers : Verdict → GivenNumbers
judged_numbers v = record { kind = 2; walk = 0; place = record { 0 = 0 }; length = 0; verdict = verdict_numbers v; refusal = refusal 0 0 }

unfoldable pub refused_numbers : Refusal → GivenNumbers
refused_numbers f = record { kind = 3; walk = 0; place = record { 0 = 0 }; length = 0; verdict = no_verdict; refusal = f }

unfoldable pub is_refused : GivenNumbers → Bool
is_refused g = eqb g.kind 3

-- an opening, an adding, an answer
unfoldable pub acceptance_numbers : OrErr Unit Refusal → GivenNumbers
acceptance_numbers (Ok tt) = accepted_numbers 0
acceptance_numbers (Err f) = refused_numbers f

unfoldable pub acceptance_said : GivenNumbers → OrErr Unit Refusal
acceptance_said g = if eqb g.kind 0 then (Ok tt) else Err g.refusal

-- the next step
unfoldable pub step_numbers : Step → GivenNumbers
step_numbers (Step.Ask w p) = ask_numbers w p
step_numbers (Step.Verdict v) = judged_numbers v
step_numbers (Step.Refused f) = refused_numbers f

unfoldable pub step_said : GivenNumbers → Step
step_said g =
    if eqb g.kind 1 then Step.Ask g.walk g.place
    else if eqb g.kind 2 then Step.Verdict (verdict_said g.verdict)
    else Step.Refused g.refusal

-- the result
unfoldable pub resulting_numbers : OrErr Verdict Refusal → GivenNumbers
resulting_numbers (Ok v) = judged_numbers v
resulting_numbers (Err f) = refused_numbers f

unfoldable pub resulting_said : GivenNumbers → OrErr Verdict Refusal
resulting_said g = if eqb g.kind 2 then Ok (verdict_said g.verdict) else Err g.refusal

-- the field
unfoldable pub field_numbers : OrErr ℕ Refusal → GivenNumbers
field_numbers (Ok n) = accepted_numbers n
field_numbers (Err f) = refused_numbers f

unfoldable pub field_said : GivenNumbers → OrErr ℕ Refusal
field_said g = if eqb g.kind 0 then Ok g.length else Err g.refusal

-- what is entered in a day's rows
unfoldable pub found_numbers : OrErr Found Refusal → FoundNumbers
found_numbers (Ok f) = record { kind = 2; finding = f.finding; begin = f.begin; refusal = refusal 0 0 }
found_numbers (Err f) = record {
  kind = 3;
  finding = record { result = 0; disposition = 0; dkim = 0; spf = 0 };
  begin = record { 0 = 0 };
  refusal = f;
}

unfoldable pub found_said : FoundNumbers → OrErr Found Refusal
found_said f = if eqb f.kind 2 then Ok (record { finding = f.finding; begin = f.begin }) else Err f.refusal

-- ------------------------------------------------------------------ what the calls promise: each the promise of the call itself, of what is said

-- and of the numbers, that they are those of what is said and no others; a refused call gives back the very same state
pub record Settled (before : State) (r : Called) (g : GivenNumbers) : Type 0 where
  pub exact : r.given ≡ g
  pub same : is_refused r.given ≡ true → r.state ≡ before

pub record Opened (before : State) (k : OrRefused Keeps) (r : Called) : Type 0 where
  pub does : Changes (held_of before) k (record { evaluation = held_of r.state; acceptance = acceptance_said r.given })
  pub settled : Settled before r (acceptance_numbers (acceptance_said r.given))

-- adding and answer
pub record Accepts (before : State) (c : Call) (r : Called) (memory : Octets) : Type 0 where
  pub does : Does (held_of before) c (held_of r.state) (given (acceptance_back (acceptance_said r.given)) memory)
  pub settled : Settled before r (acceptance_numbers (acceptance_said r.given))

pub record Steps (before : State) (r : Called) : Type 0 where
  pub does : DoesNext (held_of before) (record { evaluation = held_of r.state; step = step_said r.given })
  pub settled : Settled before r (step_numbers (step_said r.given))

pub record Results (s : State) (g : GivenNumbers) : Type 0 where
  pub does : DoesResult (held_of s) (resulting_said g)
  pub exact : g ≡ resulting_numbers (resulting_said g)

pub record Fields (s : State) (before : Octets) (g : GivenNumbers) (after : Octets) : Type 0 where
  pub does : Does (held_of s) (field before) (held_of s) (given (back_of (field_said g)) after)
  pub exact : g ≡ field_numbers (field_said g)

pub record Enters (s : State) (f : FoundNumbers) : Type 0 where
  pub does : Finds (held_of s) (found_said f)
  pub exact : f ≡ found_numbers (found_said f)
