-- A call by numbers keeps the promise of the call itself.
use Rattle.std.specs.Prelude.{Result, Ok, Err}
use mathlib.Core.Path.{◌≡◌, refl, ◌∙◌, ap, sym}
use mathlib.Core.Bool.{Bool, true, false}
use borrow.Author.Tests.{ne_eqb}
use Rattle.octets.specs.Octets.{Octets}
use Rattle.octets.specs.Refusing.{OrRefused, ok, not_ok}
use Rattle.octets.proofs.TextLaws.{true→T}
use Rattle.asking.specs.Asking.{given}
use Rattle.book.specs.Book.{Call}
use Rattle.evaluation.specs.declared.Evaluation.{Evaluation}
use Rattle.evaluation.specs.declared.Step.{Step}
use Rattle.evaluation.specs.code.Machine.{Keeps}
use Rattle.evaluation.specs.Promises.{changing, Does, DoesNext, Changes}
use Rattle.evaluation.specs.GivenBack.{acceptance_back as acceptance_given, step_back as step_given}
use Rattle.evaluation_numbers.specs.declared.State.{State}
use Rattle.evaluation_numbers.specs.declared.GivenNumbers.{GivenNumbers}
use Rattle.evaluation_numbers.specs.declared.Called.{Called}
use Rattle.evaluation_numbers.specs.Numbers.{held_of, is_refused, accepted_numbers, ask_numbers, judged_numbers, refused_numbers, acceptance_numbers, acceptance_said, step_numbers, step_said, Settled, Opened, Accepts, Steps}
use Rattle.evaluation_numbers.proofs.SaidLaws.{says, exactly, acceptance_back, step_back}
use Rattle.evaluation_lent.specs.code.Going.{GoesOn}
use Rattle.octets.specs.declared.Refusal.{Refusal}

-- ------------------------------------------------------------------ going on

pub stood : (s : State) (after : Evaluation) (g : GivenNumbers) → g.kind ≡ 3 → GoesOn s after g (record { state = s; given = g })
unfolding is_refused
stood s after g q = record { gives = refl; stands = λ _. refl; moves = λ f. absurd (true→T {b = false} (cc (rw q at f))) }

pub moved : (s : State) (after : Evaluation) (g : GivenNumbers) (x : State) → (g.kind ≡ 3 → ⊥) → held_of x ≡ after → GoesOn s after g (record { state = x; given = g })
unfolding is_refused
moved s after g x q h = record { gives = refl; stands = λ t. absurd (true→T {b = false} (cc (ne_eqb g.kind 3 q, t))); moves = λ _. h }

-- the state after a call holds the evaluation after it, where a refused call leaves the evaluation as it was
held_on : (s : State) (after : Evaluation) (g : GivenNumbers) (r : Called) → GoesOn s after g r → (is_refused g ≡ true → after ≡ held_of s) → held_of r.state ≡ after
held_on s after g r on same = go (is_refused g) refl
  where
    go : (b : Bool) → is_refused g ≡ b → held_of r.state ≡ after
    go true q = ap held_of (on.stands q) ∙ sym (same q)
    go false q = on.moves q

settled : {A : Type 0} (number : A → GivenNumbers) (said : GivenNumbers → A) → ((x : A) → said (number x) ≡ x) → (s : State) (after : Evaluation) (x : A) (r : Called) → GoesOn s after (number x) r → Settled s r (number (said r.given))
settled number said back s after x r on = record {
  exact = exactly number said back x r.given on.gives;
  same = λ q. on.stands (rw on.gives at q);
}

-- ------------------------------------------------------------------ opening, adding, answer

said_accepted : (s : State) (after : Evaluation) (a : Result Unit Refusal) (r : Called) → GoesOn s after (acceptance_numbers a) r → acceptance_said r.given ≡ a
said_accepted s after a r on = says acceptance_numbers acceptance_said acceptance_back a r.given on.gives

unchanged : (s : State) (c : Call) (after : Evaluation) (a : Result Unit Refusal) (memory : Octets) → Does (held_of s) c after (given (acceptance_given a) memory) → is_refused (acceptance_numbers a) ≡ true → after ≡ held_of s
unfolding acceptance_numbers accepted_numbers is_refused acceptance_given changing
unchanged s c after (Ok tt) memory d q = absurd (true→T {b = false} (cc q))
unchanged s c after (Err f) memory d q = d.stands refl

pub accepts : (s : State) (c : Call) (after : Evaluation) (a : Result Unit Refusal) (memory : Octets) (r : Called) → Does (held_of s) c after (given (acceptance_given a) memory) → GoesOn s after (acceptance_numbers a) r → Accepts s c r memory
accepts s c after a memory r d on = record {
  does = rw (held_on s after (acceptance_numbers a) r on (unchanged s c after a memory d), said_accepted s after a r on) d;
  settled = settled acceptance_numbers acceptance_said acceptance_back s after a r on;
}

not_opened : (s : State) (k : OrRefused Keeps) (after : Evaluation) (a : Result Unit Refusal) → Changes (held_of s) k (record { evaluation = after; acceptance = a }) → is_refused (acceptance_numbers a) ≡ true → after ≡ held_of s
unfolding Changes acceptance_numbers accepted_numbers is_refused
not_opened s (ok k) after a h q = absurd (true→T {b = false} (cc (rw h.0 at q)))
not_opened s (not_ok f) after a h q = ap (λ x. x.evaluation) h

pub opens : (s : State) (k : OrRefused Keeps) (after : Evaluation) (a : Result Unit Refusal) (r : Called) → Changes (held_of s) k (record { evaluation = after; acceptance = a }) → GoesOn s after (acceptance_numbers a) r → Opened s k r
opens s k after a r h on = record {
  does = rw (held_on s after (acceptance_numbers a) r on (not_opened s k after a h), said_accepted s after a r on) h;
  settled = settled acceptance_numbers acceptance_said acceptance_back s after a r on;
}

-- ------------------------------------------------------------------ the next step

stayed : (s : State) (after : Evaluation) (x : Step) → DoesNext (held_of s) (record { evaluation = after; step = x }) → is_refused (step_numbers x) ≡ true → after ≡ held_of s
unfolding step_numbers ask_numbers judged_numbers is_refused step_given changing
stayed s after (Step.Ask w p) d q = absurd (true→T {b = false} (cc q))
stayed s after (Step.Verdict v) d q = absurd (true→T {b = false} (cc q))
stayed s after (Step.Refused f) d q = d.does.stands refl

pub steps : (s : State) (after : Evaluation) (x : Step) (r : Called) → DoesNext (held_of s) (record { evaluation = after; step = x }) → GoesOn s after (step_numbers x) r → Steps s r
steps s after x r d on = record {
  does = rw (held_on s after (step_numbers x) r on (stayed s after x d), says step_numbers step_said step_back x r.given on.gives) d;
  settled = settled step_numbers step_said step_back s after x r on;
}
