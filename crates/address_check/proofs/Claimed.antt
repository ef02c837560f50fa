-- Demand 3 holds of address checks, by the numbers that their calls give.
use mathlib.Core.Path.{◌≡◌, refl, ap, sym, ◌∙◌, subst}
use mathlib.Core.List.{List, [], ◌∷◌}
use mathlib.Core.Bool.{true, false, true≢false, false≢true}
use lib.Dec.{eqb, leb}
use Rattle.octets.specs.Octets.{Octets}
use Rattle.octets.specs.Refusing.{OrRefused, ok}
use Rattle.asking.specs.Asking.{Back, ask_name, verdict, accepted, wrote, refused, Given, given}
use Rattle.address.specs.declared.Agreement.{Agreement}
use Rattle.address.specs.Checks.{CheckCall, start, Pair, check_started, CheckBook, nothing_started, start_by as book_start_by, check_call}
use Rattle.address.proofs.CheckLaws.{Kept, kept_call, kept_nothing}
use Rattle.address_check.specs.declared.Check.{Check}
use Rattle.address_check.specs.declared.CheckGiven.{CheckGiven}
use Rattle.address_check.specs.declared.CheckCalled.{CheckCalled}
use Rattle.address_check.specs.Numbers.{agreement_number, given_accepted, given_ask, given_outcome, given_refused, Tells}
use Rattle.address_check.specs.Promises.{changes_check, DoesCheck, Gives}
use Rattle.address_check.specs.Demand3.{Got, InTurn, none, call, EachAsTheBook, CheckDemand3}
use Rattle.address_check.specs.code.Machine.{start_by, machine_call}
use Rattle.address_check.specs.code.View.{view}
use Rattle.address_check.specs.code.Showing.{Shows}
use Rattle.address_check.proofs.MachineLaws.{Same, shows_started, shows_nothing, simulates}

-- what a call gives is the book's, and calls after it go on from there
module _ (b : CheckBook) (c : CheckCall) (r : CheckCalled) (memory : Octets) (cs : List CheckCall) (rs : List Got) where
  as_given : (k : Back Agreement) → Tells r.check r.given k → given k memory ≡ (check_call b c).1 → EachAsTheBook (check_call b c).0 cs rs
      → EachAsTheBook b (c ∷ cs) (record { called = r; lent = memory } ∷ rs)
  unfolding EachAsTheBook
  as_given k tells same on = (subst (λ (g : Given Agreement). Tells r.check r.given g.back) same tells, ap (λ (g : Given Agreement). g.memory) same, on)

each : {e : Check} {b : CheckBook} {cs : List CheckCall} {rs : List Got} → Shows (view e) b → Kept b → InTurn e cs rs → EachAsTheBook b cs rs
unfolding Same
each s κ none = unfold EachAsTheBook in tt
each {e} {b} s κ (call {c = c} {r = r} {memory = memory} {cs = cs} {rs = rs} g turn) =
    let x = simulates (view e) b s κ c in
    as_given b c r memory cs rs g.back g.tells (g.does.gives ∙ x.1) (each (subst (λ k. Shows k (check_call b c).0) (sym g.does.leaves) x.0) (kept_call b κ c) turn)

-- an accepted start leaves a check that shows the book's, whatever it was before
from_a_start : (e : Check) (policy entry : Octets) (c : Pair) → check_started policy entry ≡ ok c
    → (cs : List CheckCall) (rs : List Got) → InTurn e (start policy entry ∷ cs) rs → EachAsTheBook nothing_started (start policy entry ∷ cs) rs
unfolding machine_call start_by check_call book_start_by
from_a_start e policy entry c q cs rs (call {r = r} {memory = memory} {rs = after} g turn) =
    let begun : CheckBook = (check_call nothing_started (start policy entry)).0 in
    let shows : Shows (start_by (view e) (check_started policy entry)).0 (book_start_by nothing_started (check_started policy entry)).0 =
    subst (λ (o : OrRefused Pair). Shows (start_by (view e) o).0 (book_start_by nothing_started o).0) (sym q) (shows_started policy entry c q) in
    let same : (start_by (view e) (check_started policy entry)).1 ≡ (book_start_by nothing_started (check_started policy entry)).1 =
    subst (λ (o : OrRefused Pair). (start_by (view e) o).1 ≡ (book_start_by nothing_started o).1) (sym q) refl in
    as_given nothing_started (start policy entry) r memory cs after g.back g.tells (g.does.gives ∙ same)
    (each (subst (λ k. Shows k begun) (sym g.does.leaves) shows) (kept_call nothing_started kept_nothing (start policy entry)) turn)

stays : (e : Check) (c : CheckCall) (r : CheckCalled) (memory : Octets) → Gives e c r memory → leb 2 r.given.kind ≡ true → r.check ≡ e
unfolding Tells changes_check given_accepted given_ask
stays e c r memory g h = go g.back g.tells g.does
  where
    go : (k : Back Agreement) → Tells r.check r.given k → DoesCheck e c r.check (given k memory) → r.check ≡ e
    go accepted t d = absurd (false≢true (ap (λ (n : CheckGiven). leb 2 n.kind) (sym t) ∙ h))
    go (ask_name n) t d = absurd (false≢true (ap (λ (n : CheckGiven). leb 2 n.kind) (sym t.0) ∙ h))
    go (verdict a n) t d = d.stands refl
    go (wrote n) t d = absurd t
    go (refused f) t d = d.stands refl

no_outcome : (e : Check) (c : CheckCall) (r : CheckCalled) (memory : Octets) → Gives e c r memory → eqb r.given.kind 2 ≡ false
    → r.given.agreement ≡ agreement_number Agreement.NotKnown
unfolding Tells agreement_number given_accepted given_ask given_outcome given_refused
no_outcome e c r memory g h = go g.back g.tells
  where
    go : (k : Back Agreement) → Tells r.check r.given k → r.given.agreement ≡ 0
    go accepted t = ap (λ (n : CheckGiven). n.agreement) t
    go (ask_name n) t = ap (λ (n : CheckGiven). n.agreement) t.0
    go (verdict a n) t = absurd (true≢false (ap (λ (n : CheckGiven). eqb n.kind 2) (sym t) ∙ h))
    go (wrote n) t = absurd t
    go (refused f) t = ap (λ (n : CheckGiven). n.agreement) t

pub check_demand_3 : CheckDemand3
check_demand_3 = record {
  after_a_start = from_a_start;
  before_a_start = λ e z cs rs turn. each (shows_nothing e z) kept_nothing turn;
  stands = stays;
  not_known_else = no_outcome;
}
