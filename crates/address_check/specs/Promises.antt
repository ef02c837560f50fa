-- What each call of an address check promises, of every check, by what it keeps (`view`) and what a call makes of that (`machine_call`). These two may
-- stay closed: of every list of such calls the claim says what it gives.
use Rattle.std.specs.Prelude.{◌≡◌, Bool, true, false}
use Rattle.octets.specs.Octets.{Octets}
use Rattle.asking.specs.Asking.{Back, ask_name, verdict, accepted, wrote, refused, Given, given}
use Rattle.address.specs.declared.Agreement.{Agreement}
use Rattle.address.specs.Checks.{CheckCall, start, next, result, answer}
use Rattle.address_check.specs.declared.Check.{Check}
use Rattle.address_check.specs.declared.CheckCalled.{CheckCalled}
use Rattle.address_check.specs.Numbers.{Tells}
use Rattle.address_check.specs.code.Machine.{machine_call}
use Rattle.address_check.specs.code.View.{view}

-- whether what a call gives back says that the check was changed: a name is now asked, or a start or an answer was accepted
unfoldable pub changes_check : Back Agreement → Bool
changes_check (ask_name n) = true
changes_check (verdict a count) = false
changes_check accepted = true
changes_check (wrote octets) = false
changes_check (refused f) = false

unfoldable pub is_start : CheckCall → Bool
is_start (start policy entry) = true
is_start next = false
is_start result = false
is_start (answer name status bytes scratch) = false

-- of the check that it gets, the call, the check that it leaves, and what it gives
pub record DoesCheck (before : Check) (c : CheckCall) (after : Check) (g : Given Agreement) : Type 0 where
  pub leaves : view after ≡ (machine_call (view before) c).0
  pub gives : g ≡ (machine_call (view before) c).1
  -- "A refusal leaves the evaluation .. unchanged"; so does an outcome
  pub stands : changes_check g.back ≡ false → after ≡ before
  -- but for a start the stored domains stay, so a walk and a place go on to mark the same name
  pub same_domains : is_start c ≡ false → (after.domains ≡ before.domains) × (after.numbers ≡ before.numbers)

-- by numbers: they tell what the call gives back
pub record Gives (before : Check) (c : CheckCall) (r : CheckCalled) (memory : Octets) : Type 0 where
  pub back : Back Agreement
  pub tells : Tells r.check r.given back
  pub does : DoesCheck before c r.check (given back memory)
