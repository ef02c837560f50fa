-- What the numbers stand for that the calls of an address check give. "Where an answer is an enum, a definition gives this paper's number and values
-- for each of its cases. The promises use that definition".
use Rattle.std.specs.Prelude.{◌≡◌, ℕ, zero, suc, drop}
use Rattle.octets.specs.Refusing.{refusal}
use Rattle.octets.specs.declared.Refusal.{Refusal}
use Rattle.lookup.specs.Lookup.{Name}
use Rattle.domain.specs.declared.Octet.{Octet}
use Rattle.domain.specs.Domain.{asked_name}
use Rattle.policy.specs.declared.Bounds.{Bounds}
use Rattle.alignment_stored.specs.code.Stored.{slot}
use Rattle.asking.specs.Asking.{Back, ask_name, verdict, accepted, wrote, refused}
use Rattle.address.specs.declared.Agreement.{Agreement}
use Rattle.address.specs.Address.{confirming_name}
use Rattle.address.specs.Checks.{Pair}
use Rattle.address_check.specs.declared.Check.{Check}
use Rattle.address_check.specs.declared.CheckGiven.{CheckGiven}

-- ------------------------------------------------------------------ names

-- the policy domain and the host that a check has stored; how they lie in its octets may stay closed
unfoldable pub pair_now : Check → Pair
pair_now e = record { policy = slot e.domains e.numbers 0; host = slot e.domains e.numbers 1 }

-- "A name .. given by walk and place is compared as the one these mark": the target that begins at that place of the policy domain or of the host;
-- past these two walks, the confirming name
unfoldable pub mark_in : Pair → (walk : ℕ) → (place : Octet) → Name
mark_in c zero place = asked_name (drop place.0 c.policy)
mark_in c (suc zero) place = asked_name (drop place.0 c.host)
mark_in c (suc (suc n)) place = confirming_name c.policy c.host

unfoldable pub check_name : Check → (walk : ℕ) → (place : Octet) → Name
check_name e walk place = mark_in (pair_now e) walk place

-- ------------------------------------------------------------------ what a call gives; what its kind does not have is 0

-- not known is 0, so that what says nothing reads so
unfoldable pub agreement_number : Agreement → ℕ
agreement_number Agreement.NotKnown = 0
agreement_number Agreement.PlainNo = 1
agreement_number Agreement.Inside = 2
agreement_number Agreement.Confirmed = 3
agreement_number (Agreement.Replaced b) = 4

-- "given as a place in the scratch"
unfoldable pub instead_of : Agreement → Bounds
instead_of Agreement.NotKnown = record { begin = 0; length = 0 }
instead_of Agreement.PlainNo = record { begin = 0; length = 0 }
instead_of Agreement.Inside = record { begin = 0; length = 0 }
instead_of Agreement.Confirmed = record { begin = 0; length = 0 }
instead_of (Agreement.Replaced b) = b

unfoldable pub given_accepted : CheckGiven
given_accepted = record { kind = 0; agreement = 0; walk = 0; place = record { 0 = 0 }; begin = 0; length = 0; count = 0; refusal = refusal 0 0 }

unfoldable pub given_ask : (walk : ℕ) → Octet → CheckGiven
given_ask w p = record { kind = 1; agreement = 0; walk = w; place = p; begin = 0; length = 0; count = 0; refusal = refusal 0 0 }

unfoldable pub given_outcome : Agreement → (count : ℕ) → CheckGiven
given_outcome a n = record {
  kind = 2;
  agreement = agreement_number a;
  walk = 0;
  place = record { 0 = 0 };
  begin = (instead_of a).begin;
  length = (instead_of a).length;
  count = n;
  refusal = refusal 0 0;
}

unfoldable pub given_refused : Refusal → CheckGiven
given_refused f = record { kind = 3; agreement = 0; walk = 0; place = record { 0 = 0 }; begin = 0; length = 0; count = 0; refusal = f }

-- numbers are those of what is given back, and no others; of a name, a walk and a place that mark it in the check. No call of a check writes octets
unfoldable pub Tells : Check → CheckGiven → Back Agreement → Type 0
Tells e g accepted = g ≡ given_accepted
Tells e g (ask_name n) = (g ≡ given_ask g.walk g.place) × (check_name e g.walk g.place ≡ n)
Tells e g (verdict a count) = g ≡ given_outcome a count
Tells e g (wrote n) = ⊥
Tells e g (refused f) = g ≡ given_refused f
