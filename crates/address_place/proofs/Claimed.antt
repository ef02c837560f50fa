-- The claims of an answer at the confirming name.
use Rattle.address_place.specs.Place.{AnswerClaims}
use Rattle.address_place.proofs.AnswerLaws.{decides, confirms}
use Rattle.address_place.proofs.Placed.{stands}

pub answer_claims : AnswerClaims
answer_claims = record { first_decides = decides; record_or_no = confirms; in_the_scratch = stands }
