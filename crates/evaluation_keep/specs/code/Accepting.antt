-- What an accepted answer makes of an evaluation.
use Rattle.std.specs.Prelude.{◌≡◌, [], ◌∷◌, ◌++◌, false, ℕ, ◌≤◌, ◌<◌}
use Rattle.domain.specs.declared.Octet.{Octet}
use Rattle.txt.specs.declared.Reply.{Reply}
use Rattle.verdict_cursor.specs.code.Cursor.{answered_on}
use Rattle.verdict_cursor.specs.code.Standing.{OnlyThese}
use Rattle.verdict_cursor.specs.code.Positions.{place_in}
use Rattle.evaluation.specs.declared.Evaluation.{Evaluation}
use Rattle.evaluation.specs.code.View.{replies_now, cursor_now}
use Rattle.evaluation.specs.GivenBack.{message_now, marked}

-- the numbers stored are those of where it stands, and no others
unfoldable pub NumberedNow : Evaluation → Type 0
NumberedNow e = OnlyThese e.domains e.numbers e.terms e.stored (place_in e.position)

-- the reply to the name that a walk and a place mark is kept, and where the evaluation stands moves on
pub record Accepts (before : Evaluation) (walk : ℕ) (place : Octet) (r : Reply) (after : Evaluation) : Type 0 where
  pub started : after.started ≡ before.started
  pub handed : after.handed ≡ before.handed
  pub asked : after.asked ≡ false
  pub domains : after.domains ≡ before.domains
  pub numbers : after.numbers ≡ before.numbers
  pub terms : after.terms ≡ before.terms
  pub replies : replies_now after ≡ replies_now before ++ ((marked before walk place, r) ∷ [])
  pub cursor : cursor_now after ≡ answered_on (replies_now after) (message_now before) (cursor_now before) r
  pub numbered : NumberedNow before → NumberedNow after

-- with room for the reply it is accepted; else nothing is changed
pub record AcceptsInRoom (before : Evaluation) (walk : ℕ) (place : Octet) (r : Reply) (after : Evaluation) : Type 0 where
  pub accepts : before.count < 136 → Accepts before walk place r after
  pub no_room : 136 ≤ before.count → after ≡ before
