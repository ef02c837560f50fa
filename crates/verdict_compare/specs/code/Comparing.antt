-- What the functions that compare identifiers promise: what is stored on the way in and on the way out.
use Rattle.std.specs.Prelude.{◌≡◌, List, ℕ, ◌+◌, ◌-◌, ◌≤◌, ◌<◌, drop}
use Rattle.octets.specs.Octets.{Octets}
use Rattle.lookup.specs.Lookup.{Answers}
use Rattle.txt.specs.declared.Reply.{Reply}
use Rattle.alignment_stored.specs.code.Stored.{slot, identifier_at, stored_identifiers}
use Rattle.walk_progress.specs.declared.Reach.{Reach}
use Rattle.walk_progress.specs.code.Stops.{reached_in}
use Rattle.verdict_judgement.specs.declared.Terms.{Terms}
use Rattle.verdict_judgement.specs.code.Judging.{stored_message}
use Rattle.verdict_cursor.specs.declared.Ruling.{Ruling}
use Rattle.verdict_cursor.specs.declared.Place.{Place}
use Rattle.verdict_cursor.specs.code.Cursor.{compare_reached, compare_on}
use Rattle.verdict_cursor.specs.code.Standing.{stored_at, NoneFrom, passed_from, given_count, StandsAt}

-- the identifiers from a walk's on, where that walk has come so far
abbrev pub ComparesAfter : Octets → (numbers : List ℕ) → Terms → Answers Reply → (before : List ℕ) → Ruling → (walk : ℕ) → Reach → (after : List ℕ) → Place → Type 0
ComparesAfter domains numbers t β before r walk w after p =
    let m = stored_message domains numbers t in
    let d = drop r.begin.0 m.author in
    let st = stored_at before 0 in
    let others = stored_identifiers domains numbers (walk + 1) (given_count domains numbers t - walk) in
    StandsAt domains numbers t (NoneFrom walk before) after p (compare_reached β m d r.settings r.policy st (passed_from domains numbers before 1 (walk - 1)) (identifier_at domains numbers walk) others (λ l. compare_on β m d r.settings r.policy st l others) (reached_in (slot domains numbers walk) w))

-- where no identifier has that walk, nothing is compared or stored
pub record ComparesWalk (domains : Octets) (numbers : List ℕ) (t : Terms) (β : Answers Reply) (before : List ℕ) (r : Ruling) (walk : ℕ) (w : Reach) (after : List ℕ) (p : Place) : Type 0 where
  pub given : 1 ≤ walk → walk ≤ given_count domains numbers t → ComparesAfter domains numbers t β before r walk w after p
  pub none : walk < 1 → (p ≡ Place.Judged r) × (after ≡ before)
  pub past : given_count domains numbers t < walk → (p ≡ Place.Judged r) × (after ≡ before)
