-- `evaluation_keep::find_asked` meets its contract.
use mathlib.Core.Path.{◌≡◌}
use mathlib.Core.List.{List}
use Prim.Native.Nat.{ℕ}
use lib.ListN.{drop}
use Rattle.std.specs.Prelude.{if◌then◌else◌, None, Some}
use Rattle.domain.specs.Domain.{asked_name}
use Rattle.alignment_stored.specs.code.Stored.{slot}
use Rattle.verdict_judgement.specs.code.Judging.{stored_message}
use Rattle.verdict_cursor.specs.code.Cursor.{stands, needed}
use Rattle.verdict_cursor.specs.code.Standing.{cursor_in}
use Rattle.verdict_cursor.specs.code.Positions.{place_in}
use Rattle.verdict_ahead.specs.code.Waits.{waiting_name}
use Rattle.evaluation_keep.specs.code.Asking.{answered}
use Rattle.evaluation_keep.proofs.find_asked.Goals as goal
use Rattle.evaluation_keep.proofs.find_asked.Goals.{After-is_name}

-- by whether the name is that of the target
named : (v : After-is_name) (stored : List ℕ) →
    let a = v.args in
    answered a.live a.name.now (needed (stands (stored_message a.domains.now a.numbers.now a.t) (cursor_in a.domains.now a.numbers.now a.t stored (place_in a.at))))
    ≡ (if v.is_name.result then Some (asked_name (drop v.in-Some.asked.place.0 (slot a.domains.now a.numbers.now v.in-Some.asked.walk))) else None)
unfolding answered waiting_name
named v stored =
    let a = v.args in
    rw (
      v.if-not-live.false,
      ← (v.find_target.ensures.name a.domains.now a.numbers.now stored),
      v.in-Some.is,
      v.is_name.ensures,
      v.without_dot-given.ensures,
      v.slot-d.ensures,
    )

pub returns-then-not-live : goal.returns-then-not-live
unfolding answered waiting_name
returns-then-not-live c stored = rw (c.if-not-live.true)

pub returns-else-is_name : goal.returns-else-is_name
unfolding waiting_name
returns-else-is_name c stored = rw (named (goal.at.returns-else-is_name c).After-is_name stored, c.if-is_name.false)

pub returns-in-None : goal.returns-in-None
unfolding answered waiting_name
returns-in-None c stored =
    let a = c.args in
    rw (c.if-not-live.false, ← (c.find_target.ensures.name a.domains.now a.numbers.now stored), c.in-None.is)

pub returns-then-is_name : goal.returns-then-is_name
unfolding waiting_name
returns-then-is_name c stored = rw (named (goal.at.returns-then-is_name c).After-is_name stored, c.if-is_name.true)
