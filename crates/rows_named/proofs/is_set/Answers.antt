-- `rows_named::is_set` meets its contract.
use Rattle.std.proofs.Common.{eqb, refl, ◌≡◌, ◌<◌, ◌≤◌, ◌||◌, length, sym, ◌∙◌, arith}
use Rattle.std.proofs.lemmas.Grind.{common_steps}
use Rattle.rows.specs.Lists.{reported}
use Rattle.rows_named.proofs.NamingLaws.{set_ends, set_stops, set_on, drops_some}
use Rattle.rows_named.proofs.is_set.Goals as goal

pub returns-then-not-is_taken : goal.returns-then-not-is_taken
returns-then-not-is_taken c =
    let m = c.loop-t in
    let some : 0 < length m.t.now = grind (arith, common_steps) in
    set_stops m.t.now c.front_body-first.result.now some c.front_body-first.ensures m.index m.seen c.is_taken.ensures (c.if-not-is_taken.true) ∙ sym m.invariant.1

pub overflow_add-index : goal.overflow_add-index
overflow_add-index c =
    let m = c.loop-t in
    let some : 0 < length m.t.now = grind (arith, common_steps) in
    omega (arith, m.invariant.0, m)

pub loop-t-smaller : goal.loop-t-smaller
loop-t-smaller c =
    let m = c.loop-t in
    let some : 0 < length m.t.now = grind (arith, common_steps) in
    rw c.after_record-t.ensures (drops_some m.t.now some)

pub loop-t-preserved : goal.loop-t-preserved
loop-t-preserved c =
    let m = c.loop-t in
    let some : 0 < length m.t.now = grind (arith, common_steps) in
    let next : c.if-seen.seen ≡ (m.seen || eqb (reported c.front_body-first.result.now).kind 0) = grind (arith, common_steps) in (
      rw c.after_record-t.ensures (omega (arith, m.invariant.0, drops_some m.t.now some)),
      m.invariant.1 ∙ set_on m.t.now c.front_body-first.result.now some c.front_body-first.ensures m.index m.seen c.is_taken.ensures (c.if-not-is_taken.false)
          (eqb (reported c.front_body-first.result.now).kind 0) _ _ refl next c.after_record-t.ensures,
    )

pub returns : goal.returns
returns c =
    let m = c.loop-t in
    let none : length m.t.now ≤ 0 = grind (arith, common_steps) in
    sym (m.invariant.1 ∙ set_ends m.t.now none m.index m.seen)
