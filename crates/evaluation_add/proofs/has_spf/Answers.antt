-- `evaluation_add::has_spf` meets its contract.
use mathlib.Core.Path.{◌≡◌, sym, ◌∙◌}
use mathlib.Core.Bool.{◌||◌}
use Prim.Native.Nat.{◌+◌, ◌-◌, min}
use native.Mathlib.Omega.{arith}
use Rattle.octets.specs.Octets.{Octets, any}
use Rattle.alignment_stored.specs.code.Stored.{identifier_at, stored_identifiers}
use Rattle.alignment_stored.proofs.StoredLaws.{next_identifier}
use Rattle.book.specs.Start.{is_spf}
use Rattle.evaluation_add.proofs.AddLaws.{any_spf}
use Rattle.evaluation_add.proofs.has_spf.Goals as goal
use Rattle.evaluation_add.proofs.has_spf.Goals.{After-kind_at}

-- all of them, after the next one
after : (v : After-kind_at) →
    let m = v.loop-walk in
    let a = v.args in
    (domains : Octets) → any_spf (stored_identifiers domains a.numbers.now 1 (min a.count 16))
    ≡ (is_spf v.kind_at.result || any_spf (stored_identifiers domains a.numbers.now (m.walk + 1) (min a.count 16 + 1 - m.walk - 1)))
unfolding any identifier_at
after v domains =
    let m = v.loop-walk in
    let a = v.args in
    m.invariant domains ∙ rw (next_identifier domains a.numbers.now m.walk (min a.count 16 + 1 - m.walk) (omega (arith, v.min-walk-end.ensures)), v.kind_at.ensures)

pub loop-walk-init : goal.loop-walk-init
loop-walk-init c = λ domains.
    let all : min c.args.count 16 + 1 - 1 ≡ min c.args.count 16 = omega arith in
    rw all

pub returns-in-Spf : goal.returns-in-Spf
unfolding is_spf
returns-in-Spf c domains = sym (rw c.in-Spf.is at (after (goal.at.returns-in-Spf c).After-kind_at domains))

pub loop-walk-preserved : goal.loop-walk-preserved
unfolding is_spf
loop-walk-preserved c = λ domains.
    let left : min c.args.count 16 + 1 - c.loop-walk.walk - 1 ≡ min c.args.count 16 + 1 - (c.loop-walk.walk + 1) = omega arith in
    rw (← left) (rw c.in_default.is at (after (goal.at.loop-walk-preserved c).After-kind_at domains))

pub returns : goal.returns
unfolding any stored_identifiers
returns c domains =
    let none : min c.args.count 16 + 1 - c.loop-walk.walk ≡ 0 = omega (arith, c.min-walk-end.ensures) in
    sym (rw none at (c.loop-walk.invariant domains))
