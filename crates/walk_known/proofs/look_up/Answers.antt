-- `walk_known::look_up` meets its contract. The loop's invariant: what is known by all answers is known by those from the i-th on.
use mathlib.Core.Path.{◌≡◌, ap, sym, ◌∙◌}
use Prim.Native.Nat.{◌+◌, ◌-◌, ◌*◌, ◌≤◌}
use native.Mathlib.Decide.{dec_le}
use native.Mathlib.Omega.{arith}
use lib.ListN.{drop, get_or}
use Rattle.std.specs.Prelude.{if◌then◌else◌, Some, None}
use Rattle.domain.specs.Domain.{asked_name}
use Rattle.txt_codes.specs.code.Codes.{reply_of}
use Rattle.walk_known.specs.code.Kept.{known}
use Rattle.walk_known.proofs.KeptLaws.{known_none, known_short, known_next}
use Rattle.walk_known.proofs.look_up.Goals as goal
use Rattle.walk_known.proofs.look_up.Goals.{After-same_text}

-- what is known, after the next answer is compared
after : (v : After-same_text) →
    let i = v.loop-i.i in
    let a = v.args in
    known a.domains.now a.count a.kept.now (asked_name a.target.now)
    ≡ (if v.same_text.result then Some (reply_of (get_or a.kept.now (3 * i + 2) 0)) else known a.domains.now (a.count - i - 1) (drop (3 * i + 3) a.kept.now) (asked_name a.target.now))
after v =
    let i = v.loop-i.i in
    let a = v.args in
    v.loop-i.invariant
    ∙ known_next a.domains.now (a.count - i) a.kept.now (3 * i) a.target.now (omega arith) (omega arith) v.part.result.now (v.part.ensures ∙ rw (v.from-begin.ensures, v.from-end.ensures))
    v.same_text.result v.same_text.ensures

pub loop-i-init : goal.loop-i-init
loop-i-init c = let all : c.args.count - 0 ≡ c.args.count = omega arith in rw all

pub returns-then-same_text : goal.returns-then-same_text
returns-then-same_text c =
    ap Some (c.decode.ensures ∙ ap reply_of c.from.ensures) ∙ sym (rw c.if-same_text.true at (after (goal.at.returns-then-same_text c).After-same_text))

pub loop-i-preserved : goal.loop-i-preserved
loop-i-preserved c =
    let i = c.loop-i.i in
    let left : c.args.count - (i + 1) ≡ c.args.count - i - 1 = omega arith in
    let place : 3 * (i + 1) ≡ 3 * i + 3 = omega arith in
    rw (left, place) (rw c.if-same_text.false at (after (goal.at.loop-i-preserved c).After-same_text))

pub returns : goal.returns
returns c = sym (c.loop-i.invariant ∙ go (dec_le c.args.count c.loop-i.i))
  where
    go : Dec (c.args.count ≤ c.loop-i.i) → known c.args.domains.now (c.args.count - c.loop-i.i) (drop (3 * c.loop-i.i) c.args.kept.now) (asked_name c.args.target.now) ≡ None
    go (yes h) = known_none c.args.domains.now _ c.args.kept.now _ c.args.target.now (omega arith)
    go (no h) = known_short c.args.domains.now _ c.args.kept.now _ c.args.target.now (omega arith)
