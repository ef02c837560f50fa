-- `address_texts::judge_texts` meets its contract. The loop's invariant: what is left of the answer says what the whole says.
use Rattle.std.specs.Prelude.{Some}
use mathlib.Core.Path.{◌≡◌, sym, ◌∙◌}
use mathlib.Core.Bool.{false}
use Prim.Native.Nat.{◌≤◌, ◌+◌, ◌-◌}
use native.Mathlib.Omega.{arith}
use lib.ListN.{length, drop, length-take}
use Rattle.octets.specs.Octets.{lower}
use Rattle.txt_read.specs.code.Steps.{front_of}
use Rattle.txt_read.proofs.RecordLaws.{first}
use Rattle.address_texts.proofs.TextLaws.{none_left, none_allowed, passes, hears, replaces, another, all_remain, bounds_in}
use Rattle.address_texts.proofs.judge_texts.Goals as goal
use Rattle.address_texts.proofs.judge_texts.Goals.{After-text_length, In-Some, In-Replaces, in-NoRecord, in-Silent}

-- the record at the front
front : (v : In-Some) → front_of v.loop-budget.rest.now ≡ Some v.in-Some.n
front v = sym v.read_front.ensures ∙ v.in-Some.is

within : (v : In-Some) → v.in-Some.n + 4 ≤ length v.loop-budget.rest.now
within v = (first v.loop-budget.rest.now v.in-Some.n (front v)).within

-- its text is no longer than its RDATA
short : (v : After-text_length) → v.text_length.result ≤ v.in-Some.n
short v =
    let k = v.in-Some.n in
    let l = v.loop-budget.rest.now in
    omega (arith, v.text_length.ensures.1, length-take (k + 4 - 4) (drop 4 l))

-- where a record replaces, its bounds begin in its text
begins : (v : In-Replaces) → v.in-Replaces.bounds.begin ≤ length v.part.result.now
begins v =
    let a = v.args in
    bounds_in (lower a.host.now) v.part.result.now v.in-Replaces.bounds (sym v.in-Replaces.is ∙ v.judge_text.ensures)

pub loop-budget-init : goal.loop-budget-init
loop-budget-init c =
    let a = c.args in
    (omega arith, all_remain a.bytes.now a.scratch.now (lower a.host.now))

pub returns-in_default : goal.returns-in_default
returns-in_default c =
    λ ts m e f. c.confirm.ensures ∙ none_left (c.loop-budget.invariant.1 ts m e f) (sym c.read_front.ensures ∙ c.in_default.is)

pub overflow_add-end : goal.overflow_add-end
overflow_add-end c = omega (arith, within c)

pub slice_bounds-text_length-count : goal.slice_bounds-text_length-count
slice_bounds-text_length-count c = omega (arith, within c)

pub slice_bounds-text_length-start : goal.slice_bounds-text_length-start
slice_bounds-text_length-start c = omega (arith, within c)

pub slice_bounds-text_length-end : goal.slice_bounds-text_length-end
slice_bounds-text_length-end c = omega (arith, within c)

pub overflow_add-next : goal.overflow_add-next
overflow_add-next c = omega (arith, within (goal.at.overflow_add-next c).In-Some, short c)

pub overflow_add-result : goal.overflow_add-result
overflow_add-result c = omega (arith, begins (goal.at.overflow_add-result c).In-Replaces)

pub returns-in-Replaces : goal.returns-in-Replaces
returns-in-Replaces c =
    λ ts m e f. replaces (c.loop-budget.invariant.1 ts m e f) (omega arith) (front (goal.at.returns-in-Replaces c).In-Some) c.text_length.ensures.0
    c.part.ensures c.judge_text.ensures _ c.in-Replaces.is

pub returns-in-Other : goal.returns-in-Other
returns-in-Other c =
    λ ts m e f. another (c.loop-budget.invariant.1 ts m e f) (omega arith) (front (goal.at.returns-in-Other c).In-Some) c.text_length.ensures.0
    c.part.ensures c.judge_text.ensures c.in-Other.is

pub slice_bounds-rest-count : goal.slice_bounds-rest-count
slice_bounds-rest-count c = omega (arith, within (goal.at.slice_bounds-rest-count c).In-Some)

pub slice_bounds-rest-start : goal.slice_bounds-rest-start
slice_bounds-rest-start c = omega (arith, within (goal.at.slice_bounds-rest-start c).In-Some)

pub loop-budget-preserved : goal.loop-budget-preserved
loop-budget-preserved c =
    let k = c.in-Some.n in
    let l = c.loop-budget.rest.now in (
      omega (arith, within (goal.at.loop-budget-preserved c).In-Some, short (goal.at.loop-budget-preserved c).After-text_length, length-take (length l - (k + 4)) (drop (k + 4) l), c.loop-budget.invariant.0),
      λ ts m e f. elim c.match-judge_text.branch [
        | in-NoRecord x ↦ rw x.one-is
            (passes (c.loop-budget.invariant.1 ts m e f) (omega arith) (front (goal.at.loop-budget-preserved c).In-Some) c.text_length.ensures.0
            c.part.ensures c.judge_text.ensures x.in-NoRecord.is)
        | in-Silent x ↦ rw x.one-is
            (hears (c.loop-budget.invariant.1 ts m e f) (omega arith) (front (goal.at.loop-budget-preserved c).In-Some) c.text_length.ensures.0
            c.part.ensures c.judge_text.ensures x.in-Silent.is)
      ],
    )

pub returns : goal.returns
returns c = λ ts m e f. c.confirm-2.ensures ∙ none_allowed (c.loop-budget.invariant.1 ts m e f) c.loop-budget-test.false
