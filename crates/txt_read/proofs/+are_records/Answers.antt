-- `txt_read::are_records` meets its contract.
use mathlib.Core.Path.{sym, ◌∙◌}
use native.Mathlib.Omega.{arith}
use borrow.Author.Tests.{eqb-true, eqb-false}
use Prim.Native.Nat.{ℕ}
use Rattle.txt_read.proofs.RecordLaws.{First, first, whether, unreadable, no_octets, no_budget}
use Rattle.txt_read.proofs.+are_records.Goals as goal
use Rattle.txt_read.proofs.+are_records.Goals.{In-Some}

-- the record at the front
front : (t : ℕ) (c : In-Some t) → First c.args.bytes.now c.in-Some.n
front t c = first c.args.bytes.now c.in-Some.n (sym c.read_front.ensures ∙ c.in-Some.is)

pub returns-then-is_empty : goal.returns-then-is_empty
returns-then-is_empty t c = rw (no_octets c.args.budget c.args.bytes.now (eqb-true _ _ (sym c.is_empty.ensures ∙ c.if-is_empty.true)))

pub returns-then-budget-eq0 : goal.returns-then-budget-eq0
returns-then-budget-eq0 t c = rw (c.if-budget-eq0.true, no_budget c.args.bytes.now (eqb-false _ _ (sym c.is_empty.ensures ∙ c.if-is_empty.false)))

pub returns-in_default : goal.returns-in_default
returns-in_default t c =
    let a = c.args in
    rw (unreadable a.budget a.bytes.now (eqb-false _ _ (sym c.is_empty.ensures ∙ c.if-is_empty.false)) (sym c.read_front.ensures ∙ c.in_default.is))

pub overflow_add-end : goal.overflow_add-end
overflow_add-end t c = omega (arith, (front t c).within)

pub slice_bounds-is_text-end : goal.slice_bounds-is_text-end
slice_bounds-is_text-end t c = omega (arith, (front t c).within)

pub slice_bounds-are_records-count : goal.slice_bounds-are_records-count
slice_bounds-are_records-count t c = omega (arith, (front t (goal.at.slice_bounds-are_records-count t c).In-Some).within)

pub slice_bounds-are_records-start : goal.slice_bounds-are_records-start
slice_bounds-are_records-start t c = omega (arith, (front t (goal.at.slice_bounds-are_records-start t c).In-Some).within)

pub are_records-requires : goal.are_records-requires
are_records-requires t c = (omega (arith, (front t (goal.at.are_records-requires t c).In-Some).within), tt)

pub returns-then-is_text : goal.returns-then-is_text
returns-then-is_text t c =
    sym (whether (front t (goal.at.returns-then-is_text t c).In-Some) c.args.budget c.if-budget-eq0.false
    ∙ rw (← c.is_text.ensures, c.if-is_text.true) (sym c.are_records.ensures))

pub returns-else-is_text : goal.returns-else-is_text
returns-else-is_text t c =
    sym (whether (front t (goal.at.returns-else-is_text t c).In-Some) c.args.budget c.if-budget-eq0.false ∙ rw (← c.is_text.ensures, c.if-is_text.false))
