-- `txt_take::take_records` meets its contract.
use Rattle.std.specs.Prelude.{Some}
use mathlib.Core.Path.{◌≡◌, sym, ◌∙◌}
use Prim.Native.Nat.{ℕ, ◌+◌, ◌≤◌}
use native.Mathlib.Omega.{arith}
use lib.ListN.{length}
use Rattle.txt_read.specs.code.Steps.{front_of, all_texts}
use Rattle.txt_read.proofs.ScratchLaws.{rest, Begun}
use Rattle.txt_read.proofs.RecordLaws.{first, finds_nothing, room_for_text, text_copied, found_with}
use Rattle.txt_take.proofs.+take_records.Goals as goal
use Rattle.txt_take.proofs.+take_records.Goals.{In-Some, After-copy_strings-k}

-- the record at the front
front : (t : ℕ) (c : In-Some t) → front_of c.args.bytes.now ≡ Some c.in-Some.n
front t c = sym c.read_front.ensures ∙ c.in-Some.is

within : (t : ℕ) (c : In-Some t) → c.in-Some.n + 4 ≤ length c.args.bytes.now
within t c = (first c.args.bytes.now c.in-Some.n (front t c)).within

-- its text is copied
copied : (t : ℕ) (c : After-copy_strings-k t)
    → let s = c.args in
    let k = c.copy_strings-k in
    Begun (all_texts s.bytes.now) (all_texts (rest (c.in-Some.n + 4) s.bytes.now)) s.scratch.now k.new.out k.result
copied t c =
    let s = c.args in
    let k = c.copy_strings-k in
    text_copied s.bytes.now c.in-Some.n (sym c.read_front.ensures ∙ c.in-Some.is) s.scratch.now c.requires k.result k.new.out k.ensures

pub returns-in_default : goal.returns-in_default
returns-in_default t c = finds_nothing c.args.bytes.now c.args.scratch.now (sym c.read_front.ensures ∙ c.in_default.is) c.requires

pub overflow_add-end : goal.overflow_add-end
overflow_add-end t c = omega (arith, within t c)

pub slice_bounds-copy_strings-end : goal.slice_bounds-copy_strings-end
slice_bounds-copy_strings-end t c = omega (arith, within t c)

pub copy_strings-k-requires : goal.copy_strings-k-requires
copy_strings-k-requires t c = room_for_text c.args.bytes.now c.in-Some.n (sym c.read_front.ensures ∙ c.in-Some.is) c.args.scratch.now c.requires

pub slice_bounds-read-end : goal.slice_bounds-read-end
slice_bounds-read-end t c = omega (arith, (copied t (goal.at.slice_bounds-read-end t c).After-copy_strings-k).within)

pub slice_bounds-take_records-count : goal.slice_bounds-take_records-count
slice_bounds-take_records-count t c = omega (arith, within t (goal.at.slice_bounds-take_records-count t c).In-Some)

pub slice_bounds-take_records-start : goal.slice_bounds-take_records-start
slice_bounds-take_records-start t c = omega (arith, within t (goal.at.slice_bounds-take_records-start t c).In-Some)

pub take_records-others-requires : goal.take_records-others-requires
take_records-others-requires t c =
    let at = goal.at.take_records-others-requires t c in
    (omega (arith, within t at.In-Some), (copied t at.After-copy_strings-k).room)

pub returns : goal.returns
returns t c =
    let s = c.args in
    let k = c.copy_strings-k in
    let others = c.take_records-others in
    record {
      answers =
          c.add_found.ensures
          ∙ found_with s.bytes.now c.in-Some.n (sym c.read_front.ensures ∙ c.in-Some.is) s.scratch.now c.requires k.result k.new.out k.ensures
          c.read-first.result others.result c.read-first.ensures others.ensures.answers;
      leaves = (copied t (goal.at.returns t c).After-copy_strings-k).leaves others.new.scratch others.ensures.leaves;
    }
