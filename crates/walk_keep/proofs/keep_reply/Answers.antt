-- `walk_keep::keep_reply` meets its contract.
use Prim.Native.Nat.{ℕ, ◌≤◌, ◌<◌, ◌+◌, ◌*◌, ◌/◌}
use native.Mathlib.Omega.{arith}
use lib.ListN.{length, set, length-set}
use mathlib.Core.List.{List}
use mathlib.Core.Path.{◌≡◌, refl, ap, ◌∙◌}
use Rattle.txt_codes.proofs.CodeLaws.{reply_back, reply_small}
use Rattle.walk_known.specs.code.Kept.{kept_answers}
use Rattle.alignment_stored.proofs.StoredLaws.{slot_size}
use Rattle.walk_keep.proofs.KeepLaws.{kept_more, begin_small, mark_stored}
use Rattle.walk_keep.proofs.keep_reply.Goals as goal
use Rattle.walk_keep.proofs.keep_reply.Goals.{After-slot_begin-begin}

-- a walk's domain lies in the stored ones
end-small : (v : After-slot_begin-begin) → v.slot_begin-begin.result + length v.slot-size.result.now ≤ 4301
end-small v =
    let a = v.args in
    let size : length v.slot-size.result.now ≤ 253 = rw v.slot-size.ensures (slot_size a.domains.now a.numbers.now a.walk) in
    omega (arith, size, v.slot_begin-begin.ensures, begin_small a.walk)

put-length : (l : List ℕ) (at x y z : ℕ) → length (set (set (set l at x) (at + 1) y) (at + 2) z) ≡ length l
put-length l at x y z = rw (length-set (set (set l at x) (at + 1) y) (at + 2) z, length-set (set l at x) (at + 1) y, length-set l at x)

-- the test of the room, in threes
full : (size count : ℕ) → size / 3 ≤ count → 3 * count + 3 ≤ size → ⊥
full size count h g = omega arith

has_room : (size count : ℕ) → count < size / 3 → 3 * count + 3 ≤ size
has_room size count h = omega arith

not_full : (size count : ℕ) → count < size / 3 → size < 3 * count + 3 → ⊥
not_full size count h g = omega arith

pub returns-then-kept-count : goal.returns-then-kept-count
returns-then-kept-count c =
    let a = c.args in
    record { replies = λ h. absurd (full (length a.kept.now) a.count c.if-kept-count.true h); size = refl; no_room = λ h. refl }

pub overflow_add-from : goal.overflow_add-from
overflow_add-from c = omega (arith, end-small (goal.at.overflow_add-from c).After-slot_begin-begin, c.min.ensures)

pub overflow_add-end : goal.overflow_add-end
overflow_add-end c = omega (arith, end-small (goal.at.overflow_add-end c).After-slot_begin-begin)

pub overflow_cast-from : goal.overflow_cast-from
overflow_cast-from c = omega (arith, end-small (goal.at.overflow_cast-from c).After-slot_begin-begin, c.min.ensures)

pub overflow_cast-end : goal.overflow_cast-end
overflow_cast-end c = omega (arith, end-small (goal.at.overflow_cast-end c).After-slot_begin-begin)

pub overflow_cast-code : goal.overflow_cast-code
overflow_cast-code c = omega (arith, c.encode-code.ensures, reply_small c.args.r)

pub put-requires : goal.put-requires
put-requires c =
    let a = c.args in
    has_room (length a.kept.now) a.count c.if-kept-count.false

pub returns : goal.returns
returns c =
    let put = c.put in
    let code = c.encode-code in
    let from = c.min in
    let begin = c.slot_begin-begin in
    let room = c.if-kept-count.false in
    let a = c.args in
    let total = length a.kept.now in
    let size = length c.slot-size.result.now in
    let written = set (set (set a.kept.now (3 * a.count) (begin.result + from.result)) (3 * a.count + 1) (begin.result + size)) (3 * a.count + 2) code.result in
    let marked = mark_stored a.domains.now a.numbers.now a.walk a.place.0 begin.result size from.result begin.ensures (ap length c.slot-size.ensures) from.ensures in
    record {
      replies = λ h.
          ap (λ l. kept_answers a.domains.now (a.count + 1) l) {y = written} put.ensures
          ∙ kept_more a.domains.now a.count (3 * a.count) a.kept.now (begin.result + from.result) (begin.result + size) code.result refl (has_room total a.count room)
          ∙ rw (marked, code.ensures, reply_back a.r);
      size = ap length {y = written} put.ensures ∙ put-length a.kept.now (3 * a.count) (begin.result + from.result) (begin.result + size) code.result;
      no_room = λ h. absurd (not_full total a.count room h);
    }
