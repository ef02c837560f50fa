-- `evaluation_accept::accept` meets its contract.
use mathlib.Core.Path.{◌≡◌, refl, sym, ◌∙◌}
use Prim.Native.Nat.{ℕ, ◌+◌, ◌*◌, ◌≤◌, ◌<◌}
use native.Mathlib.Omega.{arith}
use lib.ListN.{length}
use Rattle.evaluation_keep.proofs.AnswerLaws.{accepts_moved}
use Rattle.evaluation_accept.proofs.accept.Goals as goal
use Rattle.evaluation_accept.proofs.accept.Goals.{Start}

-- the array that is lent
kept_full : (v : Start) → length v.args.e.kept ≡ 408
kept_full v = omega arith

-- in threes
room : (size count : ℕ) → size ≡ 408 → count < 136 → 3 * count + 3 ≤ size
room size count e h = omega arith

pub returns-then-e-ge-MOST_NAMES : goal.returns-then-e-ge-MOST_NAMES
returns-then-e-ge-MOST_NAMES c = record { accepts = λ h. absurd (omega (arith, c.if-e-ge-MOST_NAMES.true)); no_room = λ h. refl }

pub slice_bounds-advance-end-3 : goal.slice_bounds-advance-end-3
slice_bounds-advance-end-3 c =
    sym (c.keep_reply.ensures.size ∙ kept_full (goal.at.slice_bounds-advance-end-3 c).Start)

pub returns : goal.returns
returns c =
    let a = c.args in
    record {
      accepts = λ h.
          accepts_moved a.e a.walk a.place a.r _ _ c.advance-stands.result (c.keep_reply.ensures.replies (room (length a.e.kept) a.e.count (kept_full (goal.at.returns c).Start) h))
          c.advance-stands.ensures;
      no_room = λ h. absurd (omega (arith, c.if-e-ge-MOST_NAMES.false));
    }
