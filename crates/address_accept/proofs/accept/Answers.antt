-- `address_accept::accept` meets its contract.
use mathlib.Core.Path.{◌≡◌, refl, sym, ◌∙◌}
use Prim.Native.Nat.{ℕ, ◌+◌, ◌*◌, ◌≤◌, ◌<◌}
use native.Mathlib.Omega.{arith}
use lib.ListN.{length}
use Rattle.address_check.specs.Numbers.{pair_now}
use Rattle.address_check.specs.code.View.{replies_now, cursor_now}
use Rattle.address_accept.proofs.accept.Goals as goal
use Rattle.address_accept.proofs.accept.Goals.{Start}

-- the array that is lent
kept_full : (v : Start) → length v.args.c.kept ≡ 48
kept_full v = omega arith

-- in threes
room : (size count : ℕ) → size ≡ 48 → count < 16 → 3 * count + 3 ≤ size
room size count e h = omega arith

pub returns-then-c-ge-MOST_REPLIES : goal.returns-then-c-ge-MOST_REPLIES
returns-then-c-ge-MOST_REPLIES c = record { accepts = λ h. absurd (omega (arith, c.if-c-ge-MOST_REPLIES.true, h)); no_room = λ h. refl }

pub slice_bounds-advance-end-2 : goal.slice_bounds-advance-end-2
slice_bounds-advance-end-2 c =
    sym (c.keep_reply.ensures.size ∙ kept_full (goal.at.slice_bounds-advance-end-2 c).Start)

pub returns : goal.returns
unfolding pair_now replies_now cursor_now
returns c =
    record {
      accepts = λ h. record {
        started = refl;
        confirmed = refl;
        asked = refl;
        domains = refl;
        numbers = refl;
        replies = c.keep_reply.ensures.replies (room (length c.args.c.kept) c.args.c.count (kept_full (goal.at.returns c).Start) h);
        cursor = rw (c.slot-policy.ensures, c.slot-host.ensures) at c.advance-stands.ensures;
      };
      no_room = λ h. absurd (omega (arith, c.if-c-ge-MOST_REPLIES.false));
    }
