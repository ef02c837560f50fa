-- Laws of a copier of character-strings: each is written on from where the last one ended.
use Rattle.std.specs.Prelude.{Result, Option}
use mathlib.Core.Path.{◌≡◌, refl, ap, sym, ◌∙◌}
use mathlib.Core.List.{[], ◌++◌, append-nil, append_assoc}
use mathlib.Core.Bool.{true}
use Prim.Native.Nat.{ℕ, ◌+◌, ◌-◌, ◌≤◌, ◌<◌}
use native.Mathlib.Omega.{arith}
use borrow.Rule.Slice.PartMut.{put_mid}
use lib.ListN.{length, take, drop, get_or, length-drop, length-append, take-append-drop}
use lib.Seq.{length-take-le, take_at, drop_at, drop-drop, drop-length}
use Rattle.octets.specs.Octets.{Octets}
use Rattle.octets.specs.Lent.{over, Writes}
use Rattle.octets.proofs.LentLaws.{rest_of}
use Rattle.txt.specs.Answers.{joined}
use Rattle.txt_read.specs.code.Steps.{is_there, or_empty, Room, Copies}
use Rattle.txt_read.proofs.ScratchLaws.{part, rest, wrote, onto_there, onto_text}
use Rattle.txt_read.proofs.StringLaws.{no_strings, apart, string_within, string_length}
use Rattle.octets.specs.declared.Refusal.{Refusal}

-- some octets of a text stand in the front of memory, the others are to come, and what lies behind is as it was
pub record Copied (text others : Option Octets) (before now : Octets) (at : ℕ) : Type 0 where
  pub there : is_there others ≡ true
  pub long : length now ≡ length before
  pub within : at ≤ length now
  pub fits : length (or_empty text) ≤ length before
  pub so_far : take at now ++ or_empty others ≡ or_empty text
  pub behind : drop at now ≡ drop at before

pub none_yet : (text : Option Octets) (m : Octets) → Room text m → Copied text text m m 0
none_yet text m r = record { there = r.reads; long = refl; within = omega arith; fits = r.fits; so_far = refl; behind = refl }

module _ (text : Option Octets) (l before now : Octets) (at : ℕ) (c : Copied text (joined 0 l) before now at) where
  -- nothing is to come
  pub all_copied : length l ≡ 0 → Copies text before at now
  unfolding over
  all_copied e =
      let whole : take at now ≡ or_empty text = sym (append-nil (take at now)) ∙ rw (no_strings l e) at c.so_far in
      let size : at ≡ length (or_empty text) = sym (length-take-le at now c.within) ∙ ap length whole in
      record { answers = size; leaves = sym (take-append-drop at now) ∙ rw (whole, c.behind, size) }

  room_left : Room (joined 0 l) (rest at now)
  room_left = record {
    reads = c.there;
    fits = rw (rest_of now at, length-drop) (omega (arith, c.long, c.within, c.fits, ap length c.so_far, length-append (take at now) (or_empty (joined 0 l)), length-take-le at now c.within));
  }

  module _ (k : ℕ) (e : k ≡ get_or l 0 0) (h : 0 < length l) where
    pub next_within : k + 1 ≤ length l
    next_within = string_within l k e h (rest at now) room_left

    -- one string more
    module _ (r : Result ℕ Refusal) (m₁ : Octets) (w : Writes (part 1 (k + 1) l) (rest at now) r m₁) where
      abbrev s : Octets
      s = part 1 (k + 1) l

      size : k ≡ length s
      size = string_length l k e h (rest at now) room_left

      both : or_empty (joined 0 l) ≡ s ++ or_empty (joined 0 (rest (k + 1) l))
      both = ap or_empty (apart l k e h next_within) ∙ onto_text s (joined 0 (rest (k + 1) l)) (sym (ap is_there (apart l k e h next_within)) ∙ c.there)

      s_fits : length s ≤ length (rest at now)
      s_fits = omega (arith, room_left.fits, ap length both, length-append s (or_empty (joined 0 (rest (k + 1) l))))

      memory : put_mid at (length now - at) now m₁ ≡ (take at now ++ s) ++ drop k (drop at now)
      unfolding over
      memory =
          let behind_all : drop (length now - at) (drop at now) ≡ [] = rw (← length-drop at now) (drop-length (drop at now)) in
          rw (behind_all, append-nil, wrote s (rest at now) r m₁ s_fits w, rest_of now at, ← size, append_assoc)

      front_length : length (take at now ++ s) ≡ at + k
      front_length = rw (length-append, length-take-le at now c.within, ← size)

      pub one_more : Copied text (joined 0 (rest (k + 1) l)) before (put_mid at (length now - at) now m₁) (at + k)
      one_more = record {
        there = sym (onto_there s (joined 0 (rest (k + 1) l))) ∙ sym (ap is_there (apart l k e h next_within)) ∙ c.there;
        long = rw (memory, length-append, front_length, length-drop, length-drop) (omega (arith, c.long, c.within, s_fits, ap length (rest_of now at), length-drop at now, size));
        within = rw (memory, length-append, front_length) (omega arith);
        fits = c.fits;
        so_far = rw (memory, take_at (take at now ++ s) (drop k (drop at now)) (at + k) front_length, append_assoc, ← both) c.so_far;
        behind = rw (memory, drop_at (take at now ++ s) (drop k (drop at now)) (at + k) front_length, c.behind, drop-drop);
      }
