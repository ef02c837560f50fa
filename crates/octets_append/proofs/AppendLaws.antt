-- Laws of one text after another, for any texts.
use mathlib.Core.Path.{◌≡◌, refl, ap, sym, ◌∙◌}
use mathlib.Core.List.{[], ◌++◌, append_assoc, append-nil}
use mathlib.Core.Bool.{Bool, true, false}
use Prim.Native.Nat.{ℕ, ◌+◌, ◌-◌, ◌^◌, ◌≤◌, ◌<◌}
use native.Mathlib.Omega.{arith}
use native.Mathlib.Nat.{add_assoc, zero-add}
use lib.Dec.{leb}
use lib.ListN.{length, take, drop, length-append, length-take, length-drop, take-append-drop}
use lib.Seq.{length-take-le, take-take, take_at, take-append_seam, take-append-le, drop_at, drop-append-le, drop-drop, drop-length}
use borrow.Author.Tests.{le-leb, lt-leb, leb-true, leb-false}
use borrow.Rule.Slice.PartMut.{put_mid}
use Rattle.std.specs.Prelude.{if◌then◌else◌, Result, Ok, Err}
use Rattle.std.specs.Result.{result_unwrap_or}
use Rattle.octets.specs.Octets.{Octets}
use Rattle.octets.specs.Lent.{over, fits, written, left, Writes}
use Rattle.octets.specs.Refusing.{refusal}
use Rattle.octets.proofs.ListLaws.{drop_take}
use Rattle.octets.proofs.LentLaws.{rest_of, writes}
use Rattle.octets_append.specs.code.Appending.{fits_at, Appends}
use Rattle.octets.specs.declared.Refusal.{Refusal}

module _ (text before : Octets) (at : ℕ) where
  -- a place past the end
  pub appends_past : length before < at → Appends text at before at before
  unfolding fits_at
  appends_past h =
      let none : leb (at + length text) (length before) ≡ false = lt-leb (at + length text) (length before) (omega arith) in
      record { moves = rw none; leaves = rw none }

  -- room from the place on is room in what follows it
  same_fit : at ≤ length before → fits text (drop at before) ≡ fits_at text at before
  unfolding fits fits_at
  same_fit h = go (leb (at + length text) (length before)) refl
    where
      go : (b : Bool) → leb (at + length text) (length before) ≡ b → leb (length text) (length (drop at before)) ≡ leb (at + length text) (length before)
      go true e =
          le-leb (length text) (length (drop at before)) (omega (arith, leb-true (at + length text) (length before) e, length-drop at before)) ∙ sym e
      go false e =
          lt-leb (length text) (length (drop at before)) (omega (arith, leb-false (at + length text) (length before) e, length-drop at before)) ∙ sym e

  -- what was written into what follows the place
  module _ (h : at ≤ length before) {w : Result ℕ Refusal} {rest : Octets} (writes : Writes text (take (length before - at) (drop at before)) w rest) where
    answered : w ≡ (if fits_at text at before then Ok (length text) else Err (refusal 10 (length text)))
    unfolding written
    answered = (rw (rest_of before at) at writes).answers ∙ rw (same_fit h)

    lies : rest ≡ (if fits_at text at before then over text (drop at before) else drop at before)
    unfolding left
    lies = (rw (rest_of before at) at writes).leaves ∙ rw (same_fit h)

    -- the place after it
    moved : at + result_unwrap_or w 0 ≡ (if fits_at text at before then at + length text else at)
    moved = rw answered (go (fits_at text at before))
      where
        go : (b : Bool) → at + result_unwrap_or (if b then Ok (length text) else Err (refusal 10 (length text))) 0 ≡ (if b then at + length text else at)
        go true = refl
        go false = omega arith

    pub place_bound : length before < 2 ^ 64 → at + result_unwrap_or w 0 < 2 ^ 64
    unfolding fits_at
    place_bound k = rw moved (go (leb (at + length text) (length before)) refl)
      where
        go : (b : Bool) → leb (at + length text) (length before) ≡ b → (if b then at + length text else at) < 2 ^ 64
        go true e = omega (arith, leb-true (at + length text) (length before) e)
        go false e = omega arith

    pub appends : Appends text at before (at + result_unwrap_or w 0) (put_mid at (length before - at) before rest)
    appends = record { moves = moved; leaves = ap (λ r. take at before ++ (r ++ drop (length before - at) (drop at before))) lies ∙ left_there (fits_at text at before) }
      where
        end : drop (length before - at) (drop at before) ≡ []
        end = rw (← length-drop at before) (drop-length (drop at before))

        left_there : (b : Bool) → take at before ++ ((if b then over text (drop at before) else drop at before) ++ drop (length before - at) (drop at before)) ≡ (if b then take at before ++ over text (drop at before) else before)
        left_there true = rw (end, append-nil)
        left_there false = rw (end, append-nil) (take-append-drop at before)

-- where a text has room
module _ (text before : Octets) (at : ℕ) (room : at + length text ≤ length before) where
  here : fits_at text at before ≡ true
  unfolding fits_at
  here = le-leb (at + length text) (length before) room

  pub moved_on : {next : ℕ} {after : Octets} → Appends text at before next after → next ≡ at + length text
  moved_on p = p.moves ∙ rw here

  stands : {next : ℕ} {after : Octets} → Appends text at before next after → after ≡ take at before ++ (text ++ drop (at + length text) before)
  unfolding over
  stands p = p.leaves ∙ rw (here, drop-drop)

  pub appended : {next : ℕ} {after : Octets} → next ≡ at + length text → after ≡ take at before ++ (text ++ drop (at + length text) before) → Appends text at before next after
  unfolding over
  appended e f = record { moves = rw here e; leaves = rw (here, drop-drop) f }

-- a text and then another after it are the two as one
module _ (a b before : Octets) (at : ℕ) (room : at + length (a ++ b) ≤ length before) {mid next : ℕ} {once twice : Octets} (p : Appends a at before mid once) (q : Appends b mid once next twice) where
  size : length (a ++ b) ≡ length a + length b
  size = length-append a b

  first_fits : at + length a ≤ length before
  first_fits = omega (arith, size)

  front : Octets
  front = take at before ++ a

  front_length : length front ≡ mid
  unfolding front
  front_length = rw (length-append, length-take-le at before (omega (arith, size)), moved_on a before at first_fits p)

  once_is : once ≡ front ++ drop (at + length a) before
  unfolding front
  once_is = stands a before at first_fits p ∙ sym (append_assoc (take at before) a (drop (at + length a) before))

  second_fits : mid + length b ≤ length once
  second_fits = rw (once_is, length-append, length-drop, front_length) (omega (arith, size, moved_on a before at first_fits p))

  pub appends_both : Appends (a ++ b) at before next twice
  unfolding front
  appends_both =
      appended (a ++ b) before at room
      (moved_on b once mid second_fits q ∙ rw (moved_on a before at first_fits p, size, add_assoc))
      (stands b once mid second_fits q
      ∙ rw (once_is, take_at front (drop (at + length a) before) mid front_length, ← drop-drop, drop_at front (drop (at + length a) before) mid front_length, drop-drop, size, append_assoc, append_assoc, add_assoc))

-- a text that was written from the start on
pub appends_whole : (text memory : Octets) {next : ℕ} {after : Octets} → length text ≤ length memory → Appends text 0 memory next after → Writes text memory (Ok next) after
unfolding over
appends_whole text memory room p =
    writes text memory room _ (moved_on text memory 0 (omega arith) p ∙ zero-add (length text)) _ (stands text memory 0 (omega arith) p ∙ rw zero-add)

-- three texts
pub appends_three : (a b c before : Octets) (at : ℕ) → at + length (a ++ b ++ c) ≤ length before → {mid next last : ℕ} {once twice thrice : Octets}
    → Appends a at before mid once → Appends b mid once next twice → Appends c next twice last thrice → Appends (a ++ b ++ c) at before last thrice
appends_three a b c before at room p q r = appends_both (a ++ b) c before at room (appends_both a b before at (omega (arith, length-append (a ++ b) c)) p q) r

-- what was appended within the memory stands at its place, what lies before it is as it was, and the memory is as long
module _ {text before after : Octets} {at next : ℕ} (room : at + length text ≤ length before) (p : Appends text at before next after) where
  laid : after ≡ take at before ++ over text (drop at before)
  unfolding fits_at
  laid = p.leaves ∙ rw (le-leb (at + length text) (length before) room)

  pub there : take (length text) (drop at after) ≡ text
  unfolding over
  there = rw (laid, drop_at (take at before) (text ++ drop (length text) (drop at before)) at (length-take-le at before (omega arith)), take-append_seam)

  pub before_it : (from size : ℕ) → from + size ≤ at → take size (drop from after) ≡ take size (drop from before)
  before_it from size h =
      let front : length (take at before) ≡ at = length-take-le at before (omega arith) in
      let rest : length (drop from (take at before)) ≡ at - from = rw (length-drop, front) in
      rw (
        laid,
        drop-append-le from (take at before) (over text (drop at before)) (omega arith),
        take-append-le size (drop from (take at before)) (over text (drop at before)) (omega arith),
        drop_take,
        take-take size (at - from) (drop from before) (omega arith),
      )

  pub as_long : length after ≡ length before
  unfolding over
  as_long = rw (laid, length-append, length-append) (omega (arith, room, length-take at before, length-drop (length text) (drop at before), length-drop at before))
