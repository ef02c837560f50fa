-- Laws of parts of lent memory: parts as the code takes them, and a text written on from where another ended.
use Rattle.std.specs.Prelude.{Result, Option, None, Some, option_map}
use mathlib.Core.Path.{◌≡◌, refl, ap, sym, ◌∙◌}
use mathlib.Core.List.{[], ◌++◌, append-nil, append_assoc}
use mathlib.Core.Bool.{true, false≢true}
use Prim.Native.Nat.{ℕ, ◌+◌, ◌-◌, ◌≤◌}
use native.Mathlib.Omega.{arith}
use borrow.Author.Tests.{le-leb}
use borrow.Rule.Slice.PartMut.{put_mid}
use lib.ListN.{length, take, drop, length-drop, length-append}
use lib.Seq.{take_at, drop_at, drop-drop, drop-length}
use Rattle.octets.specs.Octets.{Octets}
use Rattle.octets.specs.Lent.{over, fits, left, Writes}
use Rattle.octets.proofs.LentLaws.{rest_of}
use Rattle.txt_read.specs.code.Steps.{is_there, or_empty, Room}
use Rattle.octets.specs.declared.Refusal.{Refusal}

-- the octets of l from a to b, and from a on
abbrev pub part : ℕ → ℕ → Octets → Octets
part a b l = take (b - a) (drop a l)

abbrev pub rest : ℕ → Octets → Octets
rest a l = part a (length l) l

-- a writer leaves its text in front where there is room
pub wrote : (s m : Octets) (r : Result ℕ Refusal) (m₁ : Octets) → length s ≤ length m → Writes s m r m₁ → m₁ ≡ over s m
unfolding left fits
wrote s m r m₁ h w = rw (le-leb _ _ h) at w.leaves

-- a text in front of what could be read
unfoldable pub onto : Octets → Option Octets → Option Octets
onto s o = option_map (λ t. s ++ t) o

pub onto_there : (s : Octets) (o : Option Octets) → is_there (onto s o) ≡ is_there o
unfolding onto
onto_there s None = refl
onto_there s (Some t) = refl

pub onto_text : (s : Octets) (o : Option Octets) → is_there (onto s o) ≡ true → or_empty (onto s o) ≡ s ++ or_empty o
unfolding onto
onto_text s None r = absurd (false≢true r)
onto_text s (Some t) r = refl

-- the first k octets of a text are written, and the others are still to come, from there on
pub record Begun (text others : Option Octets) (before now : Octets) (k : ℕ) : Type 0 where
  pub within : k ≤ length now
  pub room : Room others (rest k now)
  pub total : k + length (or_empty others) ≡ length (or_empty text)
  pub leaves : (after : Octets) → after ≡ over (or_empty others) (rest k now) → put_mid k (length now - k) now after ≡ over (or_empty text) before

module _ (s m : Octets) (o : Option Octets) (room : Room (onto s o) m) where
  whole : or_empty (onto s o) ≡ s ++ or_empty o
  whole = onto_text s o room.reads

  both_fit : length s + length (or_empty o) ≤ length m
  both_fit = omega (arith, room.fits, ap length whole, length-append s (or_empty o))

  pub first_fits : length s ≤ length m
  first_fits = omega (arith, both_fit)

  module _ (k : ℕ) (e : k ≡ length s) (m₁ : Octets) (e₁ : m₁ ≡ over s m) where
    front : take k m₁ ≡ s
    unfolding over
    front = rw (e₁, take_at s (drop (length s) m) k (sym e))

    -- the text is read where it was written
    pub written : part 0 k m₁ ≡ s
    written = let z : k - 0 ≡ k = omega arith in rw z front

    unfilled : rest k m₁ ≡ drop k m
    unfolding over
    unfilled = rw (rest_of m₁ k, e₁, drop_at s (drop (length s) m) k (sym e), e)

    pub begun : Begun (onto s o) o m m₁ k
    unfolding over
    begun = record {
      within = rw (e₁, length-append) (omega arith);
      room = record { reads = sym (onto_there s o) ∙ room.reads; fits = rw (unfilled, length-drop) (omega (arith, both_fit)) };
      total = rw (whole, length-append, e);
      leaves = λ m₂ e₂.
          let t = or_empty o in
          let e₃ : m₂ ≡ t ++ drop (length t) (drop k m) = rw unfilled at e₂ in
          let e₄ : drop (length m₁ - k) (drop k m₁) ≡ [] = rw (← length-drop k m₁) (drop-length (drop k m₁)) in
          rw (front, e₄, e₃, append-nil, drop-drop, whole, length-append, ← e, append_assoc);
    }
