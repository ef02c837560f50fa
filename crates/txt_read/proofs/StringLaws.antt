-- Laws of character-strings: the first one, and what follows it.
use Rattle.std.specs.Prelude.{Result, Option, None, Some}
use mathlib.Core.Path.{◌≡◌, refl, ap, sym, ◌∙◌}
use mathlib.Core.List.{[], ◌∷◌}
use mathlib.Core.Bool.{Bool, true, false, false≢true}
use Prim.Native.Nat.{ℕ, zero, suc, ◌+◌, ◌-◌, ◌≤◌, ◌<◌}
use native.Mathlib.Numerals.{add-one}
use native.Mathlib.Omega.{arith}
use borrow.Author.Tests.{leb-true, leb-false}
use lib.Dec.{leb}
use lib.ListN.{length, take, drop, get_or, length-drop}
use lib.Seq.{length-take-le}
use Rattle.octets.specs.Octets.{Octets}
use Rattle.octets.specs.Lent.{Writes}
use Rattle.octets.proofs.LentLaws.{rest_of}
use Rattle.txt.specs.Answers.{push, joined, rdata_text}
use Rattle.txt_read.specs.code.Steps.{is_there, Room}
use Rattle.txt_read.proofs.ScratchLaws.{part, rest, wrote, onto, onto_there, first_fits, Begun, begun}
use Rattle.octets.specs.declared.Refusal.{Refusal}

push_onto : (b : ℕ) (s : Octets) (o : Option Octets) → push b (onto s o) ≡ onto (b ∷ s) o
unfolding push onto
push_onto b s None = refl
push_onto b s (Some t) = refl

onto_nothing : (o : Option Octets) → o ≡ onto [] o
unfolding onto
onto_nothing None = refl
onto_nothing (Some t) = refl

-- a character-string that fits, and the next one after it
string_fits : (n : ℕ) (bs : Octets) → n ≤ length bs → joined n bs ≡ onto (take n bs) (joined 0 (drop n bs))
unfolding joined
string_fits zero bs h = onto_nothing (joined 0 bs)
string_fits (suc n) [] h = absurd (omega arith)
string_fits (suc n) (b ∷ bs) h = ap (push b) (string_fits n bs (omega arith)) ∙ push_onto b (take n bs) (joined 0 (drop n bs))

-- one that runs past the end
string_short : (n : ℕ) (bs : Octets) → length bs < n → joined n bs ≡ None
unfolding joined push
string_short zero bs h = absurd (omega arith)
string_short (suc n) [] h = refl
string_short (suc n) (b ∷ bs) h = ap (push b) (string_short n bs (omega arith))

first_short : (l : Octets) → 0 < length l → length l < get_or l 0 0 + 1 → joined 0 l ≡ None
unfolding joined
first_short [] h r = absurd (omega arith)
first_short (n ∷ bs) h r = string_short n bs (omega arith)

first_string : (l : Octets) → 0 < length l → get_or l 0 0 + 1 ≤ length l → joined 0 l ≡ onto (take (get_or l 0 0) (drop 1 l)) (joined 0 (drop (get_or l 0 0 + 1) l))
unfolding joined
first_string [] h r = absurd (omega arith)
first_string (n ∷ bs) h r = rw (add-one n) (string_fits n bs (omega arith))

pub no_strings : (l : Octets) → length l ≡ 0 → joined 0 l ≡ Some []
unfolding joined
no_strings [] h = refl
no_strings (n ∷ bs) h = absurd (omega arith)

pub no_text : (l : Octets) → length l ≡ 0 → rdata_text l ≡ None
unfolding rdata_text
no_text [] h = refl
no_text (n ∷ bs) h = absurd (omega arith)

pub text_joined : (l : Octets) → (length l ≡ 0 → ⊥) → rdata_text l ≡ joined 0 l
unfolding rdata_text joined
text_joined [] h = absurd (h refl)
text_joined (n ∷ bs) h = refl

-- a text that could be read is not that of empty RDATA
pub read_joined : (l : Octets) → is_there (rdata_text l) ≡ true → rdata_text l ≡ joined 0 l
read_joined l t = text_joined l λ e. false≢true (sym (ap is_there (no_text l e)) ∙ t)

-- character-strings, the first of which has k octets
module _ (l : Octets) (k : ℕ) (e : k ≡ get_or l 0 0) (h : 0 < length l) where
  pub past_the_end : length l < k + 1 → is_there (joined 0 l) ≡ false
  past_the_end r = rw (first_short l h (rw (← e) r))

  pub apart : k + 1 ≤ length l → joined 0 l ≡ onto (part 1 (k + 1) l) (joined 0 (rest (k + 1) l))
  apart r =
      let q : k + 1 - 1 ≡ k = omega arith in
      rw (q, rest_of l (k + 1), e) (first_string l h (rw (← e) r))

  pub one_passed : k + 1 ≤ length l → is_there (joined 0 l) ≡ is_there (joined 0 (rest (k + 1) l))
  one_passed r = rw (apart r, onto_there)

  -- one turn of the copier: the first string is written to the front of memory m
  module _ (m : Octets) (room : Room (joined 0 l) m) where
    pub string_within : k + 1 ≤ length l
    string_within = go (leb (k + 1) (length l)) refl
      where
        go : (b : Bool) → leb (k + 1) (length l) ≡ b → k + 1 ≤ length l
        go true p = leb-true (k + 1) (length l) p
        go false p = absurd (false≢true (sym (past_the_end (leb-false (k + 1) (length l) p)) ∙ room.reads))

    pub string_length : k ≡ length (part 1 (k + 1) l)
    string_length =
        let q : k + 1 - 1 ≡ k = omega arith in
        rw (q, length-take-le k (drop 1 l) (omega (arith, string_within, length-drop 1 l)))

    pub string_written : (r : Result ℕ Refusal) (m₁ : Octets) → Writes (part 1 (k + 1) l) m r m₁ → Begun (joined 0 l) (joined 0 (rest (k + 1) l)) m m₁ k
    string_written r m₁ w =
        let s = part 1 (k + 1) l in
        let o = joined 0 (rest (k + 1) l) in
        let both : Room (onto s o) m = rw (apart string_within) at room in
        rw (apart string_within) (begun s m o both k string_length m₁ (wrote s m r m₁ (first_fits s m o both) w))
