-- Laws of words, octet by octet.
use mathlib.Core.Path.{◌≡◌, refl, sym, ap, ◌∙◌}
use mathlib.Core.Bool.{Bool, true, false, false≢true}
use Prim.Native.Nat.{ℕ, suc, ◌+◌, ◌≤◌, ◌<◌}
use native.Mathlib.Omega.{arith}
use lib.ListN.{length, drop, get_or, drop_of_length-le}
use lib.Seq.{drop-cons}
use borrow.Author.Tests.{eq-eqb, ne_eqb}
use mathlib.Core.List.{[], ◌∷◌}
use Rattle.octets.specs.Octets.{Octets, octets, lower_octet, lower}
use Rattle.octets.proofs.TextLaws.{lowered}
use Rattle.field_states.specs.declared.Word.{Word}
use Rattle.field_states.specs.declared.State.{State}
use Rattle.field_states.specs.declared.Spelled.{Spelled}
use Rattle.field_states.specs.declared.Misread.{Misread}
use Rattle.std.specs.Prelude.{Result, Ok, Err, Some, None, if◌then◌else◌}
use Rattle.std.specs.Char.{to_ascii_lowercase}
use Rattle.field_states.specs.declared.Reader.{Reader}
use Rattle.field_states.specs.code.States.{word_text, spelled, reader, wrong, behind, spelling_step, step_from, step, opens, ninth, is_shut, is_wrong, read_before, is_spelled, again, word_size, turn}
use Rattle.field_word.specs.code.Repeated.{repeated_size}

-- an octet in lower case, as the library makes it
pub lowered_octet : (x : ℕ) → to_ascii_lowercase x ≡ lower_octet x
unfolding lower
lowered_octet x = ap (λ (l : Octets). get_or l 0 0) (lowered (x ∷ []))

module _ (t : Octets) (k x : ℕ) where
  pub spell_over : length t ≤ k → spelled (drop k t) x ≡ Spelled.Wrong
  unfolding spelled
  spell_over h = rw (drop_of_length-le t h)

  pub spell_other : k < length t → (lower_octet x ≡ get_or t k 0 → ⊥) → spelled (drop k t) x ≡ Spelled.Wrong
  unfolding spelled
  spell_other h i = rw (drop-cons t k 0 h, ne_eqb (lower_octet x) (get_or t k 0) i)

  pub spell_further : k < length t → lower_octet x ≡ get_or t k 0 → k + 1 < length t → spelled (drop k t) x ≡ Spelled.Further
  unfolding spelled
  spell_further h i j = let l : suc k < length t = omega arith in rw (drop-cons t k 0 h, eq-eqb (lower_octet x) (get_or t k 0) i, drop-cons t (suc k) 0 l)

  pub spell_whole : k < length t → lower_octet x ≡ get_or t k 0 → length t ≤ k + 1 → spelled (drop k t) x ≡ Spelled.Whole
  unfolding spelled
  spell_whole h i j = let l : length t ≤ suc k = omega arith in rw (drop-cons t k 0 h, eq-eqb (lower_octet x) (get_or t k 0) i, drop_of_length-le t l)

-- a word that goes on has octets left
no_further : (k : ℕ) (t : Octets) (x : ℕ) → spelled (drop k t) x ≡ Spelled.Further → k < length t
no_further k t x e = go (lib.Dec.leb (length t) k) refl
  where
    is_further : Spelled → Bool
    is_further Spelled.Wrong = false
    is_further Spelled.Further = true
    is_further Spelled.Whole = false

    go : (b : Bool) → lib.Dec.leb (length t) k ≡ b → k < length t
    go true f = absurd (false≢true (ap is_further (sym (spell_over t k x (borrow.Author.Tests.leb-true (length t) k f)) ∙ e)))
    go false f = borrow.Author.Tests.leb-false (length t) k f

word_length : (w : Word) → length (word_text w) ≤ 19
unfolding word_text octets
word_length Word.Name = omega arith
word_length Word.None = omega arith
word_length Word.Dkim = omega arith
word_length Word.Spf = omega arith

pub further_less : (w : Word) (k x : ℕ) → spelled (drop k (word_text w)) x ≡ Spelled.Further → k < 19
further_less w k x e = omega (arith, no_further k (word_text w) x e, word_length w)

-- ------------------------------------------------------------------ a turn within a word

module _ (w : Word) (k : ℕ) (d s : Bool) (x : ℕ) where
  pub turn_misspelled : spelled (drop k (word_text w)) x ≡ Spelled.Wrong → turn (reader (State.Spelling w k) d s) x ≡ Err Misread.Wrong
  unfolding turn ninth opens reader step step_from spelling_step wrong is_wrong is_shut
  turn_misspelled e = rw e

  pub turn_further : spelled (drop k (word_text w)) x ≡ Spelled.Further → turn (reader (State.Spelling w k) d s) x ≡ Ok (reader (State.Spelling w (k + 1)) d s)
  unfolding turn ninth opens reader step step_from spelling_step is_wrong again is_spelled
  turn_further e = rw e

behind_right : (w : Word) (d s : Bool) → is_wrong (behind w d s).state ≡ false
unfolding is_wrong is_shut behind reader
behind_right Word.Name d s = refl
behind_right Word.None d s = refl
behind_right Word.Dkim d s = refl
behind_right Word.Spf d s = refl

if_again : (b : Bool) (n : ℕ) (t : Result Reader Misread) → b ≡ true → (if b then Err (Misread.Again n) else t) ≡ Err (Misread.Again n)
if_again b n t e = rw e

if_on : (b : Bool) (n : ℕ) (t : Result Reader Misread) → b ≡ false → (if b then Err (Misread.Again n) else t) ≡ t
if_on b n t e = rw e

whole_turn : (w : Word) (k : ℕ) (d s : Bool) (x : ℕ) → spelled (drop k (word_text w)) x ≡ Spelled.Whole
    → turn (reader (State.Spelling w k) d s) x ≡ (if read_before w d s then Err (Misread.Again (length (word_text w))) else Ok (behind w d s))
unfolding turn ninth opens reader step step_from spelling_step again is_spelled word_size
whole_turn w k d s x e = rw (e, behind_right w d s)

refused : ℕ → Result Reader Misread
refused n = Err (Misread.Again n)

given : (d : Bool) (n m : ℕ) → (if d then Some n else None) ≡ Some m → (d ≡ true) × (n ≡ m)
given true n m e = (refl, cc)
given false n m e = absurd (cc)

not_given : (d : Bool) (n : ℕ) → (if d then Some n else None) ≡ None → d ≡ false
not_given true n e = absurd (cc)
not_given false n e = refl

repeated_by : (w : Word) (d s : Bool) (m : ℕ) → repeated_size w d s ≡ Some m → (read_before w d s ≡ true) × (length (word_text w) ≡ m)
unfolding repeated_size read_before word_text octets
repeated_by Word.Name d s m e = absurd (cc)
repeated_by Word.None d s m e = absurd (cc)
repeated_by Word.Dkim d s m e = given d 4 m e
repeated_by Word.Spf d s m e = given s 3 m e

fresh_by : (w : Word) (d s : Bool) → repeated_size w d s ≡ None → read_before w d s ≡ false
unfolding repeated_size read_before
fresh_by Word.Name d s e = refl
fresh_by Word.None d s e = refl
fresh_by Word.Dkim d s e = not_given d 4 e
fresh_by Word.Spf d s e = not_given s 3 e

module _ (w : Word) (k : ℕ) (d s : Bool) (x : ℕ) (e : spelled (drop k (word_text w)) x ≡ Spelled.Whole) where
  pub turn_repeated : (m : ℕ) → repeated_size w d s ≡ Some m → turn (reader (State.Spelling w k) d s) x ≡ Err (Misread.Again m)
  unfolding refused
  turn_repeated m h =
      let (a, b) = repeated_by w d s m h in
      whole_turn w k d s x e ∙ if_again (read_before w d s) (length (word_text w)) (Ok (behind w d s)) a ∙ ap refused b

  pub turn_whole : repeated_size w d s ≡ None → turn (reader (State.Spelling w k) d s) x ≡ Ok (behind w d s)
  turn_whole h = whole_turn w k d s x e ∙ if_on (read_before w d s) (length (word_text w)) (Ok (behind w d s)) (fresh_by w d s h)
