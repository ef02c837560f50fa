-- Of what can follow in a state: whether it may be empty, whether there is any, how long it is at least.
use mathlib.Core.Path.{◌≡◌, refl, ap, ◌∙◌}
use mathlib.Core.List.{[], ◌∷◌}
use mathlib.Core.Logic.{inl, inr}
use mathlib.Core.Bool.{Bool, true, false, ◌&&◌, ◌||◌, not, false≢true, true≢false}
use Prim.Native.Nat.{ℕ, zero, suc, ◌+◌, ◌-◌, ◌≤◌}
use native.Mathlib.Omega.{arith}
use lib.Dec.{eqb, eqb-suc-zero}
use lib.ListN.{length, drop, length-append}
use borrow.Author.Tests.{eqb-true, le-leb}
use Rattle.std.specs.Prelude.{if◌then◌else◌}
use Rattle.octets.specs.Octets.{Octets, octets, any, one_of, between, lower_octet, is_blank}
use Rattle.grammar.specs.Grammar.{Grammar, none, empty, ◌then◌, ◌or◌, many, Text}
use Rattle.grammar.specs.code.Finding.{has_empty, has_text}
use Rattle.grammar.proofs.SameLaws.{same_empty}
use Rattle.field.specs.Field.{optional, one_or_more, one, letter, literal, WSP, CRLF, FWS, comment, dkim, spf, dmarc_method, comma, closing}
use Rattle.field.proofs.Claimed.{dkim_length, spf_length}
use Rattle.field_states.specs.declared.Word.{Word}
use Rattle.field_states.specs.declared.Side.{Side}
use Rattle.field_states.specs.declared.Blanks.{Blanks}
use Rattle.field_states.specs.declared.State.{State}
use Rattle.field_states.specs.declared.Spelled.{Spelled}
use Rattle.field_states.specs.code.States.{word_text, spelled, reader, wrong, behind, spelling_step, after_blank, after_cr, after_lf, closes, inside_comment, outside_comment, token, escaped, after_other, between_step, step_from, is_open, opens, depth_of, is_shut, is_wrong, read_before, is_spelled, again, is_ended, ends}
use Rattle.field_states.proofs.BlankLaws.{blanks}
use Rattle.field_states.proofs.LevelLaws.{items, ahead, content, level, next, quotable, comment_not_empty, content_not_empty}
use Rattle.field_states.proofs.WordLaws.{left_of, letter_not_empty, Spells, wrong as misspelled, further, whole, spells_at, drop_next}
use Rattle.field_states.proofs.RestLaws.{Tails, close, after, ending, none_word, words, Lawful, tail, end_of, rest_between, rest_in}
use Rattle.field_states.proofs.TailLaws.{onward, onto, ends_by, fields, field_before, value, more, the, seen, repeatings, repeating_before, once_more, twice, repeats}

-- ------------------------------------------------------------------ whether it may be empty

empty_or_left : (a b : Grammar) → has_empty a ≡ false → has_empty (a or b) ≡ has_empty b
unfolding has_empty
empty_or_left a b e = rw (e, has_empty)

empty_then_left : (a b : Grammar) → has_empty a ≡ false → has_empty (a then b) ≡ false
unfolding has_empty
empty_then_left a b e = rw (e, has_empty)

empty_left_of : (t : Octets) (e : Grammar) → has_empty (left_of t e) ≡ false
unfolding left_of literal has_empty
empty_left_of [] e = refl
empty_left_of (c ∷ w) e = empty_then_left (letter c then literal w) e (empty_then_left (letter c) (literal w) (letter_not_empty c))

module _ (n : ℕ) (t : Tails) (l : Lawful n t) where
  empty_none_word : (d s : Bool) → has_empty (none_word n t d s) ≡ false
  unfolding none_word has_empty
  empty_none_word false false = empty_left_of (word_text Word.None) (ending n t Word.None false false)
  empty_none_word false true = refl
  empty_none_word true false = refl
  empty_none_word true true = refl

  empty_before : (d s : Bool) → has_empty (t.before d s) ≡ false
  unfolding words
  empty_before d s =
      same_empty (l.before_is d s)
      ∙ empty_or_left (left_of (word_text Word.Dkim) (ending n t Word.Dkim d s)) _ (empty_left_of (word_text Word.Dkim) (ending n t Word.Dkim d s))
      ∙ empty_or_left (left_of (word_text Word.Spf) (ending n t Word.Spf d s)) _ (empty_left_of (word_text Word.Spf) (ending n t Word.Spf d s))
      ∙ empty_none_word d s

  empty_after : (d s : Bool) → has_empty (after n t d s) ≡ false
  unfolding after close has_empty one
  empty_after false false = refl
  empty_after false true = refl
  empty_after true false = refl
  empty_after true true = refl

  empty_tail : (side : Side) (d s : Bool) → has_empty (tail n t side d s) ≡ false
  unfolding tail
  empty_tail Side.Before d s = empty_before d s
  empty_tail Side.After d s = empty_after d s

  empty_next : (side : Side) (k : ℕ) (d s : Bool) → has_empty (next n (tail n t side d s) k) ≡ false
  unfolding next ahead
  empty_next side zero d s = empty_or_left (comment n then items (comment n) (tail n t side d s)) (tail n t side d s) (empty_then_left (comment n) (items (comment n) (tail n t side d s)) (comment_not_empty n)) ∙ empty_tail side d s
  empty_next side (suc k) d s = empty_or_left _ _ (empty_then_left (content (n - suc k)) _ (content_not_empty (n - suc k))) ∙ empty_then_left (one 41) _ (unfold has_empty one in refl)

  empty_end : (side : Side) (k : ℕ) (d s : Bool) → has_empty (end_of n t side k d s) ≡ (closes side k && has_empty (t.end d s))
  unfolding end_of closes has_empty
  empty_end Side.Before k d s = refl
  empty_end Side.After zero d s = refl
  empty_end Side.After (suc k) d s = rw (eqb-suc-zero k)

  -- only where the field has ended
  pub empty_rest : (q : State) (d s : Bool) → has_empty (rest_in n t q d s) ≡ (ends q && has_empty (t.end d s))
  unfolding rest_in rest_between ends is_ended has_empty optional blanks one_or_more one WSP CRLF quotable
  empty_rest (State.Spelling w k) d s = empty_left_of (drop k (word_text w)) (ending n t w d s)
  empty_rest (State.Between side Blanks.Fresh k) d s = empty_next side k d s
  empty_rest (State.Between side Blanks.Blank k) d s = empty_next side k d s
  empty_rest (State.Between side Blanks.Cr k) d s = refl
  empty_rest (State.Between side Blanks.Line k) d s = empty_end side k d s
  empty_rest (State.Between side Blanks.Folded k) d s = empty_next side k d s
  empty_rest (State.Between side Blanks.Escaped k) d s = refl
  empty_rest (State.Between side Blanks.Ending k) d s = refl
  empty_rest (State.Between side Blanks.Ended k) d s = refl
  empty_rest (State.Between side Blanks.Wrong k) d s = refl

-- nothing can follow what is wrong
pub wrong_rest : (n : ℕ) (t : Tails) (q : State) (d s : Bool) → is_wrong q ≡ true → rest_in n t q d s ≡ none
unfolding rest_in rest_between is_wrong is_shut
wrong_rest n t (State.Spelling w k) d s h = absurd (false≢true h)
wrong_rest n t (State.Between side Blanks.Fresh k) d s h = absurd (false≢true h)
wrong_rest n t (State.Between side Blanks.Blank k) d s h = absurd (false≢true h)
wrong_rest n t (State.Between side Blanks.Cr k) d s h = absurd (false≢true h)
wrong_rest n t (State.Between side Blanks.Line k) d s h = absurd (false≢true h)
wrong_rest n t (State.Between side Blanks.Folded k) d s h = absurd (false≢true h)
wrong_rest n t (State.Between side Blanks.Escaped k) d s h = absurd (false≢true h)
wrong_rest n t (State.Between side Blanks.Ending k) d s h = absurd (false≢true h)
wrong_rest n t (State.Between side Blanks.Ended k) d s h = absurd (false≢true h)
wrong_rest n t (State.Between side Blanks.Wrong k) d s h = refl

-- ------------------------------------------------------------------ whether there is any, of the field

has_or_right : (a b : Grammar) → has_text b ≡ true → has_text (a or b) ≡ true
unfolding has_text
has_or_right a b h = go (has_text a) refl
  where
    go : (c : Bool) → has_text a ≡ c → has_text (a or b) ≡ true
    go true e = rw (e, has_text)
    go false e = rw (e, has_text) h

has_or_left : (a b : Grammar) → has_text a ≡ true → has_text (a or b) ≡ true
unfolding has_text
has_or_left a b h = rw (h, has_text)

has_then : (a b : Grammar) → has_text a ≡ true → has_text b ≡ true → has_text (a then b) ≡ true
unfolding has_text
has_then a b h i = rw (h, has_text) i

has_one : (c : ℕ) → has_text (one c) ≡ true
unfolding one has_text
has_one c = le-leb c c (omega arith)

has_letter : (c : ℕ) → has_text (letter c) ≡ true
unfolding letter
has_letter c = go (between 97 122 c) refl
  where
    go : (b : Bool) → between 97 122 c ≡ b → has_text (letter c) ≡ true
    go true e = rw e (has_or_left (one c) (one (c - 32)) (has_one c))
    go false e = rw e (has_one c)

has_word : (w : Octets) → has_text (literal w) ≡ true
unfolding literal has_text
has_word [] = refl
has_word (c ∷ w) = has_then (letter c) (literal w) (has_letter c) (has_word w)

-- a word that is begun has letters left
unfoldable pub Begun : State → Type 0
Begun (State.Spelling w k) = (c : ℕ) × (v : Octets) × (drop k (word_text w) ≡ c ∷ v)
Begun (State.Between side b k) = Unit {0}

module _ (n : ℕ) where
  has_items : (i e : Grammar) → has_text e ≡ true → has_text (items i e) ≡ true
  unfolding items has_text optional
  has_items i e h = h

  has_level : (k : Grammar) → has_text k ≡ true → (d : ℕ) → has_text (level n k d) ≡ true
  unfolding level
  has_level k h zero = has_items (comment n) k h
  has_level k h (suc d) = has_items (content (n - suc d)) (one 41 then level n k d) (has_then (one 41) (level n k d) (has_one 41) (has_level k h d))

  has_next : (k : Grammar) → has_text k ≡ true → (d : ℕ) → has_text (next n k d) ≡ true
  unfolding next ahead
  has_next k h zero = has_or_right (comment n then items (comment n) k) k h
  has_next k h (suc d) = has_or_right (content (n - suc d) then items (content (n - suc d)) (one 41 then level n k d)) (one 41 then level n k d) (has_then (one 41) (level n k d) (has_one 41) (has_level k h d))

  has_before : (d s : Bool) → has_text (field_before n d s) ≡ true
  unfolding field_before value more dmarc_method dkim spf closing CRLF optional literal octets letter between one has_text
  has_before false false = refl
  has_before false true = refl
  has_before true false = refl
  has_before true true = refl

  has_close : (d s : Bool) → has_text (close n (fields n) d s) ≡ true
  unfolding close one has_text
  has_close d s = refl

  has_after : (d s : Bool) → has_text (after n (fields n) d s) ≡ true
  unfolding after
  has_after false false = has_close false false
  has_after false true = has_or_right (one 44 then level n (field_before n false true) 0) _ (has_close false true)
  has_after true false = has_or_right (one 44 then level n (field_before n true false) 0) _ (has_close true false)
  has_after true true = has_or_right (one 44 then level n (field_before n true true) 0) _ (has_close true true)

  has_tail : (side : Side) (d s : Bool) → has_text (tail n (fields n) side d s) ≡ true
  unfolding tail
  has_tail Side.Before d s = has_before d s
  has_tail Side.After d s = has_after d s

  has_onward : has_text (onward n) ≡ true
  unfolding onward
  has_onward = has_level (one 44 then level n (dmarc_method then more n) 0 or ends_by n empty) (has_or_right (one 44 then level n (dmarc_method then more n) 0) (ends_by n empty) (unfold ends_by one has_text in refl)) 0

  pub has_ending : (w : Word) (d s : Bool) → has_text (ending n (fields n) w d s) ≡ true
  unfolding ending
  has_ending Word.Name d s = has_level (field_before n d s) (has_before d s) 0
  has_ending Word.None d s = has_level (after n (fields n) d s) (has_after d s) 0
  has_ending Word.Dkim true s = has_onward
  has_ending Word.Dkim false s = has_level (after n (fields n) true s) (has_after true s) 0
  has_ending Word.Spf d true = has_onward
  has_ending Word.Spf d false = has_level (after n (fields n) d true) (has_after d true) 0

  has_between : (b : Blanks) (side : Side) (k : ℕ) (d s : Bool) → is_shut b ≡ false → has_text (rest_between n (fields n) b side k d s) ≡ true
  unfolding rest_between is_shut optional blanks one_or_more WSP CRLF one quotable has_text
  has_between Blanks.Fresh side k d s h = has_next (tail n (fields n) side d s) (has_tail side d s) k
  has_between Blanks.Blank side k d s h = has_next (tail n (fields n) side d s) (has_tail side d s) k
  has_between Blanks.Cr side k d s h = has_or_left (one_or_more WSP then next n (tail n (fields n) side d s) k) (end_of n (fields n) side k d s) (has_next (tail n (fields n) side d s) (has_tail side d s) k)
  has_between Blanks.Line side k d s h = has_or_left (one_or_more WSP then next n (tail n (fields n) side d s) k) (end_of n (fields n) side k d s) (has_next (tail n (fields n) side d s) (has_tail side d s) k)
  has_between Blanks.Folded side k d s h = has_next (tail n (fields n) side d s) (has_tail side d s) k
  has_between Blanks.Escaped side k d s h = has_level (tail n (fields n) side d s) (has_tail side d s) k
  has_between Blanks.Ending side k d s h = refl
  has_between Blanks.Ended side k d s h = refl
  has_between Blanks.Wrong side k d s h = absurd (true≢false h)

  pub has_rest : (q : State) (d s : Bool) → Begun q → is_wrong q ≡ false → has_text (rest_in n (fields n) q d s) ≡ true
  unfolding rest_in is_wrong left_of Begun
  has_rest (State.Spelling w k) d s b h = rw b.2 (has_then (literal (b.0 ∷ b.1)) (ending n (fields n) w d s) (has_word (b.0 ∷ b.1)) (has_ending w d s))
  has_rest (State.Between side b k) d s u h = has_between b side k d s h

-- ------------------------------------------------------------------ what a step makes

either_way : (P : State → Type 0) (b : Bool) {u v : State} → P u → P v → P (if b then u else v)
either_way P true h i = h
either_way P false h i = i

-- what holds of every state between words, and of a word begun, holds behind an octet between words
module _ (P : State → Type 0) (side : Side) (k : ℕ) (d s : Bool) (x : ℕ)
    (closed : P (State.Between side Blanks.Fresh (k - 1)))
    (here : (b : Blanks) → P (State.Between side b k))
    (afresh : P (State.Between Side.Before Blanks.Fresh 0))
    (shut : P wrong)
    (spelling : (w : Word) → P (State.Spelling w 1)) where
  outside_keeps : P (outside_comment side d s x)
  unfolding outside_comment
  outside_keeps = go side
    where
      go : (side : Side) → P (outside_comment side d s x)
      go Side.Before = either_way P (eqb (lower_octet x) 100) (spelling Word.Dkim) (either_way P (eqb (lower_octet x) 115) (spelling Word.Spf) (either_way P (eqb (lower_octet x) 110 && not (d || s)) (spelling Word.None) shut))
      go Side.After = either_way P (eqb x 44 && (d || s)) afresh shut

  inside_keeps : P (inside_comment side k x)
  unfolding inside_comment
  inside_keeps = either_way P (eqb x 41) closed (either_way P (eqb x 92) (here Blanks.Escaped) (either_way P (between 33 126 x) (here Blanks.Fresh) shut))

  token_keeps : (eqb x 40 ≡ true → P (State.Between side Blanks.Fresh (k + 1))) → P (token side k d s x)
  unfolding token
  token_keeps o = go (eqb x 40) refl
    where
      go : (b : Bool) → eqb x 40 ≡ b → P (token side k d s x)
      go true e = rw e (o e)
      go false e = rw e (either_way P (eqb k 0) outside_keeps inside_keeps)

  other_keeps : (b : Blanks) → (opens (State.Between side b k) x ≡ true → P (State.Between side Blanks.Fresh (k + 1))) → P (after_other b side k d s x)
  unfolding after_other opens is_open escaped
  other_keeps Blanks.Fresh o = token_keeps o
  other_keeps Blanks.Blank o = token_keeps o
  other_keeps Blanks.Cr o = shut
  other_keeps Blanks.Line o = shut
  other_keeps Blanks.Folded o = token_keeps o
  other_keeps Blanks.Escaped o = either_way P (between 33 126 x) (here Blanks.Fresh) shut
  other_keeps Blanks.Ending o = shut
  other_keeps Blanks.Ended o = shut
  other_keeps Blanks.Wrong o = shut

  between_keeps : (b : Blanks) → (opens (State.Between side b k) x ≡ true → P (State.Between side Blanks.Fresh (k + 1))) → P (between_step side b k d s x)
  unfolding between_step
  between_keeps b o =
      either_way P (is_blank x) (here (after_blank b))
      (either_way P (eqb x 13) (here (after_cr (closes side k) b)) (either_way P (eqb x 10) (here (after_lf b)) (other_keeps b o)))

-- a word that a step begins or goes on with has letters left
begun_word : (w : Word) → Begun (State.Spelling w 1)
unfolding Begun word_text octets
begun_word Word.Name = (100, octets "entity-alignment:", refl)
begun_word Word.None = (111, octets "ne", refl)
begun_word Word.Dkim = (107, octets "im", refl)
begun_word Word.Spf = (112, octets "f", refl)

begun_behind : (w : Word) (d s : Bool) → Begun (behind w d s).state
unfolding Begun behind reader
begun_behind Word.Name d s = tt
begun_behind Word.None d s = tt
begun_behind Word.Dkim d s = tt
begun_behind Word.Spf d s = tt

begun_spelling : (x : ℕ) (w : Word) (k : ℕ) (d s : Bool) (r : Spelled) → Spells x none (drop k (word_text w)) r → Begun (spelling_step r w k d s).state
unfolding spelling_step reader wrong Begun
begun_spelling x w k d s r (misspelled i) = tt
begun_spelling x w k d s r (further a b u e i) = (b, u, drop_next k (word_text w) a (b ∷ u) e)
begun_spelling x w k d s r (whole i) = begun_behind w d s

pub begun_step : (q : State) (d s : Bool) (x : ℕ) → Begun (step_from q d s x).state
unfolding step_from reader
begun_step (State.Spelling w k) d s x = begun_spelling x w k d s (spelled (drop k (word_text w)) x) (spells_at x none w k)
begun_step (State.Between side b k) d s x = between_keeps Begun side k d s x (unfold Begun in tt) (λ b. unfold Begun in tt) (unfold Begun in tt) (unfold Begun wrong in tt) begun_word b (λ o. unfold Begun in tt)

-- how many comments are open behind an octet
depth_behind : (w : Word) (d s : Bool) → depth_of (behind w d s).state ≡ 0
unfolding depth_of behind reader
depth_behind Word.Name d s = refl
depth_behind Word.None d s = refl
depth_behind Word.Dkim d s = refl
depth_behind Word.Spf d s = refl

depth_spelling : (r : Spelled) (w : Word) (k : ℕ) (d s : Bool) → depth_of (spelling_step r w k d s).state ≡ 0
unfolding spelling_step reader wrong depth_of
depth_spelling Spelled.Wrong w k d s = refl
depth_spelling Spelled.Further w k d s = refl
depth_spelling Spelled.Whole w k d s = depth_behind w d s

pub depth_step : (q : State) (d s : Bool) (x m : ℕ) → (opens q x ≡ true → suc (depth_of q) ≤ m) → depth_of q ≤ m → depth_of (step_from q d s x).state ≤ m
unfolding step_from reader depth_of wrong
depth_step (State.Spelling w k) d s x m h i = omega (arith, depth_spelling (spelled (drop k (word_text w)) x) w k d s)
depth_step (State.Between side b k) d s x m h i =
    between_keeps (λ q. depth_of q ≤ m) side k d s x (omega arith) (λ b. i) (omega arith) (omega arith) (λ w. omega arith) b (λ o. omega (arith, h o))

-- a word that is whole is not wrong
behind_right : (w : Word) (d s : Bool) → is_wrong (behind w d s).state ≡ false
unfolding is_wrong is_shut behind reader
behind_right Word.Name d s = refl
behind_right Word.None d s = refl
behind_right Word.Dkim d s = refl
behind_right Word.Spf d s = refl

spelling_right : (r : Spelled) (w : Word) (k : ℕ) (d s : Bool) → is_spelled r ≡ true → is_wrong (spelling_step r w k d s).state ≡ false
unfolding spelling_step is_spelled
spelling_right Spelled.Wrong w k d s h = absurd (false≢true h)
spelling_right Spelled.Further w k d s h = absurd (false≢true h)
spelling_right Spelled.Whole w k d s h = behind_right w d s

and_left : (a b : Bool) → (a && b) ≡ true → a ≡ true
and_left true b e = refl
and_left false b e = absurd (false≢true e)

pub again_right : (q : State) (d s : Bool) (x : ℕ) → again q d s x ≡ true → is_wrong (step_from q d s x).state ≡ false
unfolding again step_from
again_right (State.Spelling w k) d s x h = spelling_right (spelled (drop k (word_text w)) x) w k d s (and_left (is_spelled (spelled (drop k (word_text w)) x)) (read_before w d s) h)
again_right (State.Between side b k) d s x h = absurd (false≢true h)

-- nor is a comment that begins
forty : (q : State) (d s : Bool) → opens q 40 ≡ true → is_wrong (step_from q d s 40).state ≡ false
unfolding opens is_open step_from between_step reader is_blank one_of any after_other token is_wrong is_shut
forty (State.Spelling w k) d s h = absurd (false≢true h)
forty (State.Between side Blanks.Fresh k) d s h = refl
forty (State.Between side Blanks.Blank k) d s h = refl
forty (State.Between side Blanks.Cr k) d s h = absurd (false≢true h)
forty (State.Between side Blanks.Line k) d s h = absurd (false≢true h)
forty (State.Between side Blanks.Folded k) d s h = refl
forty (State.Between side Blanks.Escaped k) d s h = absurd (false≢true h)
forty (State.Between side Blanks.Ending k) d s h = absurd (false≢true h)
forty (State.Between side Blanks.Ended k) d s h = absurd (false≢true h)
forty (State.Between side Blanks.Wrong k) d s h = absurd (false≢true h)

pub opens_forty : (q : State) (x : ℕ) → opens q x ≡ true → x ≡ 40
unfolding opens
opens_forty (State.Spelling w k) x h = absurd (false≢true h)
opens_forty (State.Between side b k) x h = eqb-true x 40 (and_right (is_open b) (eqb x 40) h)
  where
    and_right : (a b : Bool) → (a && b) ≡ true → b ≡ true
    and_right true b e = e
    and_right false b e = absurd (false≢true e)

pub opens_right : (q : State) (d s : Bool) (x : ℕ) → opens q x ≡ true → is_wrong (step_from q d s x).state ≡ false
opens_right q d s x h = let e = opens_forty q x h in rw e (forty q d s (rw e at h))

-- ------------------------------------------------------------------ how long it is at least, of a repeated method

abbrev pub Long : ℕ → Grammar → Type 0
Long m g = (u : Octets) → Text g u → m ≤ length u

long_then : (m : ℕ) (a b : Grammar) → Long m b → Long m (a then b)
unfolding Text
long_then m a b h u t = omega (arith, h t.1 t.4, ap length t.2, length-append t.0 t.1)

long_or : (m : ℕ) (a b : Grammar) → Long m a → Long m b → Long m (a or b)
unfolding Text
long_or m a b h i u (inl t) = h u t
long_or m a b h i u (inr t) = i u t

long_none : (m : ℕ) → Long m none
unfolding Text
long_none m u t = absurd t

-- the octets of the method
unfoldable pub size : Bool → ℕ
size true = 4
size false = 3

module _ (n : ℕ) (m : ℕ) (k : Grammar) (h : Long m k) where
  long_items : (i e : Grammar) → Long m e → Long m (items i e)
  unfolding items
  long_items i e g = long_then m (many (optional FWS then i)) (optional FWS then e) (long_then m (optional FWS) e g)

  long_level : (d : ℕ) → Long m (level n k d)
  unfolding level
  long_level zero = long_items (comment n) k h
  long_level (suc d) = long_items (content (n - suc d)) (one 41 then level n k d) (long_then m (one 41) (level n k d) (long_level d))

  long_next : (d : ℕ) → Long m (next n k d)
  unfolding next ahead
  long_next zero = long_or m (comment n then items (comment n) k) k (long_then m (comment n) (items (comment n) k) (long_items (comment n) k h)) h
  long_next (suc d) =
      let e = one 41 then level n k d in
      let i = content (n - suc d) in
      let g = long_then m (one 41) (level n k d) (long_level d) in
      long_or m (i then items i e) e (long_then m i (items i e) (long_items i e g)) g

module _ (n : ℕ) (m : Bool) where
  long_the : Long (size m) (the n m)
  unfolding size the
  long_the = go m
    where
      go : (m : Bool) → Long (size m) (the n m)
      go true u t = omega (arith, dkim_length u t)
      go false u t = omega (arith, spf_length u t)

  long_once : Long (size m) (once_more n m)
  unfolding once_more
  long_once = long_then (size m) (many (dmarc_method then comma n)) (the n m) long_the

  long_twice : Long (size m) (twice n m)
  unfolding twice
  long_twice = long_then (size m) (many (dmarc_method then comma n)) (the n m then comma n then once_more n m) (long_then (size m) (the n m) (comma n then once_more n m) (long_then (size m) (comma n) (once_more n m) long_once))

  long_before : (d s : Bool) → Long (size m) (repeating_before n m d s)
  unfolding repeating_before
  long_before d s = go (seen n m d s)
    where
      go : (b : Bool) → Long (size m) (if b then once_more n m else twice n m)
      go true = long_once
      go false = long_twice

  long_close : (d s : Bool) → Long (size m) (close n (repeatings n m) d s)
  unfolding close
  long_close d s = long_then (size m) (one 13) (one 10 then none) (long_then (size m) (one 10) none (long_none (size m)))

  long_after : (d s : Bool) → Long (size m) (after n (repeatings n m) d s)
  unfolding after
  long_after false false = long_close false false
  long_after false true = long_or (size m) _ _ (long_then (size m) (one 44) _ (long_level n (size m) _ (long_before false true) 0)) (long_close false true)
  long_after true false = long_or (size m) _ _ (long_then (size m) (one 44) _ (long_level n (size m) _ (long_before true false) 0)) (long_close true false)
  long_after true true = long_or (size m) _ _ (long_then (size m) (one 44) _ (long_level n (size m) _ (long_before true true) 0)) (long_close true true)

  long_tail : (side : Side) (d s : Bool) → Long (size m) (tail n (repeatings n m) side d s)
  unfolding tail
  long_tail Side.Before d s = long_before d s
  long_tail Side.After d s = long_after d s

  -- where a comment may begin
  pub long_rest : (q : State) (d s : Bool) (x : ℕ) → opens q x ≡ true → Long (size m) (rest_in n (repeatings n m) q d s)
  unfolding opens is_open rest_in rest_between
  long_rest (State.Spelling w k) d s x h = absurd (false≢true h)
  long_rest (State.Between side Blanks.Fresh k) d s x h = long_then (size m) (optional FWS) _ (long_next n (size m) (tail n (repeatings n m) side d s) (long_tail side d s) k)
  long_rest (State.Between side Blanks.Blank k) d s x h = long_then (size m) blanks _ (long_next n (size m) (tail n (repeatings n m) side d s) (long_tail side d s) k)
  long_rest (State.Between side Blanks.Cr k) d s x h = absurd (false≢true h)
  long_rest (State.Between side Blanks.Line k) d s x h = absurd (false≢true h)
  long_rest (State.Between side Blanks.Folded k) d s x h = long_then (size m) (many WSP) _ (long_next n (size m) (tail n (repeatings n m) side d s) (long_tail side d s) k)
  long_rest (State.Between side Blanks.Escaped k) d s x h = absurd (false≢true h)
  long_rest (State.Between side Blanks.Ending k) d s x h = absurd (false≢true h)
  long_rest (State.Between side Blanks.Ended k) d s x h = absurd (false≢true h)
  long_rest (State.Between side Blanks.Wrong k) d s x h = absurd (false≢true h)

-- behind SPF, of DKIM that is repeated
pub long_behind : (n : ℕ) (d s : Bool) → Long 4 (ending n (repeatings n true) Word.Spf d s)
unfolding ending repeats size onto ends_by
long_behind n d true = long_level n 4 _ (long_or 4 _ _ (long_then 4 (one 44) _ (long_level n 4 _ (long_before n true d true) 0)) (long_then 4 (one 13) _ (long_then 4 (one 10) none (long_none 4)))) 0
long_behind n d false = long_level n 4 (after n (repeatings n true) d true) (long_after n true d true) 0
