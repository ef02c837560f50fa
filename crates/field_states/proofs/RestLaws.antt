-- What can follow in a state: of any grammar of fields, by what stands before and after its words.
use mathlib.Core.Path.{◌≡◌, refl, sym, subst, ◌∙◌}
use mathlib.Core.List.{[], ◌∷◌}
use mathlib.Core.Logic.{◌⊎◌, inl, inr}
use mathlib.Core.Bool.{Bool, true, false, ◌&&◌, ◌||◌, false≢true}
use Prim.Native.Nat.{ℕ, zero, suc, ◌+◌, ◌-◌, ◌≤◌, ◌<◌}
use native.Mathlib.Omega.{arith}
use native.Mathlib.Numerals.{add-one}
use lib.Dec.{eqb, eqb-suc-zero}
use lib.ListN.{drop}
use borrow.Author.Tests.{eqb-true, eqb-false, eq-eqb}
use Rattle.std.specs.Prelude.{if◌then◌else◌}
use Rattle.octets.specs.Octets.{octets, any, one_of, between, lower_octet, is_blank}
use Rattle.grammar.specs.Grammar.{Grammar, none, empty, ◌then◌, ◌or◌, many}
use Rattle.grammar.specs.code.Finding.{has_empty}
use Rattle.grammar.proofs.SameLaws.{Same, same_refl, same_sym, then_none, On, Dead, on_from, on_to, dead_none, dead_empty, on_range, dead_range, on_one, on_left, on_right, dead_then}
use Rattle.field.specs.Field.{optional, one_or_more, one, WSP, FWS}
use Rattle.field_states.specs.declared.Word.{Word}
use Rattle.field_states.specs.declared.Side.{Side}
use Rattle.field_states.specs.declared.Blanks.{Blanks}
use Rattle.field_states.specs.declared.State.{State}
use Rattle.field_states.specs.declared.Reader.{Reader}
use Rattle.field_states.specs.declared.Spelled.{Spelled}
use Rattle.field_states.specs.code.States.{word_text, spelled, reader, wrong, behind, spelling_step, after_blank, after_cr, after_lf, closes, inside_comment, outside_comment, token, escaped, after_other, between_step, step_from, is_open, opens, depth_of, read_before, is_spelled, again}
use Rattle.field_states.proofs.BlankLaws.{on_it, not_it, not_empty_one, IsBlank, Other, on_blank, dead_blank, blanks, blanks_gap, optional_gap, Next, gap_blank, gap_cr, gap_other, cr_lf, cr_dead, line_on, line_shut, folded_on, folded_other}
use Rattle.field_states.proofs.LevelLaws.{level, next, level_next, quotable, next_open, next_too_deep, next_out, next_close, next_quote, next_plain, next_dead}
use Rattle.field_states.proofs.WordLaws.{within, not_within, left_of, Spells, wrong as misspelled, further, whole, spells_at, other_letter, first_letter, is_not_within, drop_next}

-- ------------------------------------------------------------------ a grammar of fields, by what stands before and after its words

pub record Tails : Type 0 where
  -- where a word is expected, by the methods read
  pub before : (dkim spf : Bool) → Grammar
  -- behind a closing CR LF
  pub end : (dkim spf : Bool) → Grammar
  -- behind a method that was read before
  pub repeat : Word → (dkim spf : Bool) → Grammar

module _ (n : ℕ) (t : Tails) where
  unfoldable pub close : (dkim spf : Bool) → Grammar
  close d s = one 13 then one 10 then t.end d s

  unfoldable pub after : (dkim spf : Bool) → Grammar
  after false false = close false false
  after false true = one 44 then level n (t.before false true) 0 or close false true
  after true false = one 44 then level n (t.before true false) 0 or close true false
  after true true = one 44 then level n (t.before true true) 0 or close true true

  -- behind a whole word
  unfoldable pub ending : Word → (dkim spf : Bool) → Grammar
  ending Word.Name d s = level n (t.before d s) 0
  ending Word.None d s = level n (after d s) 0
  ending Word.Dkim d s = if d then t.repeat Word.Dkim d s else level n (after true s) 0
  ending Word.Spf d s = if s then t.repeat Word.Spf d s else level n (after d true) 0

  -- the words that may stand there
  unfoldable pub none_word : (dkim spf : Bool) → Grammar
  none_word false false = left_of (word_text Word.None) (ending Word.None false false)
  none_word false true = none
  none_word true false = none
  none_word true true = none

  unfoldable pub words : (dkim spf : Bool) → Grammar
  words d s = left_of (word_text Word.Dkim) (ending Word.Dkim d s) or left_of (word_text Word.Spf) (ending Word.Spf d s) or none_word d s

  pub record Lawful : Type 0 where
    pub before_is : (dkim spf : Bool) → Same (t.before dkim spf) (words dkim spf)
    pub end_is : (dkim spf : Bool) → (t.end dkim spf ≡ empty) ⊎ (t.end dkim spf ≡ none)

  -- ------------------------------------------------------------------ what can follow in a state

  unfoldable pub tail : Side → (dkim spf : Bool) → Grammar
  tail Side.Before d s = t.before d s
  tail Side.After d s = after d s

  unfoldable pub end_of : Side → (depth : ℕ) (dkim spf : Bool) → Grammar
  end_of Side.Before depth d s = none
  end_of Side.After zero d s = t.end d s
  end_of Side.After (suc depth) d s = none

  unfoldable pub rest_between : Blanks → Side → (depth : ℕ) (dkim spf : Bool) → Grammar
  rest_between Blanks.Fresh side k d s = optional FWS then next n (tail side d s) k
  rest_between Blanks.Blank side k d s = blanks then next n (tail side d s) k
  rest_between Blanks.Cr side k d s = one 10 then (one_or_more WSP then next n (tail side d s) k or end_of side k d s)
  rest_between Blanks.Line side k d s = one_or_more WSP then next n (tail side d s) k or end_of side k d s
  rest_between Blanks.Folded side k d s = many WSP then next n (tail side d s) k
  rest_between Blanks.Escaped side k d s = quotable then level n (tail side d s) k
  rest_between Blanks.Ending side k d s = one 10 then t.end d s
  rest_between Blanks.Ended side k d s = t.end d s
  rest_between Blanks.Wrong side k d s = none

  unfoldable pub rest_in : State → (dkim spf : Bool) → Grammar
  rest_in (State.Spelling w k) d s = left_of (drop k (word_text w)) (ending w d s)
  rest_in (State.Between side b k) d s = rest_between b side k d s

  unfoldable pub rest : Reader → Grammar
  rest r = rest_in r.state r.dkim r.spf

-- ------------------------------------------------------------------ tests of an octet

either : (a b : Bool) → (a || b) ≡ true → (a ≡ true) ⊎ (b ≡ true)
either true b e = inl refl
either false b e = inr e

neither : (a b : Bool) → (a || b) ≡ false → (a ≡ false) × (b ≡ false)
neither true b e = absurd (mathlib.Core.Bool.true≢false e)
neither false b e = (refl, e)

pub blank_is : (x : ℕ) → is_blank x ≡ true → IsBlank x
unfolding is_blank one_of any
blank_is x e = elim (either (eqb x 32) (eqb x 9 || false) e) [
  | inl f ↦ inl (eqb-true x 32 f)
  | inr f ↦ elim (either (eqb x 9) false f) [ inl g ↦ inr (eqb-true x 9 g) | inr g ↦ absurd (false≢true g) ]
]

pub blank_not : (x : ℕ) → is_blank x ≡ false → Other x
unfolding is_blank one_of any
blank_not x e =
    let (f, g) = neither (eqb x 32) (eqb x 9 || false) e in
    record { no_space = eqb-false x 32 f; no_tab = eqb-false x 9 (neither (eqb x 9) false g).0 }

-- ------------------------------------------------------------------ what stands before a word, and after

module _ (n : ℕ) (t : Tails) (l : Lawful n t) where
  end_dead : (x : ℕ) (d s : Bool) → Dead x (t.end d s)
  end_dead x d s = elim (l.end_is d s) [ inl e ↦ rw e (dead_empty x) | inr e ↦ rw e (dead_none x) ]

  dkim_dead : (x : ℕ) (e : Grammar) → (lower_octet x ≡ 100 → ⊥) → Dead x (left_of (word_text Word.Dkim) e)
  unfolding word_text octets
  dkim_dead x e h = other_letter x e 100 (107 ∷ 105 ∷ 109 ∷ []) (λ p q. omega arith) h

  spf_dead : (x : ℕ) (e : Grammar) → (lower_octet x ≡ 115 → ⊥) → Dead x (left_of (word_text Word.Spf) e)
  unfolding word_text octets
  spf_dead x e h = other_letter x e 115 (112 ∷ 102 ∷ []) (λ p q. omega arith) h

  none_dead : (x : ℕ) (d s : Bool) → (lower_octet x ≡ 110 → (d || s) ≡ false → ⊥) → Dead x (none_word n t d s)
  unfolding none_word word_text octets
  none_dead x false false h = other_letter x (ending n t Word.None false false) 110 (111 ∷ 110 ∷ 101 ∷ []) (λ p q. omega arith) (λ e. h e refl)
  none_dead x false true h = dead_none x
  none_dead x true false h = dead_none x
  none_dead x true true h = dead_none x

  lower_small : (x : ℕ) → (65 ≤ x → x ≤ 90 → ⊥) → lower_octet x ≡ x
  unfolding lower_octet
  lower_small x h = rw (is_not_within 65 90 x h)

  quoted : (side : Side) (k : ℕ) (d s : Bool) → On 92 (next n (tail n t side d s) (suc k)) (rest_in n t (State.Between side Blanks.Escaped (suc k)) d s)
  unfolding rest_in rest_between
  quoted side k d s = next_quote n (tail n t side d s) k

  shut : {x : ℕ} {g : Grammar} (d s : Bool) → Dead x g → On x g (rest_in n t wrong d s)
  unfolding rest_in rest_between wrong
  shut d s h = h

  low10 : (x : ℕ) → IsBlank x → x ≡ 10 → ⊥
  low10 x (inl e) f = omega arith
  low10 x (inr e) f = omega arith

  dkim_on : (x : ℕ) (e : Grammar) → lower_octet x ≡ 100 → On x (left_of (word_text Word.Dkim) e) (left_of (drop 1 (word_text Word.Dkim)) e)
  unfolding word_text octets left_of
  dkim_on x e h = first_letter x e 100 (107 ∷ 105 ∷ 109 ∷ []) (λ p q. omega arith) h

  spf_on : (x : ℕ) (e : Grammar) → lower_octet x ≡ 115 → On x (left_of (word_text Word.Spf) e) (left_of (drop 1 (word_text Word.Spf)) e)
  unfolding word_text octets left_of
  spf_on x e h = first_letter x e 115 (112 ∷ 102 ∷ []) (λ p q. omega arith) h

  none_on : (x : ℕ) (d s : Bool) → lower_octet x ≡ 110 → (d || s) ≡ false → On x (none_word n t d s) (left_of (drop 1 (word_text Word.None)) (ending n t Word.None d s))
  unfolding none_word word_text octets left_of
  none_on x false false h e = first_letter x (ending n t Word.None false false) 110 (111 ∷ 110 ∷ 101 ∷ []) (λ p q. omega arith) h
  none_on x false true h e = absurd (mathlib.Core.Bool.true≢false e)
  none_on x true false h e = absurd (mathlib.Core.Bool.true≢false e)
  none_on x true true h e = absurd (mathlib.Core.Bool.true≢false e)

  -- what an octet leaves before a word
  pub before_step : (x : ℕ) (d s : Bool) → On x (t.before d s) (rest_in n t (outside_comment Side.Before d s x) d s)
  unfolding outside_comment rest_in rest_between wrong words
  before_step x d s = on_from (l.before_is d s) (go (eqb (lower_octet x) 100) refl (eqb (lower_octet x) 115) refl (eqb (lower_octet x) 110) refl (d || s) refl)
    where
      no : (a b : ℕ) → lower_octet x ≡ a → (a ≡ b → ⊥) → lower_octet x ≡ b → ⊥
      no a b e h f = h (sym e ∙ f)

      go : (p : Bool) → eqb (lower_octet x) 100 ≡ p → (q : Bool) → eqb (lower_octet x) 115 ≡ q → (r : Bool) → eqb (lower_octet x) 110 ≡ r → (u : Bool) → (d || s) ≡ u
          → On x (words n t d s) (rest_in n t (outside_comment Side.Before d s x) d s)
      go true e q f r g u k =
          let c = eqb-true (lower_octet x) 100 e in
          rw e (on_left (dkim_on x (ending n t Word.Dkim d s) c) (on_left (spf_dead x (ending n t Word.Spf d s) (no 100 115 c (λ z. omega arith))) (none_dead x d s (λ z. absurd (no 100 110 c (λ y. omega arith) z)))))
      go false e true f r g u k =
          let c = eqb-true (lower_octet x) 115 f in
          rw (e, f) (on_right (dkim_dead x (ending n t Word.Dkim d s) (eqb-false (lower_octet x) 100 e)) (on_left (spf_on x (ending n t Word.Spf d s) c) (none_dead x d s (λ z. absurd (no 115 110 c (λ y. omega arith) z)))))
      go false e false f true g false k =
          rw (e, f, g, k) (on_right (dkim_dead x (ending n t Word.Dkim d s) (eqb-false (lower_octet x) 100 e)) (on_right (spf_dead x (ending n t Word.Spf d s) (eqb-false (lower_octet x) 115 f)) (none_on x d s (eqb-true (lower_octet x) 110 g) k)))
      go false e false f true g true k =
          rw (e, f, g, k) (on_left (dkim_dead x (ending n t Word.Dkim d s) (eqb-false (lower_octet x) 100 e)) (on_left (spf_dead x (ending n t Word.Spf d s) (eqb-false (lower_octet x) 115 f)) (none_dead x d s (λ z y. mathlib.Core.Bool.true≢false (sym k ∙ y)))))
      go false e false f false g u k =
          rw (e, f, g) (on_left (dkim_dead x (ending n t Word.Dkim d s) (eqb-false (lower_octet x) 100 e)) (on_left (spf_dead x (ending n t Word.Spf d s) (eqb-false (lower_octet x) 115 f)) (none_dead x d s (λ z. absurd (eqb-false (lower_octet x) 110 g z)))))

  pub before_dead : (x : ℕ) (d s : Bool) → (lower_octet x ≡ 100 → ⊥) → (lower_octet x ≡ 115 → ⊥) → (lower_octet x ≡ 110 → ⊥) → Dead x (t.before d s)
  unfolding words
  before_dead x d s p q r = on_from (l.before_is d s) (on_left (dkim_dead x (ending n t Word.Dkim d s) p) (on_left (spf_dead x (ending n t Word.Spf d s) q) (none_dead x d s (λ z. absurd (r z)))))

  -- and after one
  close_dead : (x : ℕ) (d s : Bool) → (x ≡ 13 → ⊥) → Dead x (close n t d s)
  unfolding close
  close_dead x d s h = dead_then (not_empty_one 13) (not_it x 13 h)

  close_on : (d s : Bool) → On 13 (close n t d s) (one 10 then t.end d s)
  unfolding close
  close_on d s = on_one (not_empty_one 13) (on_it 13)

  comma_dead : (x : ℕ) (g : Grammar) → (x ≡ 44 → ⊥) → Dead x (one 44 then g)
  comma_dead x g h = dead_then (not_empty_one 44) (not_it x 44 h)

  pub after_dead : (x : ℕ) (d s : Bool) → (x ≡ 13 → ⊥) → (x ≡ 44 → ⊥) → Dead x (after n t d s)
  unfolding after
  after_dead x false false h i = close_dead x false false h
  after_dead x false true h i = on_left (comma_dead x (level n (t.before false true) 0) i) (close_dead x false true h)
  after_dead x true false h i = on_left (comma_dead x (level n (t.before true false) 0) i) (close_dead x true false h)
  after_dead x true true h i = on_left (comma_dead x (level n (t.before true true) 0) i) (close_dead x true true h)

  pub after_cr_on : (d s : Bool) → On 13 (after n t d s) (one 10 then t.end d s)
  unfolding after
  after_cr_on false false = close_on false false
  after_cr_on false true = on_right (comma_dead 13 (level n (t.before false true) 0) (λ e. omega arith)) (close_on false true)
  after_cr_on true false = on_right (comma_dead 13 (level n (t.before true false) 0) (λ e. omega arith)) (close_on true false)
  after_cr_on true true = on_right (comma_dead 13 (level n (t.before true true) 0) (λ e. omega arith)) (close_on true true)

  comma_on : (d s : Bool) → On 44 (one 44 then level n (t.before d s) 0 or close n t d s) (optional FWS then next n (t.before d s) 0)
  comma_on d s = on_to (on_left (on_one (not_empty_one 44) (on_it 44)) (close_dead 44 d s (λ e. omega arith))) (level_next n (t.before d s) 0)

  comma_step : (d s : Bool) → On 44 (after n t d s) (rest_in n t (outside_comment Side.After d s 44) d s)
  unfolding outside_comment rest_in rest_between wrong after tail
  comma_step false false = close_dead 44 false false (λ e. omega arith)
  comma_step false true = comma_on false true
  comma_step true false = comma_on true false
  comma_step true true = comma_on true true

  pub after_step : (x : ℕ) (d s : Bool) → (x ≡ 13 → ⊥) → On x (after n t d s) (rest_in n t (outside_comment Side.After d s x) d s)
  unfolding outside_comment rest_in rest_between wrong
  after_step x d s h = go (eqb x 44) refl
    where
      go : (p : Bool) → eqb x 44 ≡ p → On x (after n t d s) (rest_in n t (outside_comment Side.After d s x) d s)
      go true e = subst (λ y. On y (after n t d s) (rest_in n t (outside_comment Side.After d s y) d s)) (sym (eqb-true x 44 e)) (comma_step d s)
      go false e = rw e (after_dead x d s h (eqb-false x 44 e))

  -- on either side
  outside_step : (x : ℕ) (side : Side) (d s : Bool) → (x ≡ 13 → ⊥) → On x (tail n t side d s) (rest_in n t (outside_comment side d s x) d s)
  unfolding tail
  outside_step x Side.Before d s h = before_step x d s
  outside_step x Side.After d s h = after_step x d s h

  -- a blank, CR or parenthesis is no letter
  no_letter : (x c : ℕ) → x < 65 → 90 < c → lower_octet x ≡ c → ⊥
  unfolding lower_octet
  no_letter x c h i e = omega (arith, sym (lower_small x (λ p q. omega arith)) ∙ e)

  tail_dead : (x : ℕ) (side : Side) (d s : Bool) → x < 41 → (x ≡ 13 → ⊥) → Dead x (tail n t side d s)
  unfolding tail
  tail_dead x Side.Before d s h i = before_dead x d s (no_letter x 100 (omega arith) (omega arith)) (no_letter x 115 (omega arith) (omega arith)) (no_letter x 110 (omega arith) (omega arith))
  tail_dead x Side.After d s h i = after_dead x d s i (λ e. omega arith)

  tail_cr : (side : Side) (d s : Bool) → On 13 (tail n t side d s) (one 10 then end_of n t side 0 d s)
  unfolding tail end_of
  tail_cr Side.Before d s = on_to (before_dead 13 d s (no_letter 13 100 (omega arith) (omega arith)) (no_letter 13 115 (omega arith) (omega arith)) (no_letter 13 110 (omega arith) (omega arith))) (same_sym (then_none (one 10)))
  tail_cr Side.After d s = after_cr_on d s

  -- ------------------------------------------------------------------ what is next

  blank_low : (x : ℕ) → IsBlank x → x < 33
  blank_low x (inl e) = omega arith
  blank_low x (inr e) = omega arith

  blank_no_cr : (x : ℕ) → IsBlank x → x ≡ 13 → ⊥
  blank_no_cr x (inl e) f = omega arith
  blank_no_cr x (inr e) f = omega arith

  no_blank_next : (x : ℕ) (side : Side) (k : ℕ) (d s : Bool) → IsBlank x → Dead x (next n (tail n t side d s) k)
  no_blank_next x side zero d s b = let h = blank_low x b in next_out n (tail n t side d s) (λ e. omega (arith, h)) (tail_dead x side d s (omega (arith, h)) (blank_no_cr x b))
  no_blank_next x side (suc k) d s b = let h = blank_low x b in next_dead n (tail n t side d s) x k (λ p q. omega (arith, h))

  on_cr_next : (side : Side) (k : ℕ) (d s : Bool) → On 13 (next n (tail n t side d s) k) (one 10 then end_of n t side k d s)
  unfolding end_of
  on_cr_next side zero d s = next_out n (tail n t side d s) (λ e. omega arith) (tail_cr side d s)
  on_cr_next Side.Before (suc k) d s = on_to (next_dead n (tail n t Side.Before d s) 13 k (λ p q. omega arith)) (same_sym (then_none (one 10)))
  on_cr_next Side.After (suc k) d s = on_to (next_dead n (tail n t Side.After d s) 13 k (λ p q. omega arith)) (same_sym (then_none (one 10)))

  end_of_dead : (x : ℕ) (side : Side) (k : ℕ) (d s : Bool) → Dead x (end_of n t side k d s)
  unfolding end_of
  end_of_dead x Side.Before k d s = dead_none x
  end_of_dead x Side.After zero d s = end_dead x d s
  end_of_dead x Side.After (suc k) d s = dead_none x

  pub is_next : (side : Side) (k : ℕ) (d s : Bool) → Next (next n (tail n t side d s) k) (end_of n t side k d s)
  is_next side k d s = record { no_blank = λ x b. no_blank_next x side k d s b; on_cr = on_cr_next side k d s; end_dead = λ x. end_of_dead x side k d s }

  -- ------------------------------------------------------------------ a token

  fresh_rest : (side : Side) (k : ℕ) (d s : Bool) → Same (level n (tail n t side d s) k) (rest_in n t (State.Between side Blanks.Fresh k) d s)
  unfolding rest_in rest_between
  fresh_rest side k d s = level_next n (tail n t side d s) k

  inside_step : (x : ℕ) (side : Side) (k : ℕ) (d s : Bool) → (x ≡ 40 → ⊥) → On x (next n (tail n t side d s) (suc k)) (rest_in n t (inside_comment side (suc k) x) d s)
  unfolding inside_comment
  inside_step x side k d s h = go (eqb x 41) refl (eqb x 92) refl (between 33 126 x) refl
    where
      g : Grammar
      g = tail n t side d s

      go : (p : Bool) → eqb x 41 ≡ p → (q : Bool) → eqb x 92 ≡ q → (r : Bool) → between 33 126 x ≡ r → On x (next n g (suc k)) (rest_in n t (inside_comment side (suc k) x) d s)
      go true e q f r i =
          let z : suc k - 1 ≡ k = omega arith in
          rw (e, z) (on_to (subst (λ y. On y (next n g (suc k)) (level n g k)) (sym (eqb-true x 41 e)) (next_close n g k)) (fresh_rest side k d s))
      go false e true f r i = rw (e, f) (subst (λ y. On y (next n g (suc k)) (rest_in n t (State.Between side Blanks.Escaped (suc k)) d s)) (sym (eqb-true x 92 f)) (quoted side k d s))
      go false e false f true i =
          let (a, b) = within 33 126 x i in
          rw (e, f, i) (on_to (next_plain n g x k (a, b, h, eqb-false x 41 e, eqb-false x 92 f)) (fresh_rest side (suc k) d s))
      go false e false f false i = rw (e, f, i) (shut d s (next_dead n g x k (not_within 33 126 x i)))

  open_step : (side : Side) (k : ℕ) (d s : Bool) → k < n → On 40 (next n (tail n t side d s) k) (rest_in n t (State.Between side Blanks.Fresh (k + 1)) d s)
  open_step side k d s h = rw (add-one k) (on_to (next_open n (tail n t side d s) k h (tail_dead 40 side d s (omega arith) (λ e. omega arith))) (fresh_rest side (suc k) d s))

  token_else : (x : ℕ) (side : Side) (k : ℕ) (d s : Bool) → (x ≡ 13 → ⊥) → (x ≡ 40 → ⊥)
      → On x (next n (tail n t side d s) k) (rest_in n t (if eqb k 0 then outside_comment side d s x else inside_comment side k x) d s)
  token_else x side zero d s h i = next_out n (tail n t side d s) i (outside_step x side d s h)
  token_else x side (suc k) d s h i = rw (eqb-suc-zero k) (inside_step x side k d s i)

  pub token_step : (x : ℕ) (side : Side) (k : ℕ) (d s : Bool) → (x ≡ 13 → ⊥) → (x ≡ 40 → k < n) → On x (next n (tail n t side d s) k) (rest_in n t (token side k d s x) d s)
  unfolding token
  token_step x side k d s h i = go (eqb x 40) refl
    where
      go : (p : Bool) → eqb x 40 ≡ p → On x (next n (tail n t side d s) k) (rest_in n t (token side k d s x) d s)
      go true e = rw e (subst (λ y. On y (next n (tail n t side d s) k) (rest_in n t (State.Between side Blanks.Fresh (k + 1)) d s)) (sym (eqb-true x 40 e)) (open_step side k d s (i (eqb-true x 40 e))))
      go false e = rw e (token_else x side k d s h (eqb-false x 40 e))

  -- behind a backslash
  quotable_not_empty : has_empty quotable ≡ false
  unfolding quotable WSP one has_empty
  quotable_not_empty = refl

  quotable_on : (x : ℕ) → (33 ≤ x) → (x ≤ 126) → On x quotable empty
  unfolding quotable
  quotable_on x p q = on_left (on_range x 33 126 p q) (dead_blank x (record { no_space = λ e. omega arith; no_tab = λ e. omega arith }))

  quotable_blank : (x : ℕ) → IsBlank x → On x quotable empty
  unfolding quotable
  quotable_blank x b = let h = blank_low x b in on_right (dead_range x 33 126 (λ p q. omega (arith, h))) (on_blank x b)

  quotable_dead : (x : ℕ) → (33 ≤ x → x ≤ 126 → ⊥) → Other x → Dead x quotable
  unfolding quotable
  quotable_dead x h o = on_left (dead_range x 33 126 h) (dead_blank x o)

  escaped_step : (x : ℕ) (side : Side) (k : ℕ) (d s : Bool) → Other x → On x (quotable then level n (tail n t side d s) k) (rest_in n t (escaped side k x) d s)
  unfolding escaped
  escaped_step x side k d s o = go (between 33 126 x) refl
    where
      go : (p : Bool) → between 33 126 x ≡ p → On x (quotable then level n (tail n t side d s) k) (rest_in n t (escaped side k x) d s)
      go true e = rw e (on_to (on_one quotable_not_empty (quotable_on x (within 33 126 x e).0 (within 33 126 x e).1)) (fresh_rest side k d s))
      go false e = rw e (shut d s (dead_then quotable_not_empty (quotable_dead x (not_within 33 126 x e) o)))

  -- ------------------------------------------------------------------ between words

  lf_tail : (side : Side) (k : ℕ) (d s : Bool) → Dead 10 (next n (tail n t side d s) k)
  lf_tail side zero d s = next_out n (tail n t side d s) (λ e. omega arith) (tail_dead 10 side d s (omega arith) (λ e. omega arith))
  lf_tail side (suc k) d s = next_dead n (tail n t side d s) 10 k (λ p q. omega arith)

  -- a CR behind a fold ends the field, or is wrong
  closing_rest : (side : Side) (k : ℕ) (d s : Bool)
      → Same (one 10 then end_of n t side k d s) (rest_in n t (State.Between side (if closes side k then Blanks.Ending else Blanks.Wrong) k) d s)
  unfolding rest_in rest_between closes end_of
  closing_rest Side.Before k d s = then_none (one 10)
  closing_rest Side.After zero d s = same_refl (one 10 then t.end d s)
  closing_rest Side.After (suc k) d s = rw (eqb-suc-zero k) (then_none (one 10))

  module _ (side : Side) (k : ℕ) (d s : Bool) where
    abbrev Leaves : ℕ → Blanks → State → Type 0
    Leaves x b q = On x (rest_in n t (State.Between side b k) d s) (rest_in n t q d s)

    blank_step : (x : ℕ) → IsBlank x → (b : Blanks) → Leaves x b (State.Between side (after_blank b) k)
    unfolding rest_in rest_between after_blank
    blank_step x h Blanks.Fresh = gap_blank (is_next side k d s) optional_gap x h
    blank_step x h Blanks.Blank = gap_blank (is_next side k d s) blanks_gap x h
    blank_step x h Blanks.Cr = cr_dead (is_next side k d s) x _ (low10 x h)
    blank_step x h Blanks.Line = line_on (is_next side k d s) x h
    blank_step x h Blanks.Folded = folded_on (is_next side k d s) x h
    blank_step x h Blanks.Escaped = on_to (on_one quotable_not_empty (quotable_blank x h)) (fresh_rest side k d s)
    blank_step x h Blanks.Ending = cr_dead (is_next side k d s) x _ (low10 x h)
    blank_step x h Blanks.Ended = end_dead x d s
    blank_step x h Blanks.Wrong = dead_none x

    no_13 : Other 13
    no_13 = record { no_space = λ e. omega arith; no_tab = λ e. omega arith }

    no_10 : Other 10
    no_10 = record { no_space = λ e. omega arith; no_tab = λ e. omega arith }

    lf_step : (b : Blanks) → Leaves 10 b (State.Between side (after_lf b) k)
    unfolding rest_in rest_between after_lf
    lf_step Blanks.Fresh = gap_other (is_next side k d s) optional_gap 10 no_10 (λ e. omega arith) (lf_tail side k d s)
    lf_step Blanks.Blank = gap_other (is_next side k d s) blanks_gap 10 no_10 (λ e. omega arith) (lf_tail side k d s)
    lf_step Blanks.Cr = cr_lf (is_next side k d s) 10 _
    lf_step Blanks.Line = line_shut (is_next side k d s) 10 no_10
    lf_step Blanks.Folded = folded_other (is_next side k d s) 10 no_10 (lf_tail side k d s)
    lf_step Blanks.Escaped = dead_then quotable_not_empty (quotable_dead 10 (λ p q. omega arith) no_10)
    lf_step Blanks.Ending = cr_lf (is_next side k d s) 10 _
    lf_step Blanks.Ended = end_dead 10 d s
    lf_step Blanks.Wrong = dead_none 10

    cr_step : (b : Blanks) → Leaves 13 b (State.Between side (after_cr (closes side k) b) k)
    unfolding rest_in rest_between after_cr
    cr_step Blanks.Fresh = gap_cr (is_next side k d s) optional_gap 13
    cr_step Blanks.Blank = gap_cr (is_next side k d s) blanks_gap 13
    cr_step Blanks.Cr = cr_dead (is_next side k d s) 13 _ (λ e. omega arith)
    cr_step Blanks.Line = line_shut (is_next side k d s) 13 no_13
    cr_step Blanks.Folded = on_to (folded_other (is_next side k d s) 13 no_13 (is_next side k d s).on_cr) (closing_rest side k d s)
    cr_step Blanks.Escaped = dead_then quotable_not_empty (quotable_dead 13 (λ p q. omega arith) no_13)
    cr_step Blanks.Ending = cr_dead (is_next side k d s) 13 _ (λ e. omega arith)
    cr_step Blanks.Ended = end_dead 13 d s
    cr_step Blanks.Wrong = dead_none 13

    other_step : (x : ℕ) → Other x → (x ≡ 13 → ⊥) → (x ≡ 10 → ⊥) → (b : Blanks) → (is_open b ≡ true → x ≡ 40 → k < n) → Leaves x b (after_other b side k d s x)
    unfolding rest_in rest_between after_other is_open
    other_step x o h i Blanks.Fresh l = gap_other (is_next side k d s) optional_gap x o h (token_step x side k d s h (l refl))
    other_step x o h i Blanks.Blank l = gap_other (is_next side k d s) blanks_gap x o h (token_step x side k d s h (l refl))
    other_step x o h i Blanks.Cr l = shut d s (cr_dead (is_next side k d s) x _ i)
    other_step x o h i Blanks.Line l = shut d s (line_shut (is_next side k d s) x o)
    other_step x o h i Blanks.Folded l = folded_other (is_next side k d s) x o (token_step x side k d s h (l refl))
    other_step x o h i Blanks.Escaped l = escaped_step x side k d s o
    other_step x o h i Blanks.Ending l = shut d s (cr_dead (is_next side k d s) x _ i)
    other_step x o h i Blanks.Ended l = shut d s (end_dead x d s)
    other_step x o h i Blanks.Wrong l = shut d s (dead_none x)

    pub between_on : (x : ℕ) (b : Blanks) → (is_open b ≡ true → x ≡ 40 → k < n) → Leaves x b (between_step side b k d s x)
    unfolding between_step
    between_on x b l = go (is_blank x) refl (eqb x 13) refl (eqb x 10) refl
      where
        go : (p : Bool) → is_blank x ≡ p → (q : Bool) → eqb x 13 ≡ q → (r : Bool) → eqb x 10 ≡ r → Leaves x b (between_step side b k d s x)
        go true e q f r g = rw e (blank_step x (blank_is x e) b)
        go false e true f r g = rw (e, f) (subst (λ y. Leaves y b (State.Between side (after_cr (closes side k) b) k)) (sym (eqb-true x 13 f)) (cr_step b))
        go false e false f true g = rw (e, f, g) (subst (λ y. Leaves y b (State.Between side (after_lf b) k)) (sym (eqb-true x 10 g)) (lf_step b))
        go false e false f false g = rw (e, f, g) (other_step x (blank_not x e) (eqb-false x 13 f) (eqb-false x 10 g) b l)

  -- ------------------------------------------------------------------ in a word

  behind_rest : (w : Word) (d s : Bool) → read_before w d s ≡ false → Same (ending n t w d s) (rest n t (behind w d s))
  unfolding ending behind rest reader read_before tail
  behind_rest Word.Name d s h = fresh_rest Side.Before 0 d s
  behind_rest Word.None d s h = fresh_rest Side.After 0 d s
  behind_rest Word.Dkim d s h = rw h (fresh_rest Side.After 0 true s)
  behind_rest Word.Spf d s h = rw h (fresh_rest Side.After 0 d true)

  -- an octet in a word, by what it makes of it
  pub spelling_by : (x : ℕ) (w : Word) (k : ℕ) (d s : Bool) (r : Spelled) → Spells x (ending n t w d s) (drop k (word_text w)) r → (is_spelled r && read_before w d s) ≡ false
      → On x (left_of (drop k (word_text w)) (ending n t w d s)) (rest n t (spelling_step r w k d s))
  unfolding spelling_step rest reader rest_in is_spelled
  spelling_by x w k d s r (misspelled i) j = shut d s i
  spelling_by x w k d s r (further a b u e i) j = subst (λ z. On x (left_of (drop k (word_text w)) (ending n t w d s)) (left_of z (ending n t w d s))) (sym (drop_next k (word_text w) a (b ∷ u) e)) i
  spelling_by x w k d s r (whole i) j = on_to i (behind_rest w d s j)

  -- a method that was read before
  whole_by : (x : ℕ) (w : Word) (k : ℕ) (d s : Bool) (r : Spelled) → Spells x (ending n t w d s) (drop k (word_text w)) r → is_spelled r ≡ true
      → On x (left_of (drop k (word_text w)) (ending n t w d s)) (ending n t w d s)
  unfolding is_spelled
  whole_by x w k d s r (misspelled i) j = absurd (false≢true j)
  whole_by x w k d s r (further a b u e i) j = absurd (false≢true j)
  whole_by x w k d s r (whole i) j = i

  pub whole_on : (x : ℕ) (w : Word) (k : ℕ) (d s : Bool) → is_spelled (spelled (drop k (word_text w)) x) ≡ true → On x (rest_in n t (State.Spelling w k) d s) (ending n t w d s)
  unfolding rest_in
  whole_on x w k d s h = whole_by x w k d s (spelled (drop k (word_text w)) x) (spells_at x (ending n t w d s) w k) h

  -- ------------------------------------------------------------------ one octet

  -- what a step leaves, where no method is repeated, and where one comment more may begin
  pub step_on : (x : ℕ) (q : State) (d s : Bool) → again q d s x ≡ false → (opens q x ≡ true → depth_of q < n) → On x (rest_in n t q d s) (rest n t (step_from q d s x))
  unfolding rest step_from again reader opens depth_of rest_in
  step_on x (State.Spelling w k) d s h i = spelling_by x w k d s (spelled (drop k (word_text w)) x) (spells_at x (ending n t w d s) w k) h
  step_on x (State.Between side b k) d s h i = between_on side k d s x b (λ o e. i (rw o (eq-eqb x 40 e)))

  -- a comment too many
  pub deep_on : (x : ℕ) (q : State) (d s : Bool) → opens q x ≡ true → depth_of q ≡ n → Dead x (rest_in n t q d s)
  unfolding opens depth_of rest_in is_open rest_between
  deep_on x (State.Spelling w k) d s h i = absurd (false≢true h)
  deep_on x (State.Between side b k) d s h i = go b h
    where
      dead : eqb x 40 ≡ true → Dead x (next n (tail n t side d s) k)
      dead e = subst (λ y. Dead y (next n (tail n t side d s) k)) (sym (eqb-true x 40 e)) (next_too_deep n (tail n t side d s) k i (tail_dead 40 side d s (omega arith) (λ f. omega arith)))

      other : eqb x 40 ≡ true → Other x
      other e = record { no_space = λ f. omega (arith, eqb-true x 40 e); no_tab = λ f. omega (arith, eqb-true x 40 e) }

      no_cr : eqb x 40 ≡ true → x ≡ 13 → ⊥
      no_cr e f = omega (arith, eqb-true x 40 e)

      go : (b : Blanks) → (is_open b && eqb x 40) ≡ true → Dead x (rest_between n t b side k d s)
      go Blanks.Fresh e = gap_other (is_next side k d s) optional_gap x (other e) (no_cr e) (dead e)
      go Blanks.Blank e = gap_other (is_next side k d s) blanks_gap x (other e) (no_cr e) (dead e)
      go Blanks.Cr e = absurd (false≢true e)
      go Blanks.Line e = absurd (false≢true e)
      go Blanks.Folded e = folded_other (is_next side k d s) x (other e) (dead e)
      go Blanks.Escaped e = absurd (false≢true e)
      go Blanks.Ending e = absurd (false≢true e)
      go Blanks.Ended e = absurd (false≢true e)
      go Blanks.Wrong e = absurd (false≢true e)
