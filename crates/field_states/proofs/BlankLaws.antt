-- What an octet leaves of folded blanks, and of what stands behind them.
use mathlib.Core.Path.{◌≡◌, refl, subst}
use mathlib.Core.Logic.{◌⊎◌, inl, inr}
use mathlib.Core.Bool.{true, false}
use Prim.Native.Nat.{ℕ}
use native.Mathlib.Omega.{arith}
use Rattle.grammar.specs.Grammar.{Grammar, empty, ◌then◌, ◌or◌, many}
use Rattle.grammar.specs.code.Finding.{has_empty}
use Rattle.grammar.proofs.SameLaws.{Same, same_refl, same_sym, ◌⨾◌, or_same, assoc, then_or, On, Dead, on_from, on_to, on_then, on_both, on_or, dead_empty, on_range, dead_range, on_one, on_again, on_first, on_second, on_left, on_right, dead_then, dead_many}
use Rattle.field.specs.Field.{optional, one_or_more, one, WSP, CRLF, FWS}

-- ------------------------------------------------------------------ one octet

pub on_it : (x : ℕ) → On x (one x) empty
unfolding one
on_it x = on_range x x x (omega arith) (omega arith)

pub not_it : (x c : ℕ) → (x ≡ c → ⊥) → Dead x (one c)
unfolding one
not_it x c h = dead_range x c c (λ p q. h (omega arith))

pub not_empty_one : (c : ℕ) → has_empty (one c) ≡ false
unfolding one has_empty
not_empty_one c = refl

abbrev pub IsBlank : ℕ → Type 0
IsBlank x = (x ≡ 32) ⊎ (x ≡ 9)

-- no blank
pub record Other (x : ℕ) : Type 0 where
  pub no_space : x ≡ 32 → ⊥
  pub no_tab : x ≡ 9 → ⊥

pub on_blank : (x : ℕ) → IsBlank x → On x WSP empty
unfolding WSP
on_blank x (inl e) = on_left (subst (λ c. On x (one c) empty) e (on_it x)) (not_it x 9 (λ f. omega arith))
on_blank x (inr e) = on_right (not_it x 32 (λ f. omega arith)) (subst (λ c. On x (one c) empty) e (on_it x))

pub dead_blank : (x : ℕ) → Other x → Dead x WSP
unfolding WSP
dead_blank x h = on_left (not_it x 32 h.no_space) (not_it x 9 h.no_tab)

not_empty_WSP : has_empty WSP ≡ false
unfolding WSP one has_empty
not_empty_WSP = refl

blank_not : (x c : ℕ) → IsBlank x → (c ≡ 32 → ⊥) → (c ≡ 9 → ⊥) → x ≡ c → ⊥
blank_not x c (inl e) h i f = h (omega arith)
blank_not x c (inr e) h i f = i (omega arith)

-- ------------------------------------------------------------------ runs of blanks

pub on_blanks : (x : ℕ) → IsBlank x → On x (many WSP) (many WSP)
on_blanks x h = on_again (on_blank x h)

pub dead_blanks : (x : ℕ) → Other x → Dead x (many WSP)
dead_blanks x h = dead_many (dead_blank x h)

pub on_some : (x : ℕ) → IsBlank x → On x (one_or_more WSP) (many WSP)
unfolding one_or_more
on_some x h = on_one not_empty_WSP (on_blank x h)

pub dead_some : (x : ℕ) → Other x → Dead x (one_or_more WSP)
unfolding one_or_more
dead_some x h = dead_then not_empty_WSP (dead_blank x h)

pub not_empty_some : has_empty (one_or_more WSP) ≡ false
unfolding one_or_more WSP one has_empty
not_empty_some = refl

-- behind a CR
unfoldable pub fold : Grammar
fold = one 10 then one_or_more WSP

-- after a blank: more blanks, and a fold or none
unfoldable pub blanks : Grammar
blanks = (many WSP then CRLF) then one_or_more WSP or many WSP

dead_CRLF : (x : ℕ) → (x ≡ 13 → ⊥) → Dead x CRLF
unfolding CRLF
dead_CRLF x h = dead_then (not_empty_one 13) (not_it x 13 h)

on_CRLF : On 13 CRLF (one 10)
unfolding CRLF
on_CRLF = on_one (not_empty_one 13) (on_it 13)

no_blank_13 : Other 13
no_blank_13 = record { no_space = λ e. omega arith; no_tab = λ e. omega arith }

has_empty_many : (a : Grammar) → has_empty (many a) ≡ true
unfolding has_empty
has_empty_many a = refl

not_empty_line : has_empty (many WSP then CRLF) ≡ false
unfolding CRLF one has_empty
not_empty_line = refl

-- `many WSP then CRLF`
line_blank : (x : ℕ) → IsBlank x → On x (many WSP then CRLF) (many WSP then CRLF)
line_blank x h = on_first (has_empty_many WSP) (on_blanks x h) (dead_CRLF x (blank_not x 13 h (λ e. omega arith) (λ e. omega arith)))

line_cr : On 13 (many WSP then CRLF) (one 10)
line_cr = on_second (has_empty_many WSP) (dead_blanks 13 no_blank_13) on_CRLF

line_dead : (x : ℕ) → Other x → (x ≡ 13 → ⊥) → Dead x (many WSP then CRLF)
line_dead x h i = on_second (has_empty_many WSP) (dead_blanks x h) (dead_CRLF x i)

-- ------------------------------------------------------------------ what may be read before blanks, and after one

-- of the two, that they may be empty, and what an octet leaves of them
pub record Gap (g : Grammar) : Type 0 where
  pub may_be_empty : has_empty g ≡ true
  pub on_a_blank : (x : ℕ) → IsBlank x → On x g blanks
  pub on_cr : On 13 g fold
  pub dead : (x : ℕ) → Other x → (x ≡ 13 → ⊥) → Dead x g

pub blanks_gap : Gap blanks
unfolding blanks fold has_empty CRLF one
blanks_gap = record {
  may_be_empty = refl;
  on_a_blank = λ x h. on_or (on_then not_empty_line (line_blank x h)) (on_blanks x h);
  on_cr = on_left (on_then not_empty_line line_cr) (dead_blanks 13 no_blank_13);
  dead = λ x h i. on_left (dead_then not_empty_line (line_dead x h i)) (dead_blanks x h);
}

fws_is : Same FWS ((many WSP then CRLF) then one_or_more WSP or one_or_more WSP)
unfolding FWS optional
fws_is =
    Rattle.grammar.proofs.SameLaws.or_then empty (many WSP then CRLF) (one_or_more WSP)
    ⨾ Rattle.grammar.proofs.SameLaws.or_comm (empty then one_or_more WSP) ((many WSP then CRLF) then one_or_more WSP)
    ⨾ or_same (same_refl ((many WSP then CRLF) then one_or_more WSP)) (Rattle.grammar.proofs.SameLaws.empty_then (one_or_more WSP))

pub optional_gap : Gap (optional FWS)
unfolding optional has_empty blanks fold
optional_gap = record {
  may_be_empty = refl;
  on_a_blank = λ x h. on_right (dead_empty x) (on_from fws_is (on_or (on_then not_empty_line (line_blank x h)) (on_some x h)));
  on_cr = on_right (dead_empty 13) (on_from fws_is (on_left (on_then not_empty_line line_cr) (dead_some 13 no_blank_13)));
  dead = λ x h i. on_right (dead_empty x) (on_from fws_is (on_left (dead_then not_empty_line (line_dead x h i)) (dead_some x h)));
}

-- ------------------------------------------------------------------ blanks, and what is next

-- what is next does not begin with a blank; behind CR LF the field may end, by `end`, which is empty or none
pub record Next (next end : Grammar) : Type 0 where
  pub no_blank : (x : ℕ) → IsBlank x → Dead x next
  pub on_cr : On 13 next (one 10 then end)
  pub end_dead : (x : ℕ) → Dead x end

module _ {next end : Grammar} (h : Next next end) {g : Grammar} (i : Gap g) (x : ℕ) where
  pub gap_blank : IsBlank x → On x (g then next) (blanks then next)
  gap_blank b = on_first i.may_be_empty (i.on_a_blank x b) (h.no_blank x b)

  pub gap_cr : On 13 (g then next) (one 10 then (one_or_more WSP then next or end))
  unfolding fold
  gap_cr =
      on_to (on_both i.may_be_empty i.on_cr h.on_cr)
      (or_same (assoc (one 10) (one_or_more WSP) next) (same_refl (one 10 then end))
      ⨾ same_sym (then_or (one 10) (one_or_more WSP then next) end))

  pub gap_other : {left : Grammar} → Other x → (x ≡ 13 → ⊥) → On x next left → On x (g then next) left
  gap_other o c k = on_second i.may_be_empty (i.dead x o c) k

module _ {next end : Grammar} (h : Next next end) (x : ℕ) where
  pub cr_lf : (a : Grammar) → On 10 (one 10 then a) a
  cr_lf a = on_one (not_empty_one 10) (on_it 10)

  pub cr_dead : (a : Grammar) → (x ≡ 10 → ⊥) → Dead x (one 10 then a)
  cr_dead a k = dead_then (not_empty_one 10) (not_it x 10 k)

  pub line_on : IsBlank x → On x (one_or_more WSP then next or end) (many WSP then next)
  line_on b = on_left (on_then not_empty_some (on_some x b)) (h.end_dead x)

  pub line_shut : Other x → Dead x (one_or_more WSP then next or end)
  line_shut o = on_left (dead_then not_empty_some (dead_some x o)) (h.end_dead x)

  pub folded_on : IsBlank x → On x (many WSP then next) (many WSP then next)
  folded_on b = on_first (has_empty_many WSP) (on_blanks x b) (h.no_blank x b)

  pub folded_other : {left : Grammar} → Other x → On x next left → On x (many WSP then next) left
  folded_other o k = on_second (has_empty_many WSP) (dead_blanks x o) k
