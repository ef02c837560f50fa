-- Comments and blanks, in so many comments, and what stands behind them.
use mathlib.Core.Path.{◌≡◌, refl, sym, subst}
use mathlib.Core.Logic.{◌⊎◌, inl, inr}
use mathlib.Core.Bool.{false}
use Prim.Native.Nat.{ℕ, zero, suc, ◌-◌, ◌≤◌, ◌<◌}
use native.Mathlib.Omega.{arith}
use Rattle.grammar.specs.Grammar.{Grammar, empty, range, ◌then◌, ◌or◌, many}
use Rattle.grammar.specs.code.Finding.{has_empty}
use Rattle.grammar.proofs.SameLaws.{Same, same_refl, same_sym, ◌⨾◌, then_same, or_same, assoc, or_then, then_or, or_comm, or_assoc, many_then, On, Dead, on_from, on_to, on_then, dead_none, on_range, dead_range, on_one, on_left, on_right, dead_then}
use Rattle.field.specs.Field.{optional, one_or_more, one, WSP, FWS, ctext, quoted_pair, comment, CFWS}
use Rattle.field_states.proofs.BlankLaws.{on_it, not_it, not_empty_one}

-- ------------------------------------------------------------------ items behind blanks, and an end

unfoldable pub items : (item end : Grammar) → Grammar
items i e = many (optional FWS then i) then optional FWS then e

-- an item and so on, or the end
unfoldable pub ahead : (item end : Grammar) → Grammar
ahead i e = i then items i e or e

pub items_ahead : (i e : Grammar) → Same (items i e) (optional FWS then ahead i e)
unfolding items ahead
items_ahead i e =
    many_then (optional FWS then i) (optional FWS then e)
    ⨾ or_comm (optional FWS then e) ((optional FWS then i) then (many (optional FWS then i) then optional FWS then e))
    ⨾ or_same (assoc (optional FWS) i (many (optional FWS then i) then optional FWS then e)) (same_refl (optional FWS then e))
    ⨾ same_sym (then_or (optional FWS) (i then (many (optional FWS then i) then optional FWS then e)) e)

-- a gap of the field is items that are comments, and no end
pub gap_items : (n : ℕ) (k : Grammar) → Same (optional (CFWS n) then k) (items (comment n) k)
unfolding optional CFWS one_or_more items
gap_items n k = then_same gap_is (same_refl k) ⨾ assoc (many c) (empty or FWS) k
  where
    c : Grammar
    c = (empty or FWS) then comment n

    gap_is : Same (empty or (c then many c) then (empty or FWS) or FWS) (many c then (empty or FWS))
    gap_is =
        or_same (same_refl empty) (or_comm ((c then many c) then (empty or FWS)) FWS)
        ⨾ same_sym (or_assoc empty FWS ((c then many c) then (empty or FWS)))
        ⨾ or_same (same_refl (empty or FWS)) (assoc c (many c) (empty or FWS))
        ⨾ same_sym (many_then c (empty or FWS))

-- ------------------------------------------------------------------ in so many comments

-- what may be inside a comment, besides blanks
unfoldable pub content : ℕ → Grammar
content m = ctext or quoted_pair or comment m

module _ (n : ℕ) (k : Grammar) where
  unfoldable pub level : ℕ → Grammar
  level zero = items (comment n) k
  level (suc d) = items (content (n - suc d)) (one 41 then level d)

  unfoldable pub next : ℕ → Grammar
  next zero = ahead (comment n) k
  next (suc d) = ahead (content (n - suc d)) (one 41 then level d)

  pub level_next : (d : ℕ) → Same (level d) (optional FWS then next d)
  unfolding level next
  level_next zero = items_ahead (comment n) k
  level_next (suc d) = items_ahead (content (n - suc d)) (one 41 then level d)

-- ------------------------------------------------------------------ the first octet of a comment, and of its content

pub comment_not_empty : (m : ℕ) → has_empty (comment m) ≡ false
unfolding comment has_empty one
comment_not_empty zero = refl
comment_not_empty (suc m) = refl

comment_dead : (x m : ℕ) → (x ≡ 40 → ⊥) → Dead x (comment m)
unfolding comment
comment_dead x zero h = dead_none x
comment_dead x (suc m) h = dead_then (not_empty_one 40) (not_it x 40 h)

-- what stands behind the first parenthesis, and what comes after the comment
comment_open : (m : ℕ) (t : Grammar) → On 40 (comment (suc m) then t) (items (content m) (one 41 then t))
unfolding comment items content
comment_open m t =
    on_to (on_then (comment_not_empty (suc m)) (on_one (not_empty_one 40) (on_it 40)))
    (assoc (many (optional FWS then (ctext or quoted_pair or comment m))) (optional FWS then one 41) t
    ⨾ then_same (same_refl (many (optional FWS then (ctext or quoted_pair or comment m)))) (assoc (optional FWS) (one 41) t))

quoted_dead : (x : ℕ) → (x ≡ 92 → ⊥) → Dead x quoted_pair
unfolding quoted_pair
quoted_dead x h = dead_then (not_empty_one 92) (not_it x 92 h)

-- the octets that stand for themselves
abbrev pub Plain : ℕ → Type 0
Plain x = (33 ≤ x) × (x ≤ 126) × (x ≡ 40 → ⊥) × (x ≡ 41 → ⊥) × (x ≡ 92 → ⊥)

data Part (x : ℕ) : Type 0 where
  low : 33 ≤ x → x ≤ 39 → Part x
  mid : 42 ≤ x → x ≤ 91 → Part x
  high : 93 ≤ x → x ≤ 126 → Part x

on_ctext_part : (x : ℕ) → Part x → On x ctext empty
unfolding ctext
on_ctext_part x (low p q) = on_left (on_range x 33 39 p q) (on_left (dead_range x 42 91 (λ r s. omega arith)) (dead_range x 93 126 (λ r s. omega arith)))
on_ctext_part x (mid p q) = on_right (dead_range x 33 39 (λ r s. omega arith)) (on_left (on_range x 42 91 p q) (dead_range x 93 126 (λ r s. omega arith)))
on_ctext_part x (high p q) = on_right (dead_range x 33 39 (λ r s. omega arith)) (on_right (dead_range x 42 91 (λ r s. omega arith)) (on_range x 93 126 p q))

pub le_or : (a b : ℕ) → (a ≤ b) ⊎ (b < a)
le_or zero b = inl (omega arith)
le_or (suc a) zero = inr (omega arith)
le_or (suc a) (suc b) = elim (le_or a b) [ inl h ↦ inl (omega arith) | inr h ↦ inr (omega arith) ]

part_of : (x : ℕ) → Plain x → Part x
part_of x h = elim (le_or x 39) [
  | inl a ↦ low h.0 a
  | inr a ↦ elim (le_or x 91) [
    | inl b ↦ mid (past x a h.2 h.3) b
    | inr b ↦ high (further x b h.4) h.1
  ]
]
  where
    ne : (x y : ℕ) → y ≤ x → (x ≡ y → ⊥) → y < x
    ne x y l k = elim (le_or x y) [ inl m ↦ absurd (k (omega arith)) | inr m ↦ m ]

    past : (x : ℕ) → 39 < x → (x ≡ 40 → ⊥) → (x ≡ 41 → ⊥) → 42 ≤ x
    past x l k m = let a = ne x 40 l k in let b = ne x 41 a m in b

    further : (x : ℕ) → 91 < x → (x ≡ 92 → ⊥) → 93 ≤ x
    further x l k = ne x 92 l k

on_ctext : (x : ℕ) → Plain x → On x ctext empty
on_ctext x h = on_ctext_part x (part_of x h)

dead_ctext : (x : ℕ) → ((33 ≤ x → x ≤ 126 → ⊥) ⊎ (x ≡ 40) ⊎ (x ≡ 41) ⊎ (x ≡ 92)) → Dead x ctext
unfolding ctext
dead_ctext x (inl h) = on_left (dead_range x 33 39 (λ r s. h (omega arith) (omega arith))) (on_left (dead_range x 42 91 (λ r s. h (omega arith) (omega arith))) (dead_range x 93 126 (λ r s. h (omega arith) (omega arith))))
dead_ctext x (inr (inl e)) = on_left (dead_range x 33 39 (λ r s. omega arith)) (on_left (dead_range x 42 91 (λ r s. omega arith)) (dead_range x 93 126 (λ r s. omega arith)))
dead_ctext x (inr (inr (inl e))) = on_left (dead_range x 33 39 (λ r s. omega arith)) (on_left (dead_range x 42 91 (λ r s. omega arith)) (dead_range x 93 126 (λ r s. omega arith)))
dead_ctext x (inr (inr (inr e))) = on_left (dead_range x 33 39 (λ r s. omega arith)) (on_left (dead_range x 42 91 (λ r s. omega arith)) (dead_range x 93 126 (λ r s. omega arith)))

ctext_not_empty : has_empty ctext ≡ false
unfolding ctext has_empty
ctext_not_empty = refl

quoted_not_empty : has_empty quoted_pair ≡ false
unfolding quoted_pair has_empty one
quoted_not_empty = refl

pub content_not_empty : (m : ℕ) → has_empty (content m) ≡ false
unfolding content ctext quoted_pair has_empty one
content_not_empty m = comment_not_empty m

content_plain : (x m : ℕ) → Plain x → On x (content m) empty
unfolding content
content_plain x m h = on_left (on_ctext x h) (on_left (quoted_dead x h.4) (comment_dead x m h.2))

-- behind a backslash
unfoldable pub quotable : Grammar
quotable = range 33 126 or WSP

content_quote : (m : ℕ) → On 92 (content m) quotable
unfolding content quoted_pair quotable
content_quote m = on_right (dead_ctext 92 (inr (inr (inr refl)))) (on_left (on_one (not_empty_one 92) (on_it 92)) (comment_dead 92 m (λ e. omega arith)))

content_dead : (x m : ℕ) → ((33 ≤ x → x ≤ 126 → ⊥) ⊎ (x ≡ 41)) → Dead x (content m)
unfolding content
content_dead x m (inl h) = on_left (dead_ctext x (inl h)) (on_left (quoted_dead x (λ e. h (omega arith) (omega arith))) (comment_dead x m (λ e. h (omega arith) (omega arith))))
content_dead x m (inr h) = on_left (dead_ctext x (inr (inr (inl h)))) (on_left (quoted_dead x (λ e. omega arith)) (comment_dead x m (λ e. omega arith)))

content_open : (m : ℕ) (t : Grammar) → On 40 (content (suc m) then t) (items (content m) (one 41 then t))
unfolding content
content_open m t = on_from (opened t) (on_right (dead_then ctext_not_empty (dead_ctext 40 (inr (inl refl)))) (on_right (dead_then quoted_not_empty (quoted_dead 40 (λ e. omega arith))) (comment_open m t)))
  where
    opened : (t : Grammar) → Same ((ctext or quoted_pair or comment (suc m)) then t) (ctext then t or quoted_pair then t or comment (suc m) then t)
    opened t = or_then ctext (quoted_pair or comment (suc m)) t ⨾ or_same (same_refl (ctext then t)) (or_then quoted_pair (comment (suc m)) t)

content_shut : Dead 40 (content 0)
unfolding content comment
content_shut = on_left (dead_ctext 40 (inr (inl refl))) (on_left (quoted_dead 40 (λ e. omega arith)) (dead_none 40))

-- ------------------------------------------------------------------ what is next, by its first octet

less_one : (n d : ℕ) → d < n → n - d ≡ suc (n - suc d)
less_one n d h = omega arith

module _ (n : ℕ) (k : Grammar) where
  -- a comment begins, if one more may
  pub next_open : (d : ℕ) → d < n → Dead 40 k → On 40 (next n k d) (level n k (suc d))
  unfolding next level ahead
  next_open zero h i = on_left (subst (λ m. On 40 (comment m then items (comment n) k) (items (content (n - 1)) (one 41 then items (comment n) k))) (sym (one_more n h)) (comment_open (n - 1) (items (comment n) k))) i
    where
      one_more : (n : ℕ) → 0 < n → n ≡ suc (n - 1)
      one_more n h = omega arith
  next_open (suc d) h i =
      on_left
      (subst (λ m. On 40 (content m then items (content (n - suc d)) (one 41 then level n k d)) (items (content (n - suc (suc d))) (one 41 then items (content (n - suc d)) (one 41 then level n k d))))
      (sym (less_one n (suc d) h)) (content_open (n - suc (suc d)) (items (content (n - suc d)) (one 41 then level n k d))))
      (dead_then (not_empty_one 41) (not_it 40 41 (λ e. omega arith)))

  pub next_too_deep : (d : ℕ) → d ≡ n → Dead 40 k → Dead 40 (next n k d)
  unfolding next ahead comment
  next_too_deep zero h i = on_left (subst (λ m. Dead 40 (comment m then items (comment n) k)) h (dead_then (comment_not_empty 0) (dead_none 40))) i
  next_too_deep (suc d) h i =
      on_left
      (subst (λ m. Dead 40 (content m then items (content (n - suc d)) (one 41 then level n k d))) (none_left n d h) (dead_then (content_not_empty 0) content_shut))
      (dead_then (not_empty_one 41) (not_it 40 41 (λ e. omega arith)))
    where
      none_left : (n d : ℕ) → suc d ≡ n → 0 ≡ n - suc d
      none_left n d h = omega arith

  pub next_out : {x : ℕ} {left : Grammar} → (x ≡ 40 → ⊥) → On x k left → On x (next n k 0) left
  unfolding next ahead
  next_out {x} h i = on_right (dead_then (comment_not_empty n) (comment_dead x n h)) i

  pub next_close : (d : ℕ) → On 41 (next n k (suc d)) (level n k d)
  unfolding next ahead
  next_close d = on_right (dead_then (content_not_empty (n - suc d)) (content_dead 41 (n - suc d) (inr refl))) (on_one (not_empty_one 41) (on_it 41))

  pub next_quote : (d : ℕ) → On 92 (next n k (suc d)) (quotable then level n k (suc d))
  unfolding next level ahead
  next_quote d = on_left (on_then (content_not_empty (n - suc d)) (content_quote (n - suc d))) (dead_then (not_empty_one 41) (not_it 92 41 (λ e. omega arith)))

  pub next_plain : (x d : ℕ) → Plain x → On x (next n k (suc d)) (level n k (suc d))
  unfolding next level ahead
  next_plain x d h = on_left (on_one (content_not_empty (n - suc d)) (content_plain x (n - suc d) h)) (dead_then (not_empty_one 41) (not_it x 41 h.3))

  pub next_dead : (x d : ℕ) → (33 ≤ x → x ≤ 126 → ⊥) → Dead x (next n k (suc d))
  unfolding next ahead
  next_dead x d h = on_left (dead_then (content_not_empty (n - suc d)) (content_dead x (n - suc d) (inl h))) (dead_then (not_empty_one 41) (not_it x 41 (λ e. h (omega arith) (omega arith))))
