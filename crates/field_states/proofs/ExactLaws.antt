-- The fields that are read, and as what: the reader against a grammar for each answer.
use mathlib.Core.Path.{◌≡◌, refl, sym, ap, ◌∙◌}
use mathlib.Core.List.{[], ◌∷◌}
use mathlib.Core.Logic.{◌⊎◌, inl, inr}
use mathlib.Core.Bool.{Bool, true, false, ◌&&◌, false≢true, true≢false}
use Prim.Native.Nat.{ℕ, suc, ◌≤◌, ◌<◌}
use native.Mathlib.Omega.{arith}
use lib.Dec.{leb}
use lib.ListN.{drop}
use borrow.Author.Tests.{leb-true, leb-false}
use Rattle.std.specs.Prelude.{if◌then◌else◌, Option, None, Some}
use Rattle.octets.specs.Octets.{Octets, octets, is_nothing}
use Rattle.octets.specs.Refusing.{OrRefused, ok, not_ok, refusal}
use Rattle.grammar.specs.Grammar.{Grammar, none, empty, ◌then◌, ◌or◌, Text}
use Rattle.grammar.specs.code.Finding.{has_empty, has_text, fault_from, fault}
use Rattle.grammar.proofs.Claimed.{faults}
use Rattle.grammar.proofs.SameLaws.{Same, same_refl, same_sym, ◌⨾◌, then_same, or_same, assoc, or_then, then_none, or_none, none_or, On, fault_same, fault_stops, whole_goes_on}
use Rattle.field.specs.declared.NamedMethods.{NamedMethods}
use Rattle.field.specs.Field.{optional, one, literal, CFWS, dkim, spf, comma, closing}
use Rattle.field.specs.code.Reading.{read_field}
use Rattle.field_states.specs.Claims.{Exactly}
use Rattle.field.specs.Field.{value_naming, field_naming}
use Rattle.field_states.specs.declared.Word.{Word}
use Rattle.field_states.specs.declared.State.{State}
use Rattle.field_states.specs.declared.Reader.{Reader}
use Rattle.field_states.specs.code.States.{word_text, spelled, reader, step, opens, depth_of, ninth, is_wrong, read_before, is_spelled, again, ends, ended, run_reader, start}
use Rattle.field_states.proofs.LevelLaws.{level}
use Rattle.field_states.proofs.WordLaws.{left_of}
use Rattle.field_states.proofs.RestLaws.{Tails, close, after, ending, none_word, words, Lawful, rest, step_on, deep_on, whole_on}
use Rattle.field_states.proofs.LiveLaws.{empty_rest, wrong_rest, depth_step, again_right}
use Rattle.field_states.proofs.TailLaws.{ends_by, gap_level, comma_level, closing_level, ends_none, both_parts, none_part, part, dkim_part, spf_part, with_none, starts}
use Rattle.field_states.proofs.RunLaws.{turn_deep, turn_wrong, turn_again, turn_on, run_on, run_wrong, run_deep, run_again, reads}

-- whether two answers are the same
unfoldable same_flag : Bool → Bool → Bool
same_flag true b = b
same_flag false true = false
same_flag false false = true

module _ (n : ℕ) where
  -- what is left to read of a field with this answer, by the methods read
  unfoldable exact_before : (D S d s : Bool) → Grammar
  exact_before D S false false = value_naming n D S then closing n
  exact_before true true true false = spf then closing n
  exact_before true true false true = dkim then closing n
  exact_before true true true true = none
  exact_before true false true false = none
  exact_before true false false true = none
  exact_before true false true true = none
  exact_before false true true false = none
  exact_before false true false true = none
  exact_before false true true true = none
  exact_before false false true false = none
  exact_before false false false true = none
  exact_before false false true true = none

  unfoldable exact_end : Bool → Grammar
  exact_end true = empty
  exact_end false = none

  abbrev exacts : (D S : Bool) → Tails
  exacts D S = record { before = exact_before D S; end = λ d s. exact_end (same_flag D d && same_flag S s); repeat = λ w d s. none }

  -- behind a method: nothing, or the closing
  over : Same none (level n (one 44 then level n none 0 or ends_by n none) 0)
  over =
      let g = optional (CFWS n) in
      same_sym (then_none g)
      ⨾ then_same (same_refl g) (same_sym (or_same (then_same (same_refl (one 44)) (same_sym (gap_level n none) ⨾ then_none g) ⨾ then_none (one 44)) (ends_none n) ⨾ or_none none))
      ⨾ gap_level n (one 44 then level n none 0 or ends_by n none)

  shut : Same (closing n) (level n (one 44 then level n none 0 or ends_by n empty) 0)
  shut =
      let g = optional (CFWS n) in
      closing_level n ⨾ same_sym (gap_level n (ends_by n empty))
      ⨾ then_same (same_refl g) (same_sym (or_same (then_same (same_refl (one 44)) (same_sym (gap_level n none) ⨾ then_none g) ⨾ then_none (one 44)) (same_refl (ends_by n empty)) ⨾ none_or (ends_by n empty)))
      ⨾ gap_level n (one 44 then level n none 0 or ends_by n empty)

  -- words that may not stand there
  only_dkim : {a : Grammar} → Same (dkim then a) (dkim then a or spf then none)
  only_dkim {a} = same_sym (or_same (same_refl (dkim then a)) (then_none spf) ⨾ or_none (dkim then a))

  only_spf : {a : Grammar} → Same (spf then a) (dkim then none or spf then a)
  only_spf {a} = same_sym (or_same (then_none dkim) (same_refl (spf then a)) ⨾ none_or (spf then a))

  neither : Same none (dkim then none or spf then none)
  neither = same_sym (or_same (then_none dkim) (then_none spf) ⨾ or_none none)

  one_then_other : Same ((dkim then comma n then spf or spf then comma n then dkim) then closing n) (dkim then (comma n then (spf then closing n)) or spf then (comma n then (dkim then closing n)))
  one_then_other =
      or_then (dkim then comma n then spf) (spf then comma n then dkim) (closing n)
      ⨾ or_same (assoc dkim (comma n then spf) (closing n) ⨾ then_same (same_refl dkim) (assoc (comma n) spf (closing n)))
      (assoc spf (comma n then dkim) (closing n) ⨾ then_same (same_refl spf) (assoc (comma n) dkim (closing n)))

  dead_dkim : Same (left_of (word_text Word.Dkim) (level n (one 44 then level n none 0 or ends_by n none) 0)) none
  dead_dkim = part n Word.Dkim _ none (same_sym over) ⨾ same_sym (dkim_part n none) ⨾ then_none dkim

  dead_spf : Same (left_of (word_text Word.Spf) (level n (one 44 then level n none 0 or ends_by n none) 0)) none
  dead_spf = part n Word.Spf _ none (same_sym over) ⨾ same_sym (spf_part n none) ⨾ then_none spf

  only_none : {a b c : Grammar} → Same a none → Same b none → Same (literal (octets "none") then closing n) c → Same (literal (octets "none") then closing n) (a or b or c)
  only_none {a} {b} {c} h i k = k ⨾ same_sym (or_same h (or_same i (same_refl c) ⨾ none_or c) ⨾ none_or c)

  exact_is : (D S d s : Bool) → Same (exact_before D S d s) (words n (exacts D S) d s)
  unfolding exact_before exact_end same_flag value_naming words ending after close none_word ends_by
  exact_is false false false false = only_none dead_dkim dead_spf (none_part n (closing n) ⨾ part n Word.None (closing n) (level n (ends_by n empty) 0) (closing_level n))
  exact_is true false false false = only_dkim ⨾ or_same (then_same (same_refl dkim) shut) (then_same (same_refl spf) over) ⨾ with_none n
  exact_is false true false false = only_spf ⨾ or_same (then_same (same_refl dkim) over) (then_same (same_refl spf) shut) ⨾ with_none n
  exact_is true true false false =
      one_then_other ⨾ or_same (then_same (same_refl dkim) (comma_level n (spf then closing n))) (then_same (same_refl spf) (comma_level n (dkim then closing n))) ⨾ with_none n
  exact_is true true true false = only_spf ⨾ both_parts n (same_refl none) shut
  exact_is true true false true = only_dkim ⨾ both_parts n shut (same_refl none)
  exact_is true true true true = neither ⨾ both_parts n (same_refl none) (same_refl none)
  exact_is true false true false = neither ⨾ both_parts n (same_refl none) over
  exact_is true false false true = neither ⨾ both_parts n over (same_refl none)
  exact_is true false true true = neither ⨾ both_parts n (same_refl none) (same_refl none)
  exact_is false true true false = neither ⨾ both_parts n (same_refl none) over
  exact_is false true false true = neither ⨾ both_parts n over (same_refl none)
  exact_is false true true true = neither ⨾ both_parts n (same_refl none) (same_refl none)
  exact_is false false true false = neither ⨾ both_parts n (same_refl none) over
  exact_is false false false true = neither ⨾ both_parts n over (same_refl none)
  exact_is false false true true = neither ⨾ both_parts n (same_refl none) (same_refl none)

  exacts_lawful : (D S : Bool) → Lawful n (exacts D S)
  exacts_lawful D S = record { before_is = exact_is D S; end_is = λ d s. go (same_flag D d && same_flag S s) }
    where
      go : (b : Bool) → (exact_end b ≡ empty) ⊎ (exact_end b ≡ none)
      go true = inl (unfold exact_end in refl)
      go false = inr (unfold exact_end in refl)

  exact_starts : (D S : Bool) → Same (field_naming n D S) (rest n (exacts D S) start)
  unfolding field_naming exact_before
  exact_starts D S = starts n (exacts D S)

-- ------------------------------------------------------------------ the reader

-- whether what was read is this answer
unfoldable is_answer : (D S : Bool) → OrRefused NamedMethods → Bool
is_answer D S (ok m) = same_flag D m.dkim && same_flag S m.spf
is_answer D S (not_ok r) = false

module _ (D S : Bool) where
  abbrev rests : Reader → Grammar
  rests r = rest 8 (exacts 8 D S) r

  -- whether the rest of a text is one with this answer
  unfoldable fits : (at : ℕ) → Reader → Octets → Bool
  fits at r s = is_nothing (fault_from at (rests r) s)

  at_end : (at : ℕ) (r : Reader) → fits at r [] ≡ is_answer D S (ended at r)
  unfolding fits fault_from rest ended
  at_end at r = rw (empty_rest 8 (exacts 8 D S) (exacts_lawful 8 D S) r.state r.dkim r.spf) (go (ends r.state) refl)
    where
      go : (b : Bool) → ends r.state ≡ b
          → is_nothing {A = ℕ} (if b && has_empty (exact_end 8 (same_flag D r.dkim && same_flag S r.spf)) then None else Some at) ≡ is_answer D S (if b then ok (record { dkim = r.dkim; spf = r.spf }) else not_ok (refusal 24 at))
      go true e = flags (same_flag D r.dkim && same_flag S r.spf) refl
        where
          flags : (c : Bool) → (same_flag D r.dkim && same_flag S r.spf) ≡ c
              → is_nothing {A = ℕ} (if has_empty (exact_end 8 (same_flag D r.dkim && same_flag S r.spf)) then None else Some at) ≡ is_answer D S (ok (record { dkim = r.dkim; spf = r.spf }))
          flags true f = unfold is_answer in rw f (unfold exact_end has_empty is_nothing in refl)
          flags false f = unfold is_answer in rw f (unfold exact_end has_empty is_nothing in refl)
      go false e = unfold is_answer is_nothing in refl

  -- a grammar that leaves nothing
  dead : (at : ℕ) (r : Reader) (x : ℕ) (s : Octets) {g : Grammar} → On x (rests r) g → has_text g ≡ false → fits at r (x ∷ s) ≡ false
  unfolding fits is_nothing
  dead at r x s h e = rw (fault_stops h at s e)

  fits_on : (at : ℕ) (r : Reader) (x : ℕ) (s : Octets) → On x (rests r) (rests (step r x)) → fits at r (x ∷ s) ≡ fits (suc at) (step r x) s
  unfolding fits
  fits_on at r x s h = whole_goes_on h at s

  no_text : has_text none ≡ false
  unfolding has_text
  no_text = refl

  repeated_dead : (w : Word) (d s : Bool) → read_before w d s ≡ true → ending 8 (exacts 8 D S) w d s ≡ none
  unfolding read_before ending
  repeated_dead Word.Name d s h = absurd (false≢true h)
  repeated_dead Word.None d s h = absurd (false≢true h)
  repeated_dead Word.Dkim d s h = rw h
  repeated_dead Word.Spf d s h = rw h

  again_dead : (at : ℕ) (q : State) (d p : Bool) (x : ℕ) (s : Octets) → again q d p x ≡ true → fits at (reader q d p) (x ∷ s) ≡ false
  unfolding again rest reader
  again_dead at (State.Spelling w k) d p x s h =
      let (a, b) = both (is_spelled (spelled (drop k (word_text w)) x)) (read_before w d p) h in
      dead at (reader (State.Spelling w k) d p) x s (whole_on 8 (exacts 8 D S) (exacts_lawful 8 D S) x w k d p a) (ap has_text (repeated_dead w d p b) ∙ no_text)
    where
      both : (a b : Bool) → (a && b) ≡ true → (a ≡ true) × (b ≡ true)
      both true b e = (refl, e)
      both false b e = absurd (false≢true e)
  again_dead at (State.Between side b k) d p x s h = absurd (false≢true h)

  nothing_left : (r : Reader) → is_wrong r.state ≡ true → rests r ≡ none
  unfolding rest
  nothing_left r h = wrong_rest 8 (exacts 8 D S) r.state r.dkim r.spf h

  too_deep : (r : Reader) (x : ℕ) → opens r.state x ≡ true → depth_of r.state ≡ 8 → On x (rests r) none
  unfolding rest
  too_deep r x h i = deep_on 8 (exacts 8 D S) (exacts_lawful 8 D S) x r.state r.dkim r.spf h i

  a_step : (r : Reader) (x : ℕ) → again r.state r.dkim r.spf x ≡ false → (opens r.state x ≡ true → depth_of r.state < 8) → On x (rests r) (rests (step r x))
  unfolding rest step
  a_step r x a i = step_on 8 (exacts 8 D S) (exacts_lawful 8 D S) x r.state r.dkim r.spf a i

  over_at : (at : ℕ) (r : Reader) → run_reader at r [] ≡ ended at r
  unfolding run_reader
  over_at at r = refl

  answers : (s : Octets) (at : ℕ) (r : Reader) → depth_of r.state ≤ 8 → fits at r s ≡ is_answer D S (run_reader at r s)
  unfolding ninth step reader is_answer
  answers [] at r h = at_end at r ∙ ap (is_answer D S) (sym (over_at at r))
  answers (x ∷ s) at r h = go (opens r.state x) refl (leb 8 (depth_of r.state)) refl (is_wrong (step r x).state) refl (again r.state r.dkim r.spf x) refl (answers s (suc at) (step r x))
    where
      q : State
      q = r.state

      less : leb 8 (depth_of q) ≡ false → depth_of q < 8
      less g = leb-false 8 (depth_of q) g

      eight : leb 8 (depth_of q) ≡ true → depth_of q ≡ 8
      eight g = omega (arith, h, leb-true 8 (depth_of q) g)

      nine : (o e : Bool) → opens q x ≡ o → leb 8 (depth_of q) ≡ e → ninth q x ≡ (o && e)
      nine o e f g = rw (f, g)

      below : (o e : Bool) → opens q x ≡ o → leb 8 (depth_of q) ≡ e → (o && e) ≡ false → opens q x ≡ true → depth_of q < 8
      below true true f g i j = absurd (true≢false i)
      below true false f g i j = less g
      below false e f g i j = absurd (false≢true (sym f ∙ j))

      no_again : is_wrong (step r x).state ≡ true → again q r.dkim r.spf x ≡ false
      no_again i = known (again q r.dkim r.spf x) refl
        where
          known : (b : Bool) → again q r.dkim r.spf x ≡ b → again q r.dkim r.spf x ≡ false
          known true e = absurd (true≢false (sym i ∙ again_right q r.dkim r.spf x e))
          known false e = e

      by : ninth q x ≡ false → (opens q x ≡ true → depth_of q < 8) → (w : Bool) → is_wrong (step r x).state ≡ w → (a : Bool) → again q r.dkim r.spf x ≡ a
          → (depth_of (step r x).state ≤ 8 → fits (suc at) (step r x) s ≡ is_answer D S (run_reader (suc at) (step r x) s)) → fits at r (x ∷ s) ≡ is_answer D S (run_reader at r (x ∷ s))
      by m b true j a k next =
          dead at r x s (a_step r x (no_again j) b) (ap has_text (nothing_left (step r x) j) ∙ no_text)
          ∙ sym (ap (is_answer D S) (run_wrong r x at s (turn_wrong r x m j)))
      by m b false j true k next = again_dead at q r.dkim r.spf x s k ∙ sym (ap (is_answer D S) (run_again r x at s _ (turn_again r x m j k)))
      by m b false j false k next =
          fits_on at r x s (a_step r x k b) ∙ next (depth_step q r.dkim r.spf x 8 b h) ∙ sym (ap (is_answer D S) (run_on r x at s (step r x) (turn_on r x m j k)))

      go : (o : Bool) → opens q x ≡ o → (e : Bool) → leb 8 (depth_of q) ≡ e → (w : Bool) → is_wrong (step r x).state ≡ w → (a : Bool) → again q r.dkim r.spf x ≡ a
          → (depth_of (step r x).state ≤ 8 → fits (suc at) (step r x) s ≡ is_answer D S (run_reader (suc at) (step r x) s)) → fits at r (x ∷ s) ≡ is_answer D S (run_reader at r (x ∷ s))
      go true f true g w j a k next =
          dead at r x s (too_deep r x f (eight g)) no_text
          ∙ sym (ap (is_answer D S) (run_deep r x at s (turn_deep r x (nine true true f g))))
      go true f false g w j a k next = by (nine true false f g) (below true false f g refl) w j a k next
      go false f e g w j a k next = by (nine false e f g) (below false e f g refl) w j a k next

-- ------------------------------------------------------------------ the claim

flag_self : (b : Bool) → same_flag b b ≡ true
unfolding same_flag
flag_self true = refl
flag_self false = refl

flag_same : (a b : Bool) → same_flag a b ≡ true → b ≡ a
unfolding same_flag
flag_same true b e = e
flag_same false true e = absurd (false≢true e)
flag_same false false e = refl

answer_self : (d s : Bool) → is_answer d s (ok (record { dkim = d; spf = s })) ≡ true
unfolding is_answer
answer_self d s = rw (flag_self d, flag_self s)

answer_is : (d s : Bool) (o : OrRefused NamedMethods) → is_answer d s o ≡ true → o ≡ ok (record { dkim = d; spf = s })
unfolding is_answer
answer_is d s (ok m) e = ap ok (go (same_flag d m.dkim) refl (same_flag s m.spf) refl)
  where
    go : (a : Bool) → same_flag d m.dkim ≡ a → (b : Bool) → same_flag s m.spf ≡ b → m ≡ record { dkim = d; spf = s }
    go true f true g = λ i. record { dkim = flag_same d m.dkim f i; spf = flag_same s m.spf g i }
    go true f false g = absurd (false≢true (rw (f, g) at e))
    go false f b g = absurd (false≢true (rw f at e))
answer_is d s (not_ok r) e = absurd (false≢true e)

nothing_is : (o : Option ℕ) → is_nothing o ≡ true → o ≡ None
unfolding is_nothing
nothing_is None e = refl
nothing_is (Some p) e = absurd (false≢true e)

found_is : (text : Octets) (d s : Bool) → is_nothing (fault (field_naming 8 d s) text) ≡ is_answer d s (read_field text)
unfolding fault fits start reader depth_of
found_is text d s =
    ap is_nothing (fault_same (exact_starts 8 d s) 0 text)
    ∙ answers d s text 0 start (omega arith)
    ∙ ap (is_answer d s) (reads text)

pub exactly : (text : Octets) → Exactly text
exactly text d s = (to, from)
  where
    g : Grammar
    g = field_naming 8 d s

    to : read_field text ≡ ok (record { dkim = d; spf = s }) → Text (field_naming 8 d s) text
    to e = (faults g text).without (nothing_is (fault g text) (found_is text d s ∙ ap (is_answer d s) e ∙ answer_self d s))

    from : Text (field_naming 8 d s) text → read_field text ≡ ok (record { dkim = d; spf = s })
    from t = answer_is d s (read_field text) (sym (found_is text d s) ∙ found ((faults g text).none t))
      where
        found : fault g text ≡ None → is_nothing (fault g text) ≡ true
        found e = ap is_nothing e ∙ (unfold is_nothing in refl)
