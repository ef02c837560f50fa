-- The reader reads what is defined.
use mathlib.Core.Path.{◌≡◌, refl, sym, ap, ◌∙◌}
use mathlib.Core.List.{[], ◌∷◌}
use mathlib.Core.Bool.{Bool, true, false, ◌&&◌, false≢true, true≢false}
use Prim.Native.Nat.{ℕ, suc, ◌+◌, ◌-◌, ◌≤◌, ◌<◌}
use native.Mathlib.Omega.{arith}
use native.Mathlib.Numerals.{add-one}
use lib.Dec.{leb}
use lib.ListN.{length, take, drop, length-take}
use borrow.Author.Tests.{leb-true, leb-false}
use Rattle.std.specs.Prelude.{if◌then◌else◌, Option, None, Some}
use Rattle.octets.specs.Octets.{Octets, octets, is_nothing}
use Rattle.octets.specs.Refusing.{OrRefused, not_ok, refusal}
use Rattle.grammar.specs.Grammar.{Grammar, none, empty}
use Rattle.grammar.specs.code.Finding.{has_empty, has_text, fault_from, fault, shortest_text_from, shortest_text}
use Rattle.grammar.proofs.Claimed.{fault_least, first_is, first_now}
use Rattle.grammar.proofs.SameLaws.{On, fault_same, first_same, fault_goes_on, fault_stops, first_goes_on, whole_goes_on, first_of_none}
use Rattle.field.specs.declared.NamedMethods.{NamedMethods}
use Rattle.field.specs.Field.{any_depth}
use Rattle.field.specs.code.Reading.{read_field}
use Rattle.field_states.specs.declared.Word.{Word}
use Rattle.field_states.specs.declared.State.{State}
use Rattle.field_states.specs.declared.Reader.{Reader}
use Rattle.field_states.specs.declared.Misread.{Misread}
use Rattle.std.specs.Prelude.{Ok, Err}
use Rattle.field_states.specs.code.States.{word_text, spelled, reader, step_from, step, opens, depth_of, ninth, is_wrong, read_before, is_spelled, again, word_size, turn, ends, ended, misread, run_reader, start}
use Rattle.field_states.proofs.RestLaws.{Tails, Lawful, rest, ending, step_on, deep_on, whole_on}
use Rattle.field_states.proofs.TailLaws.{fields, fields_lawful, field_starts, the, seen, namings, namings_lawful, naming_starts, naming_end, repeatings, repeatings_lawful, repeating_starts, repeats}
use Rattle.field_states.proofs.LiveLaws.{empty_rest, wrong_rest, has_ending, has_rest, begun_step, depth_step, again_right, opens_right, Long, size, long_rest, long_behind}
use Rattle.field_states.proofs.JudgeLaws.{judged, judged_ok, judged_24, judged_25, judged_dkim, judged_spf, read_is}

-- ------------------------------------------------------------------ places found later

first_least : (at : ℕ) (g : Grammar) (s : Octets) (p : ℕ) → shortest_text_from at g s ≡ Some p → at ≤ p
first_least at g s p e = let (m, i, h) = first_is at g s p e in omega (arith, i)

first_long : (k at : ℕ) (g : Grammar) (s : Octets) (p : ℕ) → Long k g → shortest_text_from at g s ≡ Some p → at + k ≤ p
first_long k at g s p l e =
    let (m, i, h) = first_is at g s p e in
    let j = l (take m s) h.is in
    omega (arith, i, j, length-take m s)

both : (a b : Bool) → (a && b) ≡ true → (a ≡ true) × (b ≡ true)
both true b e = (refl, e)
both false b e = absurd (false≢true e)

-- ------------------------------------------------------------------ a turn

module _ (r : Reader) (x : ℕ) where
  pub turn_deep : ninth r.state x ≡ true → turn r x ≡ Err Misread.TooDeep
  unfolding turn
  turn_deep e = rw e

  pub turn_wrong : ninth r.state x ≡ false → is_wrong (step r x).state ≡ true → turn r x ≡ Err Misread.Wrong
  unfolding turn
  turn_wrong e f = rw (e, f)

  pub turn_again : ninth r.state x ≡ false → is_wrong (step r x).state ≡ false → again r.state r.dkim r.spf x ≡ true → turn r x ≡ Err (Misread.Again (word_size r.state))
  unfolding turn
  turn_again e f g = rw (e, f, g)

  pub turn_on : ninth r.state x ≡ false → is_wrong (step r x).state ≡ false → again r.state r.dkim r.spf x ≡ false → turn r x ≡ Ok (step r x)
  unfolding turn
  turn_on e f g = rw (e, f, g)

  module _ (at : ℕ) (s : Octets) where
    pub run_on : (q : Reader) → turn r x ≡ Ok q → run_reader at r (x ∷ s) ≡ run_reader (suc at) q s
    unfolding run_reader
    run_on q h = rw (h, run_reader)

    pub run_wrong : turn r x ≡ Err Misread.Wrong → run_reader at r (x ∷ s) ≡ not_ok (refusal 24 at)
    unfolding run_reader misread
    run_wrong h = rw (h, run_reader)

    pub run_deep : turn r x ≡ Err Misread.TooDeep → run_reader at r (x ∷ s) ≡ not_ok (refusal 25 at)
    unfolding run_reader misread
    run_deep h = rw (h, run_reader)

    pub run_again : (n : ℕ) → turn r x ≡ Err (Misread.Again n) → run_reader at r (x ∷ s) ≡ not_ok (refusal 26 (at + 1 - n))
    unfolding run_reader misread
    run_again n h = rw (h, run_reader)

-- ------------------------------------------------------------------ what is left

module _ (n : ℕ) where
  -- what the definition says of the rest of a text
  unfoldable left : (at : ℕ) → Reader → Octets → OrRefused NamedMethods
  left at r s =
      judged (fault_from at (rest n (fields n) r) s) (fault_from at (rest 8 (fields 8) r) s)
      (shortest_text_from at (rest n (repeatings n true) r) s) (shortest_text_from at (rest n (repeatings n false) r) s)
      (is_nothing (fault_from at (rest 8 (namings 8 true) r) s)) (is_nothing (fault_from at (rest 8 (namings 8 false) r) s))

  -- at the end of the text
  no_first : (m : Bool) (at : ℕ) (r : Reader) → shortest_text_from at (rest n (repeatings n m) r) [] ≡ None
  unfolding shortest_text_from rest
  no_first m at r = rw (empty_rest n (repeatings n m) (repeatings_lawful n m) r.state r.dkim r.spf) (go (ends r.state))
    where
      go : (b : Bool) → ◌≡◌ {A = Option ℕ} (if b && has_empty none then Some at else None) None
      go true = unfold has_empty in refl
      go false = refl

  fields_end : (k at : ℕ) (r : Reader) → fault_from at (rest k (fields k) r) [] ≡ (if ends r.state then None else Some at)
  unfolding fault_from rest
  fields_end k at r = rw (empty_rest k (fields k) (fields_lawful k) r.state r.dkim r.spf) (go (ends r.state))
    where
      go : (b : Bool) → ◌≡◌ {A = Option ℕ} (if b && has_empty empty then None else Some at) (if b then None else Some at)
      go true = unfold has_empty in refl
      go false = refl

  named_end : (m : Bool) (at : ℕ) (r : Reader) → ends r.state ≡ true → is_nothing (fault_from at (rest 8 (namings 8 m) r) []) ≡ seen 8 m r.dkim r.spf
  unfolding fault_from rest is_nothing
  named_end m at r h = rw (empty_rest 8 (namings 8 m) (namings_lawful 8 m) r.state r.dkim r.spf, h) (go (seen 8 m r.dkim r.spf))
    where
      go : (b : Bool) → is_nothing (if has_empty (naming_end 8 b) then None else Some at) ≡ b
      go true = unfold has_empty naming_end in refl
      go false = unfold has_empty naming_end in refl

  end_is : (at : ℕ) (r : Reader) → run_reader at r [] ≡ left at r []
  unfolding run_reader ended left seen
  end_is at r = go (ends r.state) refl
    where
      go : (b : Bool) → ends r.state ≡ b → ended at r ≡ left at r []
      go true e =
          rw (fields_end n at r, fields_end 8 at r, no_first true at r, no_first false at r, named_end true at r e, named_end false at r e, e)
          (sym (judged_ok r.dkim r.spf))
      go false e = rw (fields_end n at r, fields_end 8 at r, no_first true at r, no_first false at r, e) (sym (judged_24 _ _ at))

  -- ------------------------------------------------------------------ one octet

  module _ (at : ℕ) (r : Reader) (x : ℕ) (s : Octets) where
    -- a step, of any of the grammars
    on_step : (k : ℕ) (t : Tails) → Lawful k t → again r.state r.dkim r.spf x ≡ false → (opens r.state x ≡ true → depth_of r.state < k) → On x (rest k t r) (rest k t (step r x))
    unfolding rest step
    on_step k t l h i = step_on k t l x r.state r.dkim r.spf h i

    not_empty : (m : Bool) → has_empty (rest n (repeatings n m) r) ≡ false
    unfolding rest
    not_empty m = empty_rest n (repeatings n m) (repeatings_lawful n m) r.state r.dkim r.spf ∙ go (ends r.state)
      where
        go : (b : Bool) → (b && has_empty none) ≡ false
        go true = unfold has_empty in refl
        go false = refl

    live_step : (k : ℕ) → is_wrong (step r x).state ≡ false → has_text (rest k (fields k) (step r x)) ≡ true
    unfolding rest step
    live_step k h = has_rest k (step_from r.state r.dkim r.spf x).state _ _ (begun_step r.state r.dkim r.spf x) h

    -- an octet that is wrong leaves nothing
    left_nothing : (k : ℕ) (t : Tails) → is_wrong (step r x).state ≡ true → rest k t (step r x) ≡ none
    unfolding rest
    left_nothing k t h = wrong_rest k t (step r x).state (step r x).dkim (step r x).spf h

    -- no method is repeated by an octet that opens a comment, or that is wrong
    no_again : is_wrong (step r x).state ≡ true → again r.state r.dkim r.spf x ≡ false
    unfolding step
    no_again h = go (again r.state r.dkim r.spf x) refl
      where
        go : (b : Bool) → again r.state r.dkim r.spf x ≡ b → again r.state r.dkim r.spf x ≡ false
        go true e = absurd (true≢false (sym h ∙ again_right r.state r.dkim r.spf x e))
        go false e = e

    goes_on : again r.state r.dkim r.spf x ≡ false → is_wrong (step r x).state ≡ false → (opens r.state x ≡ true → depth_of r.state < 8) → (opens r.state x ≡ true → depth_of r.state < n)
        → left at r (x ∷ s) ≡ left (suc at) (step r x) s
    unfolding left
    goes_on h i j k =
        rw (
          fault_goes_on (on_step n (fields n) (fields_lawful n) h k) at s (live_step n i),
          fault_goes_on (on_step 8 (fields 8) (fields_lawful 8) h j) at s (live_step 8 i),
          first_goes_on (on_step n (repeatings n true) (repeatings_lawful n true) h k) at s (not_empty true),
          first_goes_on (on_step n (repeatings n false) (repeatings_lawful n false) h k) at s (not_empty false),
          whole_goes_on (on_step 8 (namings 8 true) (namings_lawful 8 true) h j) at s,
          whole_goes_on (on_step 8 (namings 8 false) (namings_lawful 8 false) h j) at s,
        )

    -- refusal 24
    stops : (k : ℕ) → is_wrong (step r x).state ≡ true → (opens r.state x ≡ true → depth_of r.state < k) → fault_from at (rest k (fields k) r) (x ∷ s) ≡ Some at
    stops k h i = fault_stops (on_step k (fields k) (fields_lawful k) (no_again h) i) at s (ap has_text (left_nothing k (fields k) h) ∙ unfold has_text in refl)

    no_more : (m : Bool) → is_wrong (step r x).state ≡ true → (opens r.state x ≡ true → depth_of r.state < n) → shortest_text_from at (rest n (repeatings n m) r) (x ∷ s) ≡ None
    no_more m h i =
        first_goes_on (on_step n (repeatings n m) (repeatings_lawful n m) (no_again h) i) at s (not_empty m)
        ∙ ap (λ g. shortest_text_from (suc at) g s) (left_nothing n (repeatings n m) h)
        ∙ first_of_none (suc at) s

    wrong_is : is_wrong (step r x).state ≡ true → (opens r.state x ≡ true → depth_of r.state < 8) → (opens r.state x ≡ true → depth_of r.state < n) → left at r (x ∷ s) ≡ not_ok (refusal 24 at)
    unfolding left
    wrong_is h j k = rw (stops n h k, stops 8 h j, no_more true h k, no_more false h k) (judged_24 _ _ at)

    -- refusal 25
    opening_right : opens r.state x ≡ true → again r.state r.dkim r.spf x ≡ false
    unfolding opens again
    opening_right h = go r.state h
      where
        go : (q : State) → opens q x ≡ true → again q r.dkim r.spf x ≡ false
        go (State.Spelling w k) e = absurd (false≢true e)
        go (State.Between side b k) e = refl

    deeper : opens r.state x ≡ true → depth_of r.state < n → (q : ℕ) → fault_from at (rest n (fields n) r) (x ∷ s) ≡ Some q → at < q
    unfolding step
    deeper h i q e =
        fault_least (suc at) (rest n (fields n) (step r x)) s q
        (sym (fault_goes_on (on_step n (fields n) (fields_lawful n) (opening_right h) (λ _. i)) at s (live_step n (opens_right r.state r.dkim r.spf x h))) ∙ e)

    deep_is : opens r.state x ≡ true → depth_of r.state ≡ 8 → depth_of r.state < n → left at r (x ∷ s) ≡ not_ok (refusal 25 at)
    unfolding left rest size
    deep_is h i j =
        rw (fault_stops (deep_on 8 (fields 8) (fields_lawful 8) x r.state r.dkim r.spf h i) at s (unfold has_text in refl))
        (judged_25 _ _ at _ _ _ (deeper h j)
        (λ q e. first_long 4 at (rest n (repeatings n true) r) (x ∷ s) q (long_rest n true r.state r.dkim r.spf x h) e)
        (λ q e. first_long 3 at (rest n (repeatings n false) r) (x ∷ s) q (long_rest n false r.state r.dkim r.spf x h) e))

  -- refusal 26
  module _ (at : ℕ) (w : Word) (k : ℕ) (d p : Bool) (x : ℕ) (s : Octets) (h : is_spelled (spelled (drop k (word_text w)) x) ≡ true) where
    here : Reader
    here = reader (State.Spelling w k) d p

    on_whole : (m : ℕ) (t : Tails) → Lawful m t → On x (rest m t here) (ending m t w d p)
    unfolding rest here reader
    on_whole m t l = whole_on m t l x w k d p h

    not_yet : (m : ℕ) (q : ℕ) → fault_from at (rest m (fields m) here) (x ∷ s) ≡ Some q → suc at ≤ q
    not_yet m q e = fault_least (suc at) (ending m (fields m) w d p) s q (sym (fault_goes_on (on_whole m (fields m) (fields_lawful m)) at s (has_ending m w d p)) ∙ e)

    firsts_on : (m : Bool) → shortest_text_from at (rest n (repeatings n m) here) (x ∷ s) ≡ shortest_text_from (suc at) (ending n (repeatings n m) w d p) s
    firsts_on m = first_goes_on (on_whole n (repeatings n m) (repeatings_lawful n m)) at s (not_empty at here x s m)

  repeated_is : (at : ℕ) (w : Word) (k : ℕ) (d p : Bool) (x : ℕ) (s : Octets) → is_spelled (spelled (drop k (word_text w)) x) ≡ true → read_before w d p ≡ true
      → left at (reader (State.Spelling w k) d p) (x ∷ s) ≡ not_ok (refusal 26 (suc at - length (word_text w)))
  unfolding left read_before word_text octets here
  repeated_is at Word.Name k d p x s h i = absurd (false≢true i)
  repeated_is at Word.None k d p x s h i = absurd (false≢true i)
  repeated_is at Word.Dkim k d p x s h i =
      rw (firsts_on at Word.Dkim k d p x s h true ∙ first_now (suc at) (ending n (repeatings n true) Word.Dkim d p) s whole_again)
      (judged_dkim _ _ at _ _ _ (not_yet at Word.Dkim k d p x s h n) (not_yet at Word.Dkim k d p x s h 8) (λ q e. first_least (suc at) _ s q (sym (firsts_on at Word.Dkim k d p x s h false) ∙ e)))
    where
      whole_again : has_empty (ending n (repeatings n true) Word.Dkim d p) ≡ true
      whole_again = unfold ending repeats has_empty in rw i
  repeated_is at Word.Spf k d p x s h i =
      rw (firsts_on at Word.Spf k d p x s h false ∙ first_now (suc at) (ending n (repeatings n false) Word.Spf d p) s whole_again)
      (judged_spf _ _ at _ _ _ (not_yet at Word.Spf k d p x s h n) (not_yet at Word.Spf k d p x s h 8)
      (λ q e. first_long 4 (suc at) _ s q (long_behind n d p) (sym (firsts_on at Word.Spf k d p x s h true) ∙ e)))
    where
      whole_again : has_empty (ending n (repeatings n false) Word.Spf d p) ≡ true
      whole_again = unfold ending repeats has_empty in rw i

  again_is : (at : ℕ) (q : State) (d p : Bool) (x : ℕ) (s : Octets) → again q d p x ≡ true → left at (reader q d p) (x ∷ s) ≡ not_ok (refusal 26 (at + 1 - word_size q))
  unfolding again word_size
  again_is at (State.Spelling w k) d p x s h =
      let (a, b) = both (is_spelled (spelled (drop k (word_text w)) x)) (read_before w d p) h in
      rw (add-one at) (repeated_is at w k d p x s a b)
  again_is at (State.Between side b k) d p x s h = absurd (false≢true h)

  -- ------------------------------------------------------------------ the whole text

  run_is : (s : Octets) (at : ℕ) (r : Reader) → depth_of r.state ≤ 8 → depth_of r.state + length s ≤ n → run_reader at r s ≡ left at r s
  unfolding ninth step reader
  run_is [] at r h i = end_is at r
  run_is (x ∷ s) at r h i = go (opens r.state x) refl (leb 8 (depth_of r.state)) refl (is_wrong (step r x).state) refl (again r.state r.dkim r.spf x) refl (run_is s (suc at) (step r x))
    where
      q : State
      q = r.state

      fits : depth_of q < n
      fits = omega (arith, i)

      less : leb 8 (depth_of q) ≡ false → depth_of q < 8
      less g = leb-false 8 (depth_of q) g

      eight : leb 8 (depth_of q) ≡ true → depth_of q ≡ 8
      eight g = omega (arith, h, leb-true 8 (depth_of q) g)

      shut : {m : ℕ} → opens q x ≡ false → opens q x ≡ true → depth_of q < m
      shut f o = absurd (false≢true (sym f ∙ o))

      deep : (opens q x ≡ true → depth_of q < 8) → depth_of (step r x).state ≤ 8
      deep o = depth_step q r.dkim r.spf x 8 o h

      more : depth_of (step r x).state + length s ≤ n
      more = let k = depth_step q r.dkim r.spf x (suc (depth_of q)) (λ o. omega arith) (omega arith) in omega (arith, i, k)

      nine : (o e : Bool) → opens q x ≡ o → leb 8 (depth_of q) ≡ e → ninth q x ≡ (o && e)
      nine o e f g = rw (f, g)

      refused_26 : ninth q x ≡ false → is_wrong (step r x).state ≡ false → again q r.dkim r.spf x ≡ true → run_reader at r (x ∷ s) ≡ left at r (x ∷ s)
      refused_26 m j k = run_again r x at s (word_size q) (turn_again r x m j k) ∙ sym (again_is at q r.dkim r.spf x s k)

      go : (o : Bool) → opens q x ≡ o → (e : Bool) → leb 8 (depth_of q) ≡ e → (w : Bool) → is_wrong (step r x).state ≡ w → (a : Bool) → again q r.dkim r.spf x ≡ a
          → (depth_of (step r x).state ≤ 8 → depth_of (step r x).state + length s ≤ n → run_reader (suc at) (step r x) s ≡ left (suc at) (step r x) s)
          → run_reader at r (x ∷ s) ≡ left at r (x ∷ s)
      go true f true g w j a k next = run_deep r x at s (turn_deep r x (nine true true f g)) ∙ sym (deep_is at r x s f (eight g) fits)
      go true f false g true j a k next = run_wrong r x at s (turn_wrong r x (nine true false f g) j) ∙ sym (wrong_is at r x s j (λ o. less g) (λ o. fits))
      go true f false g false j true k next = refused_26 (nine true false f g) j k
      go true f false g false j false k next =
          run_on r x at s (step r x) (turn_on r x (nine true false f g) j k) ∙ next (deep (λ o. less g)) more ∙ sym (goes_on at r x s k j (λ o. less g) (λ o. fits))
      go false f e g true j a k next = run_wrong r x at s (turn_wrong r x (nine false e f g) j) ∙ sym (wrong_is at r x s j (shut f) (shut f))
      go false f e g false j true k next = refused_26 (nine false e f g) j k
      go false f e g false j false k next =
          run_on r x at s (step r x) (turn_on r x (nine false e f g) j k) ∙ next (deep (shut f)) more ∙ sym (goes_on at r x s k j (shut f) (shut f))

-- ------------------------------------------------------------------ the claim

pub reads : (s : Octets) → run_reader 0 start s ≡ read_field s
unfolding left any_depth fault shortest_text start reader depth_of the
reads s =
    run_is (length s) s 0 start (omega arith) (omega arith)
    ∙ rw (
      sym (fault_same (field_starts (length s)) 0 s),
      sym (fault_same (field_starts 8) 0 s),
      sym (first_same (repeating_starts (length s) true) 0 s),
      sym (first_same (repeating_starts (length s) false) 0 s),
      sym (fault_same (naming_starts 8 true) 0 s),
      sym (fault_same (naming_starts 8 false) 0 s),
    )
    (sym (read_is s))
