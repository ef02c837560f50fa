-- The grammars of fields, by what stands before and after their words.
use mathlib.Core.Path.{◌≡◌, refl}
use mathlib.Core.Logic.{◌⊎◌, inl, inr}
use mathlib.Core.Bool.{Bool, true, false}
use Prim.Native.Nat.{ℕ}
use Rattle.std.specs.Prelude.{if◌then◌else◌}
use Rattle.octets.specs.Octets.{octets}
use Rattle.grammar.specs.Grammar.{Grammar, none, empty, ◌then◌, ◌or◌, many, Text}
use Rattle.grammar.proofs.SameLaws.{Among, Same, same_refl, same_sym, ◌⨾◌, then_among, then_same, or_same, assoc, or_then, then_or, then_empty, then_none, or_none, or_comm, or_assoc, or_among_same, many_then, many_among}
use Rattle.field.specs.Field.{optional, one, literal, CRLF, CFWS, heading, dkim, spf, dmarc_method, comma, closing, id_align, repeating}
use Rattle.field.specs.code.Reading.{naming}
use Rattle.field_states.specs.declared.Word.{Word}
use Rattle.field_states.specs.code.States.{word_text, reader, start}
use Rattle.field_states.proofs.LevelLaws.{level, gap_items}
use Rattle.field_states.proofs.WordLaws.{left_of}
use Rattle.field_states.proofs.RestLaws.{Tails, close, after, ending, none_word, words, Lawful, rest, rest_in}

-- ------------------------------------------------------------------ gaps, and a comma or a closing CR LF behind them

module _ (n : ℕ) where
  unfoldable pub ends_by : Grammar → Grammar
  ends_by e = one 13 then one 10 then e

  pub gap_level : (k : Grammar) → Same (optional (CFWS n) then k) (level n k 0)
  unfolding level
  gap_level k = gap_items n k

  comma_gap : (b : Grammar) → Same (comma n then b) (optional (CFWS n) then (one 44 then level n b 0))
  unfolding comma
  comma_gap b =
      let g = optional (CFWS n) in
      assoc g (one 44 then g) b
      ⨾ then_same (same_refl g) (assoc (one 44) g b ⨾ then_same (same_refl (one 44)) (gap_level b))

  pub ends_none : Same (ends_by none) none
  unfolding ends_by
  ends_none = then_same (same_refl (one 13)) (then_none (one 10)) ⨾ then_none (one 13)

  ends_empty : Same CRLF (ends_by empty)
  unfolding ends_by CRLF
  ends_empty = then_same (same_refl (one 13)) (same_sym (then_empty (one 10)))

  -- a comma that must come
  pub comma_level : (b : Grammar) → Same (comma n then b) (level n (one 44 then level n b 0 or ends_by none) 0)
  comma_level b =
      comma_gap b
      ⨾ then_same (same_refl (optional (CFWS n))) (same_sym (or_same (same_refl (one 44 then level n b 0)) ends_none ⨾ or_none (one 44 then level n b 0)))
      ⨾ gap_level (one 44 then level n b 0 or ends_by none)

  pub closing_level : Same (closing n) (level n (ends_by empty) 0)
  unfolding closing
  closing_level = then_same (same_refl (optional (CFWS n))) ends_empty ⨾ gap_level (ends_by empty)

  -- behind a method: more methods, and the closing
  unfoldable pub more : Grammar
  more = many (comma n then dmarc_method) then closing n

  more_is : Same more (closing n or comma n then (dmarc_method then more))
  unfolding more
  more_is =
      many_then (comma n then dmarc_method) (closing n)
      ⨾ or_same (same_refl (closing n)) (assoc (comma n) dmarc_method (many (comma n then dmarc_method) then closing n))

  more_level : Same more (level n (one 44 then level n (dmarc_method then more) 0 or ends_by empty) 0)
  unfolding closing
  more_level =
      let g = optional (CFWS n) in
      let c = one 44 then level n (dmarc_method then more) 0 in
      more_is
      ⨾ or_comm (closing n) (comma n then (dmarc_method then more))
      ⨾ or_same (comma_gap (dmarc_method then more)) (then_same (same_refl g) ends_empty)
      ⨾ same_sym (then_or g c (ends_by empty))
      ⨾ gap_level (c or ends_by empty)

  two : (b : Grammar) → Same (dmarc_method then b) (dkim then b or spf then b)
  unfolding dmarc_method
  two b = or_then dkim spf b

  -- ------------------------------------------------------------------ the field

  unfoldable pub value : Grammar
  value = (literal (octets "none") or dmarc_method then many (comma n then dmarc_method)) then closing n

  unfoldable pub field_before : (dkim spf : Bool) → Grammar
  field_before false false = value
  field_before false true = dmarc_method then more
  field_before true false = dmarc_method then more
  field_before true true = dmarc_method then more

  -- behind a method, where the field may end, and where more must come
  unfoldable pub onward : Grammar
  onward = level n (one 44 then level n (dmarc_method then more) 0 or ends_by empty) 0

  unfoldable pub onto : Grammar → Grammar
  onto b = level n (one 44 then level n b 0 or ends_by none) 0

  abbrev pub fields : Tails
  fields = record { before = field_before; end = λ d s. empty; repeat = λ w d s. onward }

  -- a word and what comes behind it
  pub part : (w : Word) (e f : Grammar) → Same e f → Same (left_of (word_text w) e) (left_of (word_text w) f)
  unfolding left_of word_text octets
  part Word.Name e f h = then_same (same_refl (literal (word_text Word.Name))) h
  part Word.None e f h = then_same (same_refl (literal (word_text Word.None))) h
  part Word.Dkim e f h = then_same (same_refl (literal (word_text Word.Dkim))) h
  part Word.Spf e f h = then_same (same_refl (literal (word_text Word.Spf))) h

  pub dkim_part : (b : Grammar) → Same (dkim then b) (left_of (word_text Word.Dkim) b)
  unfolding dkim left_of word_text octets
  dkim_part b = same_refl _

  pub spf_part : (b : Grammar) → Same (spf then b) (left_of (word_text Word.Spf) b)
  unfolding spf left_of word_text octets
  spf_part b = same_refl _

  pub none_part : (b : Grammar) → Same (literal (octets "none") then b) (left_of (word_text Word.None) b)
  unfolding left_of word_text octets
  none_part b = same_refl _

  -- both methods, and what comes behind each
  pub both_parts : {a b c d : Grammar} → Same a c → Same b d → Same (dkim then a or spf then b) (left_of (word_text Word.Dkim) c or left_of (word_text Word.Spf) d or none)
  both_parts {a} {b} {c} {d} h i =
      or_same (dkim_part a ⨾ part Word.Dkim a c h)
      (spf_part b ⨾ part Word.Spf b d i ⨾ same_sym (or_none (left_of (word_text Word.Spf) d)))

  field_seen : Same (dmarc_method then more) (left_of (word_text Word.Dkim) onward or left_of (word_text Word.Spf) onward or none)
  unfolding onward
  field_seen = two more ⨾ both_parts more_level more_level

  value_is : Same value ((dkim then more or spf then more) or literal (octets "none") then closing n)
  unfolding value more
  value_is =
      or_then (literal (octets "none")) (dmarc_method then many (comma n then dmarc_method)) (closing n)
      ⨾ or_comm (literal (octets "none") then closing n) ((dmarc_method then many (comma n then dmarc_method)) then closing n)
      ⨾ or_same (assoc dmarc_method (many (comma n then dmarc_method)) (closing n) ⨾ two (many (comma n then dmarc_method) then closing n)) (same_refl (literal (octets "none") then closing n))

  field_before_is : (d s : Bool) → Same (field_before d s) (words n fields d s)
  unfolding field_before words ending after close none_word ends_by onward
  field_before_is false false =
      value_is
      ⨾ or_assoc (dkim then more) (spf then more) (literal (octets "none") then closing n)
      ⨾ or_same (dkim_part more ⨾ part Word.Dkim more onward more_level)
      (or_same (spf_part more ⨾ part Word.Spf more onward more_level)
      (none_part (closing n) ⨾ part Word.None (closing n) (level n (ends_by empty) 0) closing_level))
  field_before_is false true = field_seen
  field_before_is true false = field_seen
  field_before_is true true = field_seen

  pub fields_lawful : Lawful n fields
  fields_lawful = record { before_is = field_before_is; end_is = λ d s. inl refl }

  -- ------------------------------------------------------------------ a field that names a method

  -- the method, by whether it is DKIM; whether it was read
  unfoldable pub the : Bool → Grammar
  the true = dkim
  the false = spf

  unfoldable pub seen : Bool → (dkim spf : Bool) → Bool
  seen true d s = d
  seen false d s = s

  unfoldable pub named : Bool → Grammar
  named m = many (dmarc_method then comma n) then the m then more

  unfoldable pub naming_before : Bool → (dkim spf : Bool) → Grammar
  naming_before m d s = if seen m d s then dmarc_method then more else named m

  unfoldable pub naming_end : Bool → Grammar
  naming_end true = empty
  naming_end false = none

  abbrev pub namings : Bool → Tails
  namings m = record { before = naming_before m; end = λ d s. naming_end (seen m d s); repeat = λ w d s. if seen m d s then onward else onto (named m) }

  the_among : (m : Bool) → Among (the m) dmarc_method
  unfolding the dmarc_method Text
  the_among true s t = inl t
  the_among false s t = inr t

  -- a comma and methods, behind a method
  comma_more : Among (comma n then (dmarc_method then more)) more
  unfolding Text
  comma_more s t = more_is.from s (inr t)

  step_named : Among ((dmarc_method then comma n) then (dmarc_method then more)) (dmarc_method then more)
  step_named s t = then_among dmarc_method (comma n then (dmarc_method then more)) dmarc_method more (λ u r. r) comma_more s ((assoc dmarc_method (comma n) (dmarc_method then more)).to s t)

  named_among : (m : Bool) → Among (named m) (dmarc_method then more)
  unfolding named
  named_among m = many_among (dmarc_method then comma n) (the m then more) (dmarc_method then more) (then_among (the m) more dmarc_method more (the_among m) (λ u r. r)) step_named

  comma_named : (m : Bool) → Same (more or comma n then named m) more
  comma_named m =
      or_comm more (comma n then named m)
      ⨾ or_among_same (λ s t. comma_more s (then_among (comma n) (named m) (comma n) (dmarc_method then more) (λ u r. r) (named_among m) s t))

  named_is : (m : Bool) → Same (named m) (the m then more or (dkim then (comma n then named m) or spf then (comma n then named m)))
  unfolding named
  named_is m =
      let p = many (dmarc_method then comma n) then the m then more in
      many_then (dmarc_method then comma n) (the m then more)
      ⨾ or_same (same_refl (the m then more)) (assoc dmarc_method (comma n) p ⨾ two (comma n then p))

  named_dkim : Same (named true) (dkim then more or spf then (comma n then named true))
  unfolding the
  named_dkim =
      let c = comma n then named true in
      named_is true
      ⨾ same_sym (or_assoc (dkim then more) (dkim then c) (spf then c))
      ⨾ or_same (same_sym (then_or dkim more c) ⨾ then_same (same_refl dkim) (comma_named true)) (same_refl (spf then c))

  named_spf : Same (named false) (dkim then (comma n then named false) or spf then more)
  unfolding the
  named_spf =
      let c = comma n then named false in
      named_is false
      ⨾ or_comm (spf then more) (dkim then c or spf then c)
      ⨾ or_assoc (dkim then c) (spf then c) (spf then more)
      ⨾ or_same (same_refl (dkim then c)) (same_sym (then_or spf c more) ⨾ then_same (same_refl spf) (or_comm c more ⨾ comma_named false))

  -- no field goes on behind `none`
  pub no_none : Same none (left_of (word_text Word.None) (level n (ends_by none) 0))
  no_none = same_sym (part Word.None (level n (ends_by none) 0) none (same_sym (gap_level (ends_by none)) ⨾ then_same (same_refl (optional (CFWS n))) ends_none ⨾ then_none (optional (CFWS n))) ⨾ same_sym (none_part none) ⨾ then_none (literal (octets "none")))

  pub with_none : {a b : Grammar} → Same (dkim then a or spf then b) (left_of (word_text Word.Dkim) a or left_of (word_text Word.Spf) b or left_of (word_text Word.None) (level n (ends_by none) 0))
  with_none {a} {b} = both_parts (same_refl a) (same_refl b) ⨾ or_same (same_refl (left_of (word_text Word.Dkim) a)) (or_same (same_refl (left_of (word_text Word.Spf) b)) no_none)

  naming_before_is : (m d s : Bool) → Same (naming_before m d s) (words n (namings m) d s)
  unfolding naming_before naming_end seen words ending after close none_word ends_by onward onto
  naming_before_is true false false =
      named_dkim ⨾ or_same (then_same (same_refl dkim) more_level) (then_same (same_refl spf) (comma_level (named true))) ⨾ with_none
  naming_before_is true false true = named_dkim ⨾ both_parts more_level (comma_level (named true))
  naming_before_is true true false = field_seen
  naming_before_is true true true = field_seen
  naming_before_is false false false =
      named_spf ⨾ or_same (then_same (same_refl dkim) (comma_level (named false))) (then_same (same_refl spf) more_level) ⨾ with_none
  naming_before_is false false true = field_seen
  naming_before_is false true false = named_spf ⨾ both_parts (comma_level (named false)) more_level
  naming_before_is false true true = field_seen

  naming_end_is : (m d s : Bool) → (naming_end (seen m d s) ≡ empty) ⊎ (naming_end (seen m d s) ≡ none)
  naming_end_is m d s = go (seen m d s)
    where
      go : (b : Bool) → (naming_end b ≡ empty) ⊎ (naming_end b ≡ none)
      go true = inl (unfold naming_end in refl)
      go false = inr (unfold naming_end in refl)

  pub namings_lawful : (m : Bool) → Lawful n (namings m)
  namings_lawful m = record { before_is = naming_before_is m; end_is = naming_end_is m }

  -- ------------------------------------------------------------------ a method that is repeated

  unfoldable pub once_more : Bool → Grammar
  once_more m = many (dmarc_method then comma n) then the m

  unfoldable pub twice : Bool → Grammar
  twice m = many (dmarc_method then comma n) then the m then comma n then once_more m

  unfoldable pub repeating_before : Bool → (dkim spf : Bool) → Grammar
  repeating_before m d s = if seen m d s then once_more m else twice m

  -- a method that is whole again ends a text
  unfoldable pub repeats : Bool → Word → (dkim spf : Bool) → Grammar
  repeats m Word.Name d s = none
  repeats m Word.None d s = none
  repeats true Word.Dkim d s = empty or onto (once_more true)
  repeats false Word.Dkim d s = onto (repeating_before false d s)
  repeats true Word.Spf d s = onto (repeating_before true d s)
  repeats false Word.Spf d s = empty or onto (once_more false)

  abbrev pub repeatings : Bool → Tails
  repeatings m = record { before = repeating_before m; end = λ d s. none; repeat = repeats m }

  once_is : (m : Bool) → Same (once_more m) (the m or (dkim then (comma n then once_more m) or spf then (comma n then once_more m)))
  unfolding once_more
  once_is m =
      let p = many (dmarc_method then comma n) then the m in
      many_then (dmarc_method then comma n) (the m)
      ⨾ or_same (same_refl (the m)) (assoc dmarc_method (comma n) p ⨾ two (comma n then p))

  step_once : (m : Bool) → Among ((dmarc_method then comma n) then once_more m) (once_more m)
  unfolding once_more Text
  step_once m s t = (many_then (dmarc_method then comma n) (the m)).from s (inr t)

  twice_among : (m : Bool) → Among (twice m) (once_more m)
  unfolding twice
  twice_among m = many_among (dmarc_method then comma n) (the m then comma n then once_more m) (once_more m) shortest_text (step_once m)
    where
      shortest_text : Among (the m then comma n then once_more m) (once_more m)
      shortest_text s t = step_once m s ((assoc dmarc_method (comma n) (once_more m)).from s (then_among (the m) (comma n then once_more m) dmarc_method (comma n then once_more m) (the_among m) (λ u r. r) s t))

  comma_twice : (m : Bool) → Same (comma n then once_more m or comma n then twice m) (comma n then once_more m)
  comma_twice m =
      or_comm (comma n then once_more m) (comma n then twice m)
      ⨾ or_among_same (then_among (comma n) (twice m) (comma n) (once_more m) (λ u r. r) (twice_among m))

  twice_is : (m : Bool) → Same (twice m) (the m then (comma n then once_more m) or (dkim then (comma n then twice m) or spf then (comma n then twice m)))
  unfolding twice
  twice_is m =
      let q = the m then comma n then once_more m in
      let p = many (dmarc_method then comma n) then q in
      many_then (dmarc_method then comma n) q
      ⨾ or_same (same_refl q) (assoc dmarc_method (comma n) p ⨾ two (comma n then p))

  twice_dkim : Same (twice true) (dkim then (comma n then once_more true) or spf then (comma n then twice true))
  unfolding the
  twice_dkim =
      let c = comma n then twice true in
      let o = comma n then once_more true in
      twice_is true
      ⨾ same_sym (or_assoc (dkim then o) (dkim then c) (spf then c))
      ⨾ or_same (same_sym (then_or dkim o c) ⨾ then_same (same_refl dkim) (comma_twice true)) (same_refl (spf then c))

  twice_spf : Same (twice false) (dkim then (comma n then twice false) or spf then (comma n then once_more false))
  unfolding the
  twice_spf =
      let c = comma n then twice false in
      let o = comma n then once_more false in
      twice_is false
      ⨾ or_comm (spf then o) (dkim then c or spf then c)
      ⨾ or_assoc (dkim then c) (spf then c) (spf then o)
      ⨾ or_same (same_refl (dkim then c)) (same_sym (then_or spf c o) ⨾ then_same (same_refl spf) (or_comm c o ⨾ comma_twice false))

  once_dkim : Same (once_more true) (dkim then (empty or comma n then once_more true) or spf then (comma n then once_more true))
  unfolding the
  once_dkim =
      let o = comma n then once_more true in
      once_is true
      ⨾ same_sym (or_assoc dkim (dkim then o) (spf then o))
      ⨾ or_same (or_same (same_sym (then_empty dkim)) (same_refl (dkim then o)) ⨾ same_sym (then_or dkim empty o)) (same_refl (spf then o))

  once_spf : Same (once_more false) (dkim then (comma n then once_more false) or spf then (empty or comma n then once_more false))
  unfolding the
  once_spf =
      let o = comma n then once_more false in
      once_is false
      ⨾ or_comm spf (dkim then o or spf then o)
      ⨾ or_assoc (dkim then o) (spf then o) spf
      ⨾ or_same (same_refl (dkim then o)) (or_comm (spf then o) spf ⨾ or_same (same_sym (then_empty spf)) (same_refl (spf then o)) ⨾ same_sym (then_or spf empty o))

  repeating_before_is : (m d s : Bool) → Same (repeating_before m d s) (words n (repeatings m) d s)
  unfolding repeating_before repeats seen words ending after close none_word ends_by onto
  repeating_before_is true false false =
      twice_dkim ⨾ or_same (then_same (same_refl dkim) (comma_level (once_more true))) (then_same (same_refl spf) (comma_level (twice true))) ⨾ with_none
  repeating_before_is true false true = twice_dkim ⨾ both_parts (comma_level (once_more true)) (comma_level (twice true))
  repeating_before_is true true false = once_dkim ⨾ both_parts (or_same (same_refl empty) (comma_level (once_more true))) (comma_level (once_more true))
  repeating_before_is true true true = once_dkim ⨾ both_parts (or_same (same_refl empty) (comma_level (once_more true))) (comma_level (once_more true))
  repeating_before_is false false false =
      twice_spf ⨾ or_same (then_same (same_refl dkim) (comma_level (twice false))) (then_same (same_refl spf) (comma_level (once_more false))) ⨾ with_none
  repeating_before_is false true false = twice_spf ⨾ both_parts (comma_level (twice false)) (comma_level (once_more false))
  repeating_before_is false false true = once_spf ⨾ both_parts (comma_level (once_more false)) (or_same (same_refl empty) (comma_level (once_more false)))
  repeating_before_is false true true = once_spf ⨾ both_parts (comma_level (once_more false)) (or_same (same_refl empty) (comma_level (once_more false)))

  pub repeatings_lawful : (m : Bool) → Lawful n (repeatings m)
  repeatings_lawful m = record { before_is = repeating_before_is m; end_is = λ d s. inr refl }

  -- ------------------------------------------------------------------ where a field begins

  pub starts : (t : Tails) → Same (heading n then t.before false false) (rest n t start)
  unfolding rest start reader rest_in left_of word_text octets ending heading
  starts t =
      assoc (literal (octets "identity-alignment:")) (optional (CFWS n)) (t.before false false)
      ⨾ then_same (same_refl (literal (octets "identity-alignment:"))) (gap_level (t.before false false))

  pub field_starts : Same (id_align n) (rest n fields start)
  unfolding id_align field_before value
  field_starts = starts fields

  pub naming_starts : (m : Bool) → Same (naming n (the m)) (rest n (namings m) start)
  unfolding naming naming_before seen named more
  naming_starts true = starts (namings true)
  naming_starts false = starts (namings false)

  pub repeating_starts : (m : Bool) → Same (repeating n (the m)) (rest n (repeatings m) start)
  unfolding repeating repeating_before seen twice once_more
  repeating_starts true = starts (repeatings true)
  repeating_starts false = starts (repeatings false)
