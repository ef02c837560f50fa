-- `policy_gather::gather_known` meets its contract: what was found and what is left say together what the whole says.
use mathlib.Core.Bool.{not}
use mathlib.Core.Path.{◌≡◌, refl, ap, sym, ◌∙◌}
use native.Mathlib.Omega.{arith}
use lib.Dec.{eqb}
use lib.ListN.{length, drop, length-set}
use Rattle.octets.specs.Octets.{Octets, is_letter, lower, front, after, is_blank, trim}
use Rattle.policy_words.specs.code.Rows.{tag_number}
use Rattle.policy_tags.specs.code.TagNames.{name_of, tag_value}
use Rattle.policy_tags.proofs.TagLaws.{part_fits, kept_fits, value_fits}
use Rattle.policy_gather.specs.code.Gathering.{bounds_at}
use Rattle.policy_gather.proofs.GatherLaws.{leaves_both, even_set, even_first, turn_ill, turn_unknown, turn_found, turn_new, repeats_some, repeats_none, all_counted, all_placed}
use Rattle.policy_gather.proofs.StartLaws.{some_none, same_some}
use Rattle.policy_gather.proofs.gather_known.Goals as goal

pub loop-at-init : goal.loop-at-init
loop-at-init c =
    (omega arith, refl, refl, even_first, record { place = λ k h. refl; again = refl; count = refl })

pub overflow_add-next : goal.overflow_add-next
overflow_add-next c =
    let m = c.loop-at in
    let text = c.args.text.now in
    let p = c.front-part.result.now in
    let f : p ≡ front (λ x. not (eqb x 59)) (drop m.at text) = c.front-part.ensures ∙ ap (front (λ x. not (eqb x 59))) c.skip.ensures in
    omega (arith, part_fits text m.at c.loop-at-test.true p f, c.well_formed.0.1)

pub overflow_add-next-in-loop-at : goal.overflow_add-next-in-loop-at
overflow_add-next-in-loop-at c =
    let m = c.loop-at in
    let text = c.args.text.now in
    let p = c.front-part.result.now in
    let f : p ≡ front (λ x. not (eqb x 59)) (drop m.at text) = c.front-part.ensures ∙ ap (front (λ x. not (eqb x 59))) c.skip.ensures in
    omega (arith, part_fits text m.at c.loop-at-test.true p f, c.well_formed.0.1)

pub returns-then-lengths-number-ne0 : goal.returns-then-lengths-number-ne0
unfolding trim name_of
returns-then-lengths-number-ne0 c =
    let m = c.loop-at in
    let text = c.args.text.now in
    let p = c.front-part.result.now in
    let f : p ≡ front (λ x. not (eqb x 59)) (drop m.at text) = c.front-part.ensures ∙ ap (front (λ x. not (eqb x 59))) c.skip.ensures in
    let g : c.after-tag.result.now ≡ trim p = c.after-tag.ensures ∙ ap (after is_blank) c.trim_end-kept.ensures in
    let v = c.tag_value-length.result.now in
    let w : v ≡ tag_value (trim p) = c.tag_value-length.ensures ∙ ap tag_value g in
    let n = c.tag_number-number.result in
    let k : n ≡ tag_number (name_of (trim p)) = c.tag_number-number.ensures ∙ ap (λ (l : Octets). tag_number (lower l)) (c.front.ensures ∙ ap (front is_letter) g) in
    let found = turn_found text m.begins m.lengths m.others m.at p f v w c.if-length-ne0.true n k c.if-number-lt14.true c.if-lengths-number-ne0.true in
    record {
      judged = ap not (sym (repeats_some text c.args.from m.begins m.lengths m.others m.at m.invariant.4 found));
      counted = λ g q. absurd (some_none (sym q));
      placed = λ g q. absurd (some_none (sym q));
    }

pub overflow_sub-begins : goal.overflow_sub-begins
unfolding trim
overflow_sub-begins c =
    let m = c.loop-at in
    let text = c.args.text.now in
    let p = c.front-part.result.now in
    let f : p ≡ front (λ x. not (eqb x 59)) (drop m.at text) = c.front-part.ensures ∙ ap (front (λ x. not (eqb x 59))) c.skip.ensures in
    let g : c.after-tag.result.now ≡ trim p = c.after-tag.ensures ∙ ap (after is_blank) c.trim_end-kept.ensures in
    let v = c.tag_value-length.result.now in
    let w : v ≡ tag_value (trim p) = c.tag_value-length.ensures ∙ ap tag_value g in
    omega (arith, ap length w, value_fits p, ap length c.trim_end-kept.ensures)

pub overflow_add-begins : goal.overflow_add-begins
unfolding trim
overflow_add-begins c =
    let m = c.loop-at in
    let text = c.args.text.now in
    let p = c.front-part.result.now in
    let f : p ≡ front (λ x. not (eqb x 59)) (drop m.at text) = c.front-part.ensures ∙ ap (front (λ x. not (eqb x 59))) c.skip.ensures in
    let g : c.after-tag.result.now ≡ trim p = c.after-tag.ensures ∙ ap (after is_blank) c.trim_end-kept.ensures in
    let v = c.tag_value-length.result.now in
    let w : v ≡ tag_value (trim p) = c.tag_value-length.ensures ∙ ap tag_value g in
    omega (arith, part_fits text m.at c.loop-at-test.true p f, kept_fits text m.at c.loop-at-test.true p f _ c.trim_end-kept.ensures)

pub overflow_add-others : goal.overflow_add-others
overflow_add-others c =
    let m = c.loop-at in
    let text = c.args.text.now in
    let p = c.front-part.result.now in
    let f : p ≡ front (λ x. not (eqb x 59)) (drop m.at text) = c.front-part.ensures ∙ ap (front (λ x. not (eqb x 59))) c.skip.ensures in
    omega (arith, m.invariant.0, c.loop-at-test.true, c.well_formed.0.1)

pub loop-at-smaller-else-lengths-number-ne0 : goal.loop-at-smaller-else-lengths-number-ne0
loop-at-smaller-else-lengths-number-ne0 c =
    omega arith

pub loop-at-preserved-else-lengths-number-ne0 : goal.loop-at-preserved-else-lengths-number-ne0
unfolding trim name_of
loop-at-preserved-else-lengths-number-ne0 c =
    let m = c.loop-at in
    let text = c.args.text.now in
    let p = c.front-part.result.now in
    let f : p ≡ front (λ x. not (eqb x 59)) (drop m.at text) = c.front-part.ensures ∙ ap (front (λ x. not (eqb x 59))) c.skip.ensures in
    let g : c.after-tag.result.now ≡ trim p = c.after-tag.ensures ∙ ap (after is_blank) c.trim_end-kept.ensures in
    let v = c.tag_value-length.result.now in
    let w : v ≡ tag_value (trim p) = c.tag_value-length.ensures ∙ ap tag_value g in
    let n = c.tag_number-number.result in
    let k : n ≡ tag_number (name_of (trim p)) = c.tag_number-number.ensures ∙ ap (λ (l : Octets). tag_number (lower l)) (c.front.ensures ∙ ap (front is_letter) g) in (
      omega (arith, m.invariant.0),
      length-set m.begins n _ ∙ m.invariant.1,
      length-set m.lengths n _ ∙ m.invariant.2,
      even_set m.begins m.lengths n _ (length v) (omega (arith, m.invariant.2, c.if-number-lt14.true)) c.if-length-ne0.true m.invariant.3,
      leaves_both m.invariant.4 (turn_new text m.begins m.lengths m.others m.at p f v w c.if-length-ne0.true n k c.if-number-lt14.true m.invariant.1 m.invariant.2 c.if-lengths-number-ne0.false _ c.trim_end-kept.ensures),
    )

pub loop-at-smaller-else-number-lt14 : goal.loop-at-smaller-else-number-lt14
loop-at-smaller-else-number-lt14 c =
    omega arith

pub loop-at-preserved-else-number-lt14 : goal.loop-at-preserved-else-number-lt14
unfolding trim name_of
loop-at-preserved-else-number-lt14 c =
    let m = c.loop-at in
    let text = c.args.text.now in
    let p = c.front-part.result.now in
    let f : p ≡ front (λ x. not (eqb x 59)) (drop m.at text) = c.front-part.ensures ∙ ap (front (λ x. not (eqb x 59))) c.skip.ensures in
    let g : c.after-tag.result.now ≡ trim p = c.after-tag.ensures ∙ ap (after is_blank) c.trim_end-kept.ensures in
    let v = c.tag_value-length.result.now in
    let w : v ≡ tag_value (trim p) = c.tag_value-length.ensures ∙ ap tag_value g in
    let n = c.tag_number-number.result in
    let k : n ≡ tag_number (name_of (trim p)) = c.tag_number-number.ensures ∙ ap (λ (l : Octets). tag_number (lower l)) (c.front.ensures ∙ ap (front is_letter) g) in (
      omega (arith, m.invariant.0),
      m.invariant.1,
      m.invariant.2,
      m.invariant.3,
      leaves_both m.invariant.4 (turn_unknown text m.begins m.lengths m.others m.at p f v w c.if-length-ne0.true n k c.if-number-lt14.false),
    )

pub loop-at-smaller : goal.loop-at-smaller
loop-at-smaller c =
    omega arith

pub loop-at-preserved : goal.loop-at-preserved
unfolding trim name_of
loop-at-preserved c =
    let m = c.loop-at in
    let text = c.args.text.now in
    let p = c.front-part.result.now in
    let f : p ≡ front (λ x. not (eqb x 59)) (drop m.at text) = c.front-part.ensures ∙ ap (front (λ x. not (eqb x 59))) c.skip.ensures in
    let g : c.after-tag.result.now ≡ trim p = c.after-tag.ensures ∙ ap (after is_blank) c.trim_end-kept.ensures in
    let v = c.tag_value-length.result.now in
    let w : v ≡ tag_value (trim p) = c.tag_value-length.ensures ∙ ap tag_value g in (
      omega (arith, m.invariant.0),
      m.invariant.1,
      m.invariant.2,
      m.invariant.3,
      leaves_both m.invariant.4 (turn_ill text m.begins m.lengths m.others m.at p f v w c.if-length-ne0.false),
    )

pub returns : goal.returns
unfolding bounds_at
returns c =
    let m = c.loop-at in
    let text = c.args.text.now in
    let from = c.args.from in
    record {
      judged = ap not (sym (repeats_none text from m.begins m.lengths m.others m.at m.invariant.4 c.loop-at-test.false));
      counted = λ g q. rw (← same_some q) (all_counted text from m.begins m.lengths m.others m.at m.invariant.4 c.loop-at-test.false);
      placed = λ g q. rw (← same_some q) (all_placed text from m.begins m.lengths m.others m.at m.invariant.4 c.loop-at-test.false m.invariant.3);
    }
