-- `report_picks::begin_word` meets its contract.
use mathlib.Core.Path.{sym, ◌∙◌, subst}
use borrow.Author.Rules.{rules}
use Rattle.std.specs.Prelude.{Ok}
use Rattle.report_words.specs.code.Table.{pick_octets, words_at}
use Rattle.report_choices.proofs.ChoiceLaws.{turns_none, turns_single, turns_begun, picked_few}
use Rattle.report_kept.specs.code.View.{on_word}
use Rattle.report_choices.specs.code.Choices.{BeginsWord}
use Rattle.report_picks.proofs.begin_word.Goals as goal

pub returns-in-None : goal.returns-in-None
returns-in-None c =
    let a = c.args in
    let picks = c.in-None.ensures ∙ (λ j. pick_octets 0 a.x (words_at (c.find_first-first.ensures j) (c.count_words.ensures j))) in
    λ b h l calm. turns_none a.s h l calm b a.x picks

pub returns-in-Some : goal.returns-in-Some
returns-in-Some c =
    let a = c.args in
    let picks = c.in-Some.ensures ∙ (λ j. pick_octets 0 a.x (words_at (c.find_first-first.ensures j) (c.count_words.ensures j))) in
    λ b h l calm. turns_single a.s h l calm b a.x _ _ picks (sym c.has_single.ensures ∙ c.if-has_single.true) (c.leave_word.ensures h l calm)

pub overflow_add-k : goal.overflow_add-k
overflow_add-k c = let few = picked_few c.args.x _ _ _ c.in-Some.ensures in search (rules, few)

pub returns-in-Some-2 : goal.returns-in-Some-2
unfolding on_word
returns-in-Some-2 c =
    let a = c.args in
    let picks = c.in-Some.ensures ∙ (λ j. pick_octets 0 a.x (words_at (c.find_first-first.ensures j) (c.count_words.ensures j))) in
    subst (λ t. BeginsWord a.s a.x (Ok t)) (sym c.go_on.ensures) (λ b h l calm. turns_begun a.s h l calm b a.x _ picks (sym c.has_single.ensures ∙ c.if-has_single.false))
