-- `report_store::put` meets its contract.
use mathlib.Core.Path.{◌≡◌, sym, ap, ◌∙◌}
use mathlib.Core.List.{[], ◌∷◌}
use Prim.Native.Nat.{◌+◌}
use Rattle.octets.specs.Octets.{Octets}
use Rattle.report_kept.specs.code.View.{laid_at, write}
use Rattle.report_store.proofs.StoreLaws.{writes_two, writes_three, writes_four}
use Rattle.report_store.proofs.put.Goals as goal

pub returns-in-Nothing : goal.returns-in-Nothing
unfolding write
returns-in-Nothing c = sym (ap (λ w. write w c.args.row.now) c.in-Nothing.is)

pub returns-in-One : goal.returns-in-One
unfolding write
returns-in-One c = c.put_one.ensures ∙ sym (ap (λ w. write w c.args.row.now) c.in-One.is)

pub returns-in-Two : goal.returns-in-Two
returns-in-Two c =
    let row = c.args.row.now in
    let w = c.in-Two in
    c.put_one-in-Two-2.ensures
    ∙ ap (λ (l : Octets). laid_at (w.at + 1) (w.b ∷ []) l) c.put_one-in-Two.ensures
    ∙ writes_two w.at row w.a w.b
    ∙ sym (ap (λ w. write w row) w.is)

pub returns-in-Three : goal.returns-in-Three
returns-in-Three c =
    let row = c.args.row.now in
    let w = c.in-Three in
    let second = c.put_one-in-Three-2.ensures ∙ ap (λ (l : Octets). laid_at (w.at + 1) (w.b ∷ []) l) c.put_one-in-Three.ensures in
    c.put_one-in-Three-3.ensures
    ∙ ap (λ (l : Octets). laid_at (w.at + 2) (w.c ∷ []) l) second
    ∙ writes_three w.at row w.a w.b w.c
    ∙ sym (ap (λ w. write w row) w.is)

pub returns-in-Four : goal.returns-in-Four
returns-in-Four c =
    let row = c.args.row.now in
    let w = c.in-Four in
    let second = c.put_one-in-Four-2.ensures ∙ ap (λ (l : Octets). laid_at (w.at + 1) (w.b ∷ []) l) c.put_one-in-Four.ensures in
    let third = c.put_one-in-Four-3.ensures ∙ ap (λ (l : Octets). laid_at (w.at + 2) (w.c ∷ []) l) second in
    c.put_one-in-Four-4.ensures
    ∙ ap (λ (l : Octets). laid_at (w.at + 3) (w.d ∷ []) l) third
    ∙ writes_four w.at row w.a w.b w.c w.d
    ∙ sym (ap (λ w. write w row) w.is)
