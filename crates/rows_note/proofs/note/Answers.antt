-- `rows_note::note` meets its contract.
use Rattle.std.proofs.Common.{◌∙◌, sym}
use Rattle.rows_note.proofs.NoteLaws.{those_listed, notes_none, notes_full, notes_wrote}
use Rattle.rows_note.proofs.note.Goals as goal

pub returns-in_default : goal.returns-in_default
returns-in_default c =
    let a = c.args in
    notes_none a.seen a.rows.now (sym (rw (c.listed-n.ensures, those_listed) at c.find_row.ensures.place) ∙ c.in_default.is)

pub returns-then-is_full : goal.returns-then-is_full
returns-then-is_full c =
    let a = c.args in
    notes_full a.seen a.rows.now c.in-Some.at (sym (rw (c.listed-n.ensures, those_listed) at c.find_row.ensures.place) ∙ c.in-Some.is) (sym c.is_full.ensures ∙ c.if-is_full.true)

pub returns : goal.returns
returns c =
    let a = c.args in
    rw c.noted.ensures
    (notes_wrote a.seen a.rows.now c.in-Some.at (sym (rw (c.listed-n.ensures, those_listed) at c.find_row.ensures.place) ∙ c.in-Some.is) (sym c.is_full.ensures ∙ c.if-is_full.false))
