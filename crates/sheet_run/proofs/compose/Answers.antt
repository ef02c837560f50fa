-- `sheet_run::compose` meets its contract.
use Rattle.sheet_turn.proofs.ConversingLaws.{refusal_alone}
use mathlib.Core.Path.{sym, ◌∙◌}
use native.Mathlib.Omega.{arith}
use Rattle.sheet_run.proofs.compose.Goals as goal

pub returns-in-Err : goal.returns-in-Err
returns-in-Err c = λ size.
    refusal_alone _ c.args.lines.now (omega (arith, size)) c.append_refusal.ensures
    ∙ sym (c.begin-begun.ensures.refused _ c.in-Err.is)

pub returns : goal.returns
returns c = λ size.
    let opened = c.begin-begun.ensures.accepted c.in_default.is in
    c.converse.ensures opened.message opened.all_listed (opened.conversing c.args.lines.now size) ∙ sym opened.prints
