-- `records_check::is_answered` meets its contract: only an answer has a name, and that is looked for.
use borrow.Enum.Refused.{opened}
use mathlib.Core.Path.{sym, ◌∙◌}
use Rattle.records_check.specs.code.Scanning.{names_before}
use Rattle.records_check.proofs.ScanningLaws.{nameless, answered_found, some_octets}
use Rattle.records_check.proofs.is_answered.Goals as goal

pub returns-in_default : goal.returns-in_default
returns-in_default c =
    nameless (names_before c.args.records c.args.sheet.now) c.args.t.now c.args.kind c.requires.kind_value (opened c.in_default.in_default-own.keys2)

pub returns : goal.returns
returns c o e =
    let body = c.body in
    let name = c.name_in-name in
    let found = answered_found c.args.records c.args.t.now c.args.sheet.now c.requires.sheet_len (sym c.in-Answer.is ∙ c.requires.kind_value)
    body.result.now name.result.now c.find.result.now body.ensures name.ensures c.find.ensures in
    rw c.is_empty.ensures (some_octets c.find.result.now ∙ found o e)
