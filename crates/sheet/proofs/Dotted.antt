-- The sheets with final dots, by computation.
use mathlib.Core.Path.{refl}
use Rattle.sheet.specs.Dotted.{dotted, DottedSheets}
use Rattle.sheet.proofs.Computing.{sheet_computes}

pub dotted_sheets : DottedSheets
unfolding sheet_computes dotted DottedSheets
dotted_sheets = refl
