-- `sheet_run::run` meets its contract.
use Prim.Native.Nat.{ℕ}
use native.Mathlib.Omega.{arith}
use lib.ListN.{length, take, length-replicate, length-take}
use Rattle.sheet_turn.proofs.NameLaws.{front_part}
use Rattle.sheet.specs.Printed.{printed}
use mathlib.Core.Path.{◌≡◌, ap, ◌∙◌}
use Rattle.sheet_run.proofs.run.Goals as goal

pub returns : goal.returns
returns c =
    let sheet = c.args.sheet.now in
    let size = length-replicate {A = ℕ} 36864 0 in
    let front : take c.compose-end.result _ ≡ printed sheet = c.compose-end.ensures size in
    let text : c.part.result.now ≡ printed sheet = c.part.ensures ∙ front_part _ c.compose-end.result ∙ front in
    (rw text at c.write.ensures, omega (arith, simp length-take at (ap length front), c.compose-end.auto, size))
