-- `sheet_run::converse` meets its contract.
use mathlib.Core.Path.{◌≡◌}
use Rattle.verdict.specs.Message.{Message}
use Rattle.records_fields.specs.code.Layout.{listed}
use Rattle.sheet_turn.specs.code.Conversing.{answers_on, Conversing}
use Prim.Native.Nat.{◌≤◌, ◌-◌}
use lib.ListN.{length}
use Rattle.sheet_run.proofs.converse.Given as goal

abbrev pub invariant-loop-turns : goal.invariant-loop-turns
invariant-loop-turns l = ((m : Message) → length (listed l.records l.sheet) ≡ l.records → Conversing m (answers_on l.records l.sheet) l.initial.turns l.initial.now l.initial.at l.initial.lines → Conversing m (answers_on l.records l.sheet) l.turns l.now l.at l.lines)
    × (length l.lines ≡ length l.initial.lines)
    × (l.turns ≤ 137)

abbrev pub decreases-loop-turns : goal.decreases-loop-turns
decreases-loop-turns l = 137 - l.turns
