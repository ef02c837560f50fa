-- `records_find::find` meets its contract. The loop's invariant: no record that was passed answers the name, so what is left decides.
use mathlib.Core.Path.{◌≡◌}
use Prim.Native.Nat.{◌-◌}
use Rattle.records_fields.specs.code.Layout.{found_body}
use Rattle.records_find.proofs.find.Given as goal

abbrev pub invariant-loop : goal.invariant-loop
invariant-loop l = found_body l.records l.name l.sheet ≡ found_body (l.records - l.counter) l.name l.t
