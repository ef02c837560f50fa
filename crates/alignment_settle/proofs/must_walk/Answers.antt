-- `alignment_settle::must_walk` meets its contract.
use mathlib.Core.Path.{◌≡◌, refl, ap, ◌∙◌}
use mathlib.Core.Bool.{Bool, true, false, not}
use Rattle.std.specs.Prelude.{Option, Some, None}
use Rattle.std.specs.Option.{is_some}
use Rattle.octets.specs.Octets.{is_nothing}
use Rattle.alignment.specs.declared.Alignment.{Alignment}
use Rattle.alignment.specs.Alignments.{must_walk}
use Rattle.alignment_settle.proofs.must_walk.Goals as goal

none : (o : Option Alignment) (r : Bool) → is_some o ≡ not r → r ≡ is_nothing o
unfolding is_nothing
none None true e = refl
none None false e = e
none (Some a) true e = e
none (Some a) false e = refl

pub returns : goal.returns
unfolding must_walk
returns c = none c.settle_at.result c.is_none.result c.is_none.ensures ∙ ap is_nothing c.settle_at.ensures
