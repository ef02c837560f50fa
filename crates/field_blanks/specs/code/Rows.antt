-- The blanks behind a CR, a LF or a blank.
use Rattle.std.specs.Prelude.{Bool, ℕ, eqb, if◌then◌else◌}
use Rattle.field_states.specs.declared.Blanks.{Blanks}
use Rattle.field_states.specs.code.States.{after_blank, after_cr, after_lf}

unfoldable pub after_space : Blanks → (closes : Bool) → ℕ → Blanks
after_space b closes x = if eqb x 13 then after_cr closes b else if eqb x 10 then after_lf b else after_blank b
