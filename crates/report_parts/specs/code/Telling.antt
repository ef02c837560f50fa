-- The numbers that tell of a state.
use Rattle.std.specs.Prelude.{Bool, true, false, eqb, if◌then◌else◌}
use Rattle.report_kept.specs.declared.ReaderState.{ReaderState}
use Rattle.report_parts.specs.declared.Told.{Told}

unfoldable pub told_by : (gives : Bool) → ReaderState → Told
told_by gives s =
    if gives then record { event = 1; number = 0; place = 0; count = s.count }
    else if eqb s.refused 0 then record { event = 0; number = 0; place = 0; count = 0 }
    else record { event = 2; number = s.refused; place = s.taken; count = 0 }
