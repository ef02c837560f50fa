-- `walk_stop::keep_stop` meets its contract.
use mathlib.Core.Path.{sym, ap, ◌∙◌}
use Rattle.std.specs.Prelude.{Option, Some}
use Rattle.walk_stop.specs.code.KeptStops.{stop_in, last_in, blank_stop}
use Rattle.octets.specs.Octets.{is_set}
use Rattle.policy.specs.declared.Settings.{Settings}
use Rattle.walk_progress.specs.declared.Applicable.{Applicable}
use Rattle.txt_codes.specs.code.Codes.{settings_of}
use Rattle.txt_codes.proofs.CodeLaws.{settings_back}
use Rattle.walk_stop.proofs.keep_stop.Goals as goal

pub returns-in-None : goal.returns-in-None
unfolding stop_in last_in is_set blank_stop
returns-in-None c =
    let s = c.args.s in
    rw c.no_stop.ensures (λ i. record { last = sym c.in-None.is i; target = s.target; more = s.more })

pub returns-in-Some : goal.returns-in-Some
unfolding stop_in last_in is_set
returns-in-Some c =
    let s = c.args.s in
    let kept : Settings → Option Applicable = λ x. Some (record { begin = c.in-Some.record.begin; settings = x }) in
    λ i. record { last = (ap kept (ap settings_of c.encode_settings.ensures.0 ∙ settings_back _) ∙ sym c.in-Some.is) i; target = s.target; more = s.more }
