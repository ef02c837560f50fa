-- Where a walk stops, as it is kept, read. Every value is read.
use Rattle.std.specs.Prelude.{Bool, true, false, Option, None, Some}
use Rattle.octets.specs.Octets.{is_set}
use Rattle.txt_codes.specs.code.Codes.{settings_of}
use Rattle.walk_progress.specs.declared.Applicable.{Applicable}
use Rattle.walk_progress.specs.declared.Stop.{Stop}
use Rattle.walk_stop.specs.declared.KeptStop.{KeptStop}

unfoldable pub last_in : KeptStop → (found : Bool) → Option Applicable
last_in k false = None
last_in k true = Some (record { begin = k.begin; settings = settings_of k.settings })

unfoldable pub stop_in : KeptStop → Stop
stop_in k = record { last = last_in k (is_set k.found); target = k.target; more = k.more }

-- every number of it is 0
unfoldable pub blank_stop : KeptStop
blank_stop = record {
  found = 0;
  begin = record { 0 = 0 };
  settings = 0;
  target = record { begin = record { 0 = 0 }; wider = record { 0 = 0 } };
  more = record { 0 = 0 };
}
