-- What is stored of a walk.
use Rattle.std.specs.Prelude.{leb, if◌then◌else◌}
use Rattle.walk_progress.specs.code.Stored.{Stored, still_open, failed, from}

-- a place past 253, which no domain that is stored has, is not stored
unfoldable pub within_253 : Stored → Stored
within_253 still_open = still_open
within_253 failed = failed
within_253 (from place) = if leb place 253 then from place else still_open
