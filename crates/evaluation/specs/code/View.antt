-- What an evaluation keeps, read from its fields. Every evaluation is read, those too that no call can make.
use Rattle.std.specs.Prelude.{◌≡◌, List, [], Bool, true, false, ℕ, get_or, replicate, Option, None, Some}
use Rattle.lookup.specs.Lookup.{Name, Answers}
use Rattle.txt.specs.declared.Reply.{Reply}
use Rattle.walk_known.specs.code.Kept.{kept_answers}
use Rattle.walk_stop.specs.code.KeptStops.{blank_stop}
use Rattle.verdict.specs.declared.Existence.{Existence}
use Rattle.verdict_cursor.specs.declared.PlaceKind.{PlaceKind}
use Rattle.verdict_cursor.specs.code.Cursor.{Cursor, stands, needed, numbers_of}
use Rattle.verdict_cursor.specs.code.Standing.{cursor_in}
use Rattle.verdict_cursor.specs.code.Positions.{place_in}
use Rattle.evaluation.specs.declared.Evaluation.{Evaluation}
use Rattle.evaluation.specs.GivenBack.{message_now}
use Rattle.evaluation.specs.code.Machine.{Keeps, keeps_nothing, keeps_opened}

-- ------------------------------------------------------------------ what an evaluation keeps

unfoldable pub replies_now : Evaluation → Answers Reply
replies_now e = kept_answers e.domains e.count e.kept

unfoldable pub cursor_now : Evaluation → Cursor
cursor_now e = cursor_in e.domains e.numbers e.terms e.stored (place_in e.position)

unfoldable pub asked_now : Evaluation → (asked : Bool) → Option Name
asked_now e false = None
asked_now e true = needed (stands (message_now e) (cursor_now e))

unfoldable pub handed_view : Evaluation → Keeps
handed_view e = record { message = Some (message_now e); replies = replies_now e; asked = asked_now e e.asked; at = Some (cursor_now e) }

-- before the first step no reply is read, and before an opening nothing
unfoldable pub view_by : Evaluation → (started handed : Bool) → Keeps
view_by e false handed = keeps_nothing
view_by e true false = keeps_opened (message_now e)
view_by e true true = handed_view e

unfoldable pub view : Evaluation → Keeps
view e = view_by e e.started e.handed

-- the numbers of what is kept of the walks: none before the first step
unfoldable pub numbers_kept : Option Cursor → List ℕ
numbers_kept None = []
numbers_kept (Some c) = numbers_of c

-- an evaluation that stores these numbers, and no others
unfoldable pub Numbered : Evaluation → Type 0
Numbered e = (walk : ℕ) → get_or e.stored walk 0 ≡ get_or (numbers_kept (view e).at) walk 0

-- an evaluation in which nothing was opened: every octet and every number of it is 0
unfoldable pub blank : Evaluation
blank = record {
  started = false;
  handed = false;
  asked = false;
  domains = replicate 4301 0;
  numbers = replicate 51 0;
  terms = record { existence = Existence.Missing; support = false; identifiers = 0 };
  kept = replicate 408 0;
  count = 0;
  stored = replicate 17 0;
  position = record {
    kind = PlaceKind.OwnName;
    ruling = record { begin = record { 0 = 0 }; settings = 0; policy = 0 };
    walk = 0;
    stop = blank_stop;
  };
}
