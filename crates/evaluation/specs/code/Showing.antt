-- When what an evaluation keeps shows 01's book.
use Rattle.std.specs.Prelude.{◌≡◌, true, false, Option, None, Some}
use Rattle.lookup.specs.Lookup.{Name, needs}
use Rattle.verdict_cursor.specs.code.Cursor.{Cursor, stands}
use Rattle.verdict_cursor.specs.code.CursorClaims.{KeptCursor}
use Rattle.book.specs.Book.{Book}
use Rattle.evaluation.specs.declared.Evaluation.{Evaluation}
use Rattle.evaluation.specs.code.Machine.{Keeps}
use Rattle.evaluation.specs.code.View.{view}
use Rattle.asking.specs.Asking.{replies}

-- what is kept of a book
unfoldable pub shows : Book → Option Cursor → Keeps
shows b o = record { message = Some b.message; replies = replies b.run.taken; asked = b.run.asked; at = o }

-- where what is kept stands beside a book: nowhere until a name was handed out; then where the book stands, at the name asked if one is
unfoldable pub Beside : Book → Option Cursor → Type 0
Beside b None = b.handed_out ≡ false
Beside b (Some c) = (b.handed_out ≡ true) × KeptCursor (replies b.run.taken) b.message c × ((n : Name) → b.run.asked ≡ Some n → stands b.message c ≡ needs n)

pub record Shows (e : Evaluation) (b : Book) : Type 0 where
  pub stands_at : Option Cursor
  pub keeps : view e ≡ shows b stands_at
  pub beside : Beside b stands_at
