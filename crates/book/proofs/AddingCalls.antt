-- The lists of calls with addings, by computation.
use mathlib.Core.Path.{refl}
use Rattle.book.specs.BookClaims.{book_gave}
use Rattle.book.specs.AddingCalls.{backs_by, backs, AddingCalls}
use Rattle.book.proofs.Computing.{book_computes}

pub adding_calls : AddingCalls
unfolding book_computes book_gave backs_by backs
adding_calls = record { index_kept = refl; seventeenth = refl; closed_by_a_name = refl }
