-- How many names can be asked: a message has at most 16 identifiers, so that 136 do.
use mathlib.Core.List.{List, [], ◌∷◌}
use mathlib.Core.Bool.{true, false}
use Prim.Native.Nat.{suc, ◌≤◌}
use native.Mathlib.Omega.{arith}
use lib.ListN.{length}
use Rattle.std.specs.Prelude.{if◌then◌else◌, Some, None, Option}
use Rattle.lookup.specs.Lookup.{Name, list}
use Rattle.lookup.proofs.BoundLaws.{all_in_self, once_at_most}
use Rattle.domain.specs.Domain.{Domain}
use Rattle.policy.specs.declared.Settings.{Settings}
use Rattle.txt.specs.declared.Reply.{Reply}
use Rattle.txt.specs.Answers.{Answer, lookup_error, reply}
use Rattle.asking.specs.Asking.{asked_names, count}
use Rattle.asking.proofs.Completing.{completed, completes}
use Rattle.alignment.specs.Alignments.{Identifier, must_walk}
use Rattle.verdict.specs.Message.{Message}
use Rattle.verdict.specs.Verdict.{separate_walks}
use Rattle.verdict.specs.Claims.{must_walk_domains, walked_by, walked_domains}
use Rattle.book.specs.Start.{Opened}
use Rattle.book.specs.Book.{Call, walks}
use Rattle.book.specs.BookClaims.{book_after, BookClaimed}
use Rattle.book.proofs.BookLaws.{list_bounded, book_claimed}

-- ------------------------------------------------------------------ how many domains are walked

walked_few : (s : Settings) (author : Domain) (is : List Identifier) → length (must_walk_domains s author is) ≤ length is
unfolding must_walk_domains
walked_few s author [] = omega arith
walked_few s author (i ∷ is) =
    elim (must_walk s author i) as (λ t. length (if t then i.domain ∷ must_walk_domains s author is else must_walk_domains s author is) ≤ suc (length is)) [
      | true ↦ omega (arith, walked_few s author is)
      | false ↦ omega (arith, walked_few s author is)
    ]

walked_by_few : (m : Message) (o : Option Domain) (f : Option Settings) → length (walked_by m o f) ≤ length m.identifiers
unfolding walked_by
walked_by_few m o None = omega arith
walked_by_few m None (Some s) = omega arith
walked_by_few m (Some o) (Some s) =
    omega (arith, once_at_most _ [] _ (all_in_self (must_walk_domains s m.author m.identifiers)), walked_few s m.author m.identifiers)

-- no more domains than identifiers
walked_at_most : (α : Name → Reply) (m : Message) → length (walked_domains α m) ≤ length m.identifiers
unfolding walked_domains
walked_at_most α m = walked_by_few m _ _

-- so many names a list can have
pub list_short : (α : Name → Answer) (m : Message) → length m.identifiers ≤ 16 → length (list α (separate_walks m)) ≤ 136
list_short α m few = omega (arith, list_bounded α m, walked_at_most (λ n. reply (α n)) m)

-- ------------------------------------------------------------------ how many names are asked

pub few_asked : (m : Message) → Opened m → (cs : List Call) → length (asked_names (book_after m cs).run) ≤ 136
unfolding BookClaimed walks count
few_asked m o cs =
    let α = completed (book_after m cs).run.taken (λ n. lookup_error) in
    let claims = book_claimed m o cs in
    omega (arith, (claims.bounded α (completes _ _)).0, list_short α (book_after m cs).message claims.up_to_16)
