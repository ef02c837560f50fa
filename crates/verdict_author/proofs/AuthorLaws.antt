-- What the proofs of the functions cite that store the author's walk.
use mathlib.Core.Path.{◌≡◌, ◌∙◌}
use mathlib.Core.List.{List}
use Prim.Native.Nat.{ℕ, ◌+◌, ◌-◌}
use native.Mathlib.Omega.{arith}
use Rattle.octets.specs.Octets.{Octets}
use Rattle.lookup.specs.Lookup.{Answers}
use Rattle.txt.specs.declared.Reply.{Reply}
use Rattle.alignment_stored.specs.code.Stored.{slot}
use Rattle.walk_progress.specs.declared.Reach.{Reach}
use Rattle.walk_progress.specs.code.Stops.{stored_of}
use Rattle.walk_turn.specs.code.Storing.{within_253}
use Rattle.walk_turn.proofs.TurnLaws.{within_short}
use Rattle.verdict_judgement.specs.declared.Terms.{Terms}
use Rattle.verdict_judgement.specs.code.Judging.{stored_message}
use Rattle.verdict_cursor.specs.declared.Ruling.{Ruling}
use Rattle.verdict_cursor.specs.declared.Place.{Place}
use Rattle.verdict_cursor.specs.code.Standing.{WritesAuthor, passed_from, given_count, ComparesFrom}
use Rattle.verdict_cursor.proofs.PassedLaws.{none_written}
use Rattle.alignment_stored.proofs.StoredLaws.{slot_size}
use Rattle.verdict_author.specs.code.Author.{author_reached, author_stored, StoresAuthor, ComparesAll}

module _ (domains : Octets) (numbers : List ℕ) where
  -- the author's number, where it is that of the walk
  pub stores_author : (before after : List ℕ) (w : Reach) (n : ℕ) → WritesAuthor before after (stored_of n)
      → stored_of n ≡ within_253 (author_stored domains numbers (author_reached domains numbers w)) → StoresAuthor domains numbers w before after
  stores_author before after w n e f = record { number = e.number ∙ f ∙ within_short (slot domains numbers 0) _ (slot_size domains numbers 0); others = e.others }

  module _ (t : Terms) (β : Answers Reply) (after : List ℕ) (p : Place) where
    -- comparing from the first identifier on
    pub compares_all : (before with_author : List ℕ) (r : Ruling) (w : Reach) → StoresAuthor domains numbers w before with_author → ComparesFrom domains numbers t β with_author r 1 after p
        → ComparesAll domains numbers t β r w before after p
    unfolding passed_from stored_message given_count
    compares_all before with_author r w e f =
        let all : given_count domains numbers t + 1 - 1 ≡ given_count domains numbers t = omega arith in
        record { place = rw (e.number, all) at f.place; only = λ z. f.only (none_written before with_author _ e z) }
