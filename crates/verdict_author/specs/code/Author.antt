-- What the functions promise that store the author's walk, where it has come so far.
use Rattle.std.specs.Prelude.{List, [], ℕ, drop}
use Rattle.octets.specs.Octets.{Octets}
use Rattle.lookup.specs.Lookup.{Answers}
use Rattle.txt.specs.declared.Reply.{Reply}
use Rattle.alignment_stored.specs.code.Stored.{slot}
use Rattle.walk_progress.specs.code.Stored.{Stored}
use Rattle.walk_progress.specs.declared.Reach.{Reach}
use Rattle.walk_progress.specs.code.Progress.{stored_in}
use Rattle.walk_progress.specs.code.Reaching.{Reached, progress_of}
use Rattle.walk_progress.specs.code.Stops.{reached_in}
use Rattle.verdict_judgement.specs.declared.Terms.{Terms}
use Rattle.verdict_judgement.specs.code.Judging.{stored_message}
use Rattle.verdict_cursor.specs.declared.Ruling.{Ruling}
use Rattle.verdict_cursor.specs.declared.Place.{Place}
use Rattle.verdict_cursor.specs.code.Cursor.{compare_on}
use Rattle.verdict_cursor.specs.code.Standing.{NoneFrom, WritesAuthor, StandsAt}

module _ (domains : Octets) (numbers : List ℕ) where
  abbrev pub author_reached : Reach → Reached
  author_reached w = reached_in (slot domains numbers 0) w

  -- what is stored of it
  abbrev pub author_stored : Reached → Stored
  author_stored w = stored_in (slot domains numbers 0) (progress_of w)

  abbrev pub StoresAuthor : Reach → (before after : List ℕ) → Type 0
  StoresAuthor w before after = WritesAuthor before after (author_stored (author_reached w))

  module _ (t : Terms) (β : Answers Reply) where
    -- all identifiers, with the author's walk stored
    abbrev pub ComparesAll : Ruling → Reach → (before after : List ℕ) → Place → Type 0
    ComparesAll r w before after p =
        let m = stored_message domains numbers t in
        StandsAt domains numbers t (NoneFrom 0 before) after p (compare_on β m (drop r.begin.0 m.author) r.settings r.policy (author_stored (author_reached w)) [] m.identifiers)
