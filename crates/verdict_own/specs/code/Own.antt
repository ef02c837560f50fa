-- What the functions promise that go on from the reply at the author's own name.
use Rattle.std.specs.Prelude.{List, true, ℕ, Option, Some}
use Rattle.octets.specs.Octets.{Octets}
use Rattle.lookup.specs.Lookup.{Answers}
use Rattle.domain.specs.Domain.{Domain}
use Rattle.policy.specs.declared.Settings.{Settings}
use Rattle.txt.specs.declared.Reply.{Reply}
use Rattle.std.specs.declared.ops.ControlFlow.{ControlFlow}
use Rattle.walk_progress.specs.declared.Applicable.{Applicable}
use Rattle.walk_progress.specs.declared.Reach.{Reach}
use Rattle.walk_progress.specs.code.Reaching.{Reached, reach, later_targets}
use Rattle.walk_progress.specs.code.Stops.{turned_in}
use Rattle.verdict_judgement.specs.declared.Terms.{Terms}
use Rattle.verdict_judgement.specs.code.Judging.{stored_message}
use Rattle.verdict_cursor.specs.declared.Place.{Place}
use Rattle.verdict_cursor.specs.code.Cursor.{judge_on, own_on}
use Rattle.verdict_cursor.specs.code.Standing.{NoneFrom, StandsAt}
use Rattle.verdict_author.specs.code.Author.{author_reached, author_stored}

-- a walk after the turn at its domain itself goes as far as the answers let it
abbrev pub gone_in : Answers Reply → Domain → ControlFlow Reach (Option Applicable) → Reached
gone_in β d t = turned_in d (λ l. reach β d l (later_targets d)) t

module _ (domains : Octets) (numbers : List ℕ) (t : Terms) (β : Answers Reply) where
  -- with the author's own record, whose settings are in force, where the author's walk has come so far
  abbrev pub JudgesOwn : Settings → Reach → (before after : List ℕ) → Place → Type 0
  JudgesOwn s w before after p =
      let m = stored_message domains numbers t in
      StandsAt domains numbers t (NoneFrom 0 before) after p (judge_on β m (author_stored domains numbers (author_reached domains numbers w)) (author_reached domains numbers w) true m.author (Some s))

  -- with the reply at the author's own name
  abbrev pub Owns : Reply → (before after : List ℕ) → Place → Type 0
  Owns r before after p = StandsAt domains numbers t (NoneFrom 0 before) after p (own_on β (stored_message domains numbers t) r)
