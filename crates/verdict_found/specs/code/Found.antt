-- What the functions promise that go on from the author's walk, where it has come so far.
use Rattle.std.specs.Prelude.{List, false, ℕ, drop}
use Rattle.octets.specs.Octets.{Octets}
use Rattle.lookup.specs.Lookup.{Answers}
use Rattle.domain.specs.declared.Octet.{Octet}
use Rattle.policy.specs.declared.Settings.{Settings}
use Rattle.force.specs.InForce.{in_force}
use Rattle.txt.specs.declared.Reply.{Reply}
use Rattle.walk_progress.specs.declared.Organization.{Organization}
use Rattle.walk_progress.specs.declared.Reach.{Reach}
use Rattle.verdict_judgement.specs.declared.Terms.{Terms}
use Rattle.verdict_judgement.specs.code.Judging.{stored_message}
use Rattle.verdict_cursor.specs.declared.Ruling.{Ruling}
use Rattle.verdict_cursor.specs.declared.Place.{Place}
use Rattle.verdict_cursor.specs.code.Cursor.{complete_reached, judge_on, apply_reached}
use Rattle.verdict_cursor.specs.code.Standing.{NoneFrom, StandsAt}
use Rattle.verdict_author.specs.code.Author.{author_reached, author_stored}

module _ (domains : Octets) (numbers : List ℕ) (t : Terms) (β : Answers Reply) where
  -- a walk that must be completed
  abbrev pub Completes : Ruling → Reach → (before after : List ℕ) → Place → Type 0
  Completes r w before after p =
      let m = stored_message domains numbers t in
      StandsAt domains numbers t (NoneFrom 0 before) after p (complete_reached β m (drop r.begin.0 m.author) r.settings r.policy (author_reached domains numbers w))

  -- a walk that is over, with a record that is not the author's own
  abbrev pub Judges : (begin : Octet) → Settings → Organization → (before after : List ℕ) → Place → Type 0
  Judges begin s o before after p =
      let m = stored_message domains numbers t in
      StandsAt domains numbers t (NoneFrom 0 before) after p (judge_on β m (author_stored domains numbers (author_reached domains numbers (Reach.Done o))) (author_reached domains numbers (Reach.Done o)) false (drop begin.0 m.author) (in_force s))

  -- a walk that looks for a record
  abbrev pub Finds : Reach → (before after : List ℕ) → Place → Type 0
  Finds w before after p = StandsAt domains numbers t (NoneFrom 0 before) after p (apply_reached β (stored_message domains numbers t) (author_reached domains numbers w))
