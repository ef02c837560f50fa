-- Laws of one turn of a walk, and of the number stored of it.
use Rattle.std.specs.Prelude.{Option, None, Some}
use mathlib.Core.Path.{◌≡◌, refl, ap, sym, ◌∙◌}
use Prim.Native.Nat.{ℕ, ◌+◌, ◌≤◌, ◌<◌, min}
use native.Mathlib.Omega.{arith}
use lib.ListN.{length, length-drop}
use borrow.Author.Tests.{le-leb, lt-leb}
use Rattle.domain.specs.Domain.{Domain, begin_of}
use Rattle.policy.specs.declared.Psd.{Psd}
use Rattle.policy.specs.declared.Settings.{Settings}
use Rattle.txt.specs.declared.Reply.{Reply}
use Rattle.walk.specs.Walk.{Found, found}
use Rattle.walk_progress.specs.declared.Organization.{Organization}
use Rattle.walk_progress.specs.code.Summary.{summary_in}
use Rattle.walk_progress.specs.code.Progress.{Progress, open_walk, ended, stored_in}
use Rattle.walk_progress.specs.code.Reaching.{Reached, reach_found, reach_by}
use Rattle.walk_progress.specs.code.Stops.{stored_of}
use Rattle.walk_progress.proofs.StopLaws.{stores_open, stores_place}
use Rattle.walk_turn.specs.code.Storing.{within_253}

-- a record at it, by its psd
pub by_psd : (d : Domain) (last : Option Found) (target wider : Domain) (on : Option Found → Reached) (s : Settings) {p : Psd} → s.psd ≡ p
    → (u : Reached) → u ≡ reach_found d last (found target s) wider on p → u ≡ reach_by d last target wider on (Reply.Record s)
unfolding reach_by
by_psd d last target wider on s e u h = h ∙ ap (reach_found d last (found target s) wider on) (sym e)

-- ------------------------------------------------------------------ the number stored

-- of a domain of at most 253 octets every place is stored
pub within_short : (d : Domain) (p : Progress) → length d ≤ 253 → within_253 (stored_in d p) ≡ stored_in d p
unfolding within_253 stored_in begin_of
within_short d (open_walk last ds) h = refl
within_short d (ended None) h = refl
within_short d (ended (Some s)) h = rw (le-leb (begin_of s.organization d) 253 (omega arith))

module _ (d : Domain) (o : Organization) (n : ℕ) (place : n ≡ min o.begin.0 (length d)) where
  begins_there : begin_of (summary_in d o).organization d ≡ n
  unfolding begin_of summary_in
  begins_there = omega (arith, length-drop o.begin.0 d)

  pub stores_within : n ≤ 253 → stored_of (2 + n) ≡ within_253 (stored_in d (ended (Some (summary_in d o))))
  unfolding within_253 stored_in
  stores_within h = stores_place d o (2 + n) (omega arith) ∙ rw (begins_there, le-leb n 253 h)

  pub stores_past : 253 < n → stored_of 0 ≡ within_253 (stored_in d (ended (Some (summary_in d o))))
  unfolding within_253 stored_in
  stores_past h = stores_open ∙ rw (begins_there, lt-leb n 253 h)
