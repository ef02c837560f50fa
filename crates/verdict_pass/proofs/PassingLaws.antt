-- What the proofs of the functions that pass one identifier cite.
use Rattle.std.specs.Prelude.{Option, None, Some}
use mathlib.Core.Path.{◌≡◌, refl, ap, sym}
use mathlib.Core.Bool.{Bool, true, false, not, false≢true}
use Prim.Native.Nat.{ℕ, zero, suc, ◌≤◌, ◌<◌}
use native.Mathlib.Omega.{arith}
use lib.ListN.{length}
use borrow.Author.Tests.{ne_eqb}
use Rattle.lookup.specs.Lookup.{Answers}
use Rattle.domain.specs.Domain.{Domain, targets}
use Rattle.policy.specs.declared.Settings.{Settings}
use Rattle.txt.specs.declared.Reply.{Reply}
use Rattle.alignment.specs.declared.Alignment.{Alignment}
use Rattle.alignment.specs.Alignments.{Identifier, settled_alignment}
use Rattle.walk_progress.specs.code.Stored.{Stored, stored_domain}
use Rattle.walk_progress.specs.declared.Reach.{Reach}
use Rattle.walk_progress.specs.declared.Stop.{Stop}
use Rattle.walk_progress.specs.code.Progress.{ended, stored_in}
use Rattle.walk_progress.specs.code.Reaching.{Reached, pauses, over, reach, progress_of}
use Rattle.walk_progress.specs.code.Stops.{stored_of, reached_in}
use Rattle.walk_turn.proofs.TurnLaws.{within_short}
use Rattle.verdict_cursor.specs.code.Cursor.{is_walked}
use Rattle.verdict_pass.specs.code.Passing.{stores, passed_by, passed_within, passed_at, passed_in}
use Rattle.verdict_pass.specs.declared.Passing.{Passing}
use Rattle.walk_turn.specs.code.Storing.{within_253}
use Rattle.std.specs.Option.{is_some}

-- ------------------------------------------------------------------ whether an identifier is walked

-- without an organizational domain of the author's it is not
pub not_organized : (o : Option Alignment) (d : Domain) (n : ℕ) → n < 2 → false ≡ is_walked o (stored_domain d (stored_of n))
unfolding is_walked stored_domain stored_of
not_organized (Some a) d n h = refl
not_organized None d zero h = refl
not_organized None d (suc zero) h = refl
not_organized None d (suc (suc n)) h = absurd (omega arith)

-- with one it is, unless its alignment is settled
pub organized_by : (o : Option Alignment) (d : Domain) (n : ℕ) → 2 ≤ n → (none : Bool) → is_some o ≡ not none → none ≡ is_walked o (stored_domain d (stored_of n))
unfolding is_walked stored_domain stored_of
organized_by None d n h true f = rw (ne_eqb n 0 (λ f. omega arith), ne_eqb n 1 (λ f. omega arith))
organized_by None d n h false f = absurd (false≢true f)
organized_by (Some a) d n h true f = absurd (false≢true (sym f))
organized_by (Some a) d n h false f = refl

module _ (β : Answers Reply) (s : Settings) (author : Domain) (st : Stored) (i : Identifier) where
  pub not_walked : is_walked (settled_alignment s author i) (stored_domain author st) ≡ false → stores (stored_of 0) ≡ passed_at β s author st i
  unfolding passed_at stored_of
  not_walked e = rw (e, passed_at)

  pub is_passed : is_walked (settled_alignment s author i) (stored_domain author st) ≡ true → passed_by i.domain (reach β i.domain None (targets i.domain)) ≡ passed_at β s author st i
  unfolding passed_at
  is_passed e = rw (e, passed_at)

-- ------------------------------------------------------------------ what is stored

-- of a walk that does not stop
pub gone : (d : Domain) (w : Reach) (n : ℕ) → ((s : Stop) → w ≡ Reach.Stops s → ⊥) → stored_of n ≡ within_253 (stored_in d (progress_of (reached_in d w)))
    → passed_in d (Passing.Passes n) ≡ passed_within (passed_by d (reached_in d w))
unfolding reached_in progress_of passed_by passed_within passed_in
gone d (Reach.Stops s) n f e = absurd (f s refl)
gone d Reach.Failed n f e = ap stores e
gone d (Reach.Done o) n f e = ap stores e

-- of a domain of at most 253 octets every place is stored
pub passed_short : (d : Domain) (w : Reached) → length d ≤ 253 → passed_within (passed_by d w) ≡ passed_by d w
unfolding passed_within passed_by
passed_short d (pauses q) h = refl
passed_short d (over w) h = ap stores (within_short d (ended w) h)
