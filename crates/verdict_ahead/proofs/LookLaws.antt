-- Laws of what is ahead of an evaluation, for each place where it stands.
use mathlib.Core.Path.{◌≡◌, refl}
use mathlib.Core.Bool.{true, false, ◌&&◌, and-false, false≢true}
use mathlib.Core.List.{List, []}
use Prim.Native.Nat.{ℕ, ◌≤◌, min}
use native.Mathlib.Decide.{dec_le}
use native.Mathlib.Omega.{arith}
use lib.Dec.{leb}
use lib.ListN.{drop, drop_of_length-le}
use borrow.Author.Tests.{lt-leb}
use Rattle.octets.specs.Octets.{Octets}
use Rattle.domain.specs.declared.Octet.{Octet}
use Rattle.policy.specs.declared.Policy.{Policy}
use Rattle.walk_progress.specs.declared.Stop.{Stop}
use Rattle.walk_progress.specs.code.Stops.{pause_in}
use Rattle.alignment_stored.specs.code.Stored.{slot, identifier_at}
use Rattle.alignment_stored.proofs.StoredLaws.{slot_size}
use Rattle.verdict.specs.declared.Result.{Result}
use Rattle.verdict.specs.declared.AppliedPolicy.{AppliedPolicy}
use Rattle.verdict_judgement.specs.declared.Terms.{Terms}
use Rattle.verdict_judgement.specs.code.Judging.{stored_message}
use Rattle.verdict_cursor.specs.declared.Ruling.{Ruling}
use Rattle.verdict_cursor.specs.declared.Place.{Place}
use Rattle.verdict_cursor.specs.code.Cursor.{stands, stands_at}
use Rattle.verdict_cursor.specs.code.Standing.{given_count, judged_at, unjudged_at, cursor_in}
use Rattle.verdict_ahead.specs.declared.Ahead.{Ahead}
use Rattle.verdict_ahead.specs.code.Waits.{ahead_standing, AheadWithin, Looks}

-- no domain reaches past its slot
slot_end : (domains : Octets) (numbers : List ℕ) → drop 253 (slot domains numbers 0) ≡ []
slot_end domains numbers = drop_of_length-le (slot domains numbers 0) {i = 253} (slot_size domains numbers 0)

module _ (t : Terms) where
  pub looks_own : Looks t Place.OwnName (Ahead.Target 0 record { 0 = 0 })
  unfolding ahead_standing AheadWithin stands stands_at cursor_in stored_message
  looks_own = record { standing = λ domains numbers stored. refl; within = omega arith }

  -- on a walk
  module _ (s : Stop) where
    pub looks_author : Looks t (Place.Author s) (Ahead.Target 0 s.target.begin)
    unfolding ahead_standing AheadWithin stands stands_at cursor_in pause_in stored_message
    looks_author = record { standing = λ domains numbers stored. refl; within = omega arith }

    pub looks_completing : (ruling : Ruling) → Looks t (Place.Completing ruling s) (Ahead.Target 0 s.target.begin)
    unfolding ahead_standing AheadWithin stands stands_at cursor_in pause_in stored_message
    looks_completing ruling = record { standing = λ domains numbers stored. refl; within = omega arith }

    pub looks_identifier : (ruling : Ruling) (walk : ℕ) → (leb 1 walk && leb walk (min t.identifiers 16)) ≡ true → Looks t (Place.Identifier ruling walk s) (Ahead.Target walk s.target.begin)
    unfolding ahead_standing AheadWithin stands stands_at cursor_in pause_in given_count identifier_at
    looks_identifier ruling walk f = record { standing = λ domains numbers stored. rw f; within = go (dec_le walk 16) }
      where
        go : Dec (walk ≤ 16) → walk ≤ 16
        go (yes h) = h
        go (no h) = absurd (false≢true (rw (lt-leb walk (min t.identifiers 16) (omega arith), and-false) at f))

  -- at the verdict
  module _ (ruling : Ruling) where
    pub looks_past : (walk : ℕ) (s : Stop) → (leb 1 walk && leb walk (min t.identifiers 16)) ≡ false → Looks t (Place.Identifier ruling walk s) (Ahead.Aligning ruling)
    unfolding ahead_standing AheadWithin stands stands_at cursor_in given_count judged_at
    looks_past walk s f = record { standing = λ domains numbers stored. rw f; within = tt }

    pub looks_judged : Looks t (Place.Judged ruling) (Ahead.Aligning ruling)
    unfolding ahead_standing AheadWithin stands stands_at cursor_in judged_at
    looks_judged = record { standing = λ domains numbers stored. refl; within = tt }

  pub looks_unknown : Looks t Place.NotKnown (Ahead.Unjudged record { 0 = 253 } Result.Temperror AppliedPolicy.Unknown)
  unfolding ahead_standing AheadWithin stands stands_at cursor_in unjudged_at
  looks_unknown = record { standing = λ domains numbers stored. rw (slot_end domains numbers); within = tt }

  pub looks_none : Looks t Place.NoRecord (Ahead.Unjudged record { 0 = 253 } Result.None (AppliedPolicy.Known Policy.None))
  unfolding ahead_standing AheadWithin stands stands_at cursor_in unjudged_at
  looks_none = record { standing = λ domains numbers stored. rw (slot_end domains numbers); within = tt }

  pub looks_unusable : (begin : Octet) → Looks t (Place.NotUsable begin) (Ahead.Unjudged begin Result.Permerror (AppliedPolicy.Known Policy.None))
  unfolding ahead_standing AheadWithin stands stands_at cursor_in unjudged_at stored_message
  looks_unusable begin = record { standing = λ domains numbers stored. refl; within = tt }
