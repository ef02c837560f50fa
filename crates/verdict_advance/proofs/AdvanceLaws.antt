-- What the proofs of the functions cite that begin an evaluation and move it on.
use Rattle.std.specs.Prelude.{Some, None, Option}
use mathlib.Core.Path.{◌≡◌, refl, ap, sym, ◌∙◌}
use mathlib.Core.List.{List, [], ◌∷◌}
use mathlib.Core.Bool.{Bool, true, false}
use Prim.Native.Nat.{ℕ, ◌-◌, ◌≤◌, ◌<◌}
use native.Mathlib.Omega.{arith}
use lib.Dec.{leb}
use borrow.Author.Tests.{le-leb, lt-leb}
use denote.Enum.Declared.{tag_of}
use types.Run.{OneOf, miss}
use Rattle.octets.specs.Octets.{Octets}
use Rattle.lookup.specs.Lookup.{Answers, find}
use Rattle.domain.specs.Domain.{can_ask, asked_name}
use Rattle.txt.specs.declared.Reply.{Reply}
use Rattle.alignment_stored.specs.code.Stored.{slot, identifier_at}
use Rattle.walk_progress.specs.code.Stored.{still_open}
use Rattle.walk_known.specs.code.Kept.{looked_at}
use Rattle.walk_progress.specs.declared.Reach.{Reach}
use Rattle.walk_progress.specs.declared.Stop.{Stop}
use Rattle.walk_progress.specs.code.Stops.{ReachesAfter}
use Rattle.verdict.specs.Message.{Message}
use Rattle.verdict_judgement.specs.declared.Terms.{Terms}
use Rattle.verdict_judgement.specs.code.Judging.{stored_message}
use Rattle.verdict_cursor.specs.declared.Ruling.{Ruling}
use Rattle.verdict_cursor.specs.declared.Place.{Place}
use Rattle.verdict_cursor.specs.contracts.Place.{the_type as place_type}
use Rattle.verdict_cursor.specs.code.Cursor.{Cursor, cursor, on_own_name, own_on, begin_on, answered_at, answered_on}
use Rattle.verdict_cursor.specs.code.Standing.{NoneFrom, given_count, judged_at, unjudged_at, cursor_in, OnlyThese, Begins, Moves}
use Rattle.verdict_cursor.proofs.PassedLaws.{passed_only, only_at_open, open_at_only, stands_same, stands_from}
use Rattle.verdict_compare.specs.code.Comparing.{ComparesAfter}
use Rattle.verdict_found.specs.code.Found.{Completes, Finds}
use Rattle.verdict_own.specs.code.Own.{Owns}

-- ------------------------------------------------------------------ from the beginning

module _ (β : Answers Reply) (m : Message) where
  -- by what is known of the author's own name
  unfoldable begin_by : Option Reply → Cursor
  begin_by None = cursor still_open [] on_own_name
  begin_by (Some r) = own_on β m r

  begin_looked : begin_on β m ≡ begin_by (looked_at β m.author)
  unfolding begin_on begin_by looked_at
  begin_looked = go (can_ask m.author) refl
    where
      asked : (o : Option Reply) → (elim o as (λ _. Cursor) [ None ↦ cursor still_open [] on_own_name | Some r ↦ own_on β m r ]) ≡ begin_by o
      asked None = refl
      asked (Some r) = refl

      go : (b : Bool) → can_ask m.author ≡ b → begin_on β m ≡ begin_by (looked_at β m.author)
      go true e = rw (e, begin_on) (asked (find β (asked_name m.author)))
      go false e = rw (e, begin_on)

module _ (domains : Octets) (numbers : List ℕ) (t : Terms) (β : Answers Reply) where
  pub begins_missing : (before : List ℕ) → None ≡ looked_at β (slot domains numbers 0) → Begins domains numbers t β before before Place.OwnName
  unfolding begin_by cursor_in stored_message
  begins_missing before e = record {
    place = ap (begin_by β (stored_message domains numbers t)) e ∙ sym (begin_looked β (stored_message domains numbers t));
    only = λ z. only_at_open domains numbers t before Place.OwnName _ refl z;
  }

  pub begins_known : (before after : List ℕ) (p : Place) (r : Reply) → Some r ≡ looked_at β (slot domains numbers 0) → Owns domains numbers t β r before after p → Begins domains numbers t β before after p
  unfolding begin_by stored_message
  begins_known before after p r e f = stands_same f (ap (begin_by β (stored_message domains numbers t)) e ∙ sym (begin_looked β (stored_message domains numbers t)))

  -- ---------------------------------------------------------------- with the reply that it waited for

  module _ (before : List ℕ) (r : Reply) where
    module _ (after : List ℕ) (q : Place) where
      pub moves_own : Owns domains numbers t β r before after q → Moves domains numbers t β before Place.OwnName r after q
      unfolding answered_on answered_at cursor_in
      moves_own e = stands_from e (open_at_only domains numbers t before Place.OwnName _ refl)

      module _ (stop : Stop) (w : Reach) where
        pub moves_author : ReachesAfter β (slot domains numbers 0) stop r w → Finds domains numbers t β w before after q → Moves domains numbers t β before (Place.Author stop) r after q
        unfolding answered_on answered_at cursor_in stored_message
        moves_author e f = rw (← e) (stands_from f (open_at_only domains numbers t before (Place.Author stop) _ refl))

        pub moves_completing : (u : Ruling) → ReachesAfter β (slot domains numbers 0) stop r w → Completes domains numbers t β u w before after q → Moves domains numbers t β before (Place.Completing u stop) r after q
        unfolding answered_on answered_at cursor_in stored_message
        moves_completing u e f = rw (← e) (stands_from f (open_at_only domains numbers t before (Place.Completing u stop) _ refl))

        pub moves_identifier : (u : Ruling) (walk : ℕ) → 1 ≤ walk → walk ≤ given_count domains numbers t → ReachesAfter β (slot domains numbers walk) stop r w
            → ComparesAfter domains numbers t β before u walk w after q → Moves domains numbers t β before (Place.Identifier u walk stop) r after q
        moves_identifier u walk h k e f = record { place = moved; only = λ o. f.only (none_after o) }
          where
            moved : cursor_in domains numbers t after q ≡ answered_on β (stored_message domains numbers t) (cursor_in domains numbers t before (Place.Identifier u walk stop)) r
            moved = unfold answered_on answered_at cursor_in identifier_at in rw (le-leb 1 walk h, le-leb walk (given_count domains numbers t) k, ← e) f.place

            none_after : OnlyThese domains numbers t before (Place.Identifier u walk stop) → NoneFrom walk before
            none_after o = unfold OnlyThese cursor_in NoneFrom in
                λ j l. passed_only domains numbers before (walk - 1) _ (rw (le-leb 1 walk h, le-leb walk (given_count domains numbers t) k) at o) j (omega arith)

    -- a walk that no identifier has
    module _ (u : Ruling) (walk : ℕ) (stop : Stop) where
      pub stays_early : walk < 1 → Moves domains numbers t β before (Place.Identifier u walk stop) r before (Place.Identifier u walk stop)
      unfolding answered_on answered_at cursor_in judged_at
      stays_early h = record { place = rw (lt-leb 1 walk h); only = λ o. o }

      pub stays_late : given_count domains numbers t < walk → Moves domains numbers t β before (Place.Identifier u walk stop) r before (Place.Identifier u walk stop)
      unfolding answered_on answered_at cursor_in judged_at
      stays_late h = record { place = go (leb 1 walk) refl; only = λ o. o }
        where
          go : (b : Bool) → leb 1 walk ≡ b → cursor_in domains numbers t before (Place.Identifier u walk stop) ≡ answered_on β (stored_message domains numbers t) (cursor_in domains numbers t before (Place.Identifier u walk stop)) r
          go true e = rw (e, lt-leb walk (given_count domains numbers t) h)
          go false e = rw e

    -- the verdict stands
    pub stays : (p : Place) → OneOf (4 ∷ 5 ∷ 6 ∷ 7 ∷ []) (tag_of place_type p) → Moves domains numbers t β before p r before p
    unfolding answered_on answered_at cursor_in unjudged_at judged_at
    stays Place.OwnName k = absurd (miss (4 ∷ 5 ∷ 6 ∷ 7 ∷ []) 0 tt k)
    stays (Place.Author s) k = absurd (miss (4 ∷ 5 ∷ 6 ∷ 7 ∷ []) 1 tt k)
    stays (Place.Completing u s) k = absurd (miss (4 ∷ 5 ∷ 6 ∷ 7 ∷ []) 2 tt k)
    stays (Place.Identifier u w s) k = absurd (miss (4 ∷ 5 ∷ 6 ∷ 7 ∷ []) 3 tt k)
    stays Place.NotKnown k = record { place = refl; only = λ o. o }
    stays Place.NoRecord k = record { place = refl; only = λ o. o }
    stays (Place.NotUsable b) k = record { place = refl; only = λ o. o }
    stays (Place.Judged u) k = record { place = refl; only = λ o. o }
