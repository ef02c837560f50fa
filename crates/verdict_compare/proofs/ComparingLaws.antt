-- What the proofs of the functions that compare identifiers cite.
use Rattle.std.specs.Prelude.{None}
use mathlib.Core.Path.{◌≡◌, refl, sym, subst}
use mathlib.Core.List.{List, [], ◌∷◌, ◌++◌}
use mathlib.Core.Bool.{Bool, true, false}
use Prim.Native.Nat.{ℕ, ◌+◌, ◌-◌, ◌≤◌, ◌<◌}
use native.Mathlib.Omega.{arith}
use lib.ListN.{length, drop, set}
use borrow.Author.Tests.{le-leb}
use Rattle.octets.specs.Octets.{Octets}
use Rattle.lookup.specs.Lookup.{Answers}
use Rattle.domain.specs.Domain.{Domain, targets}
use Rattle.policy.specs.declared.Settings.{Settings}
use Rattle.txt.specs.declared.Reply.{Reply}
use Rattle.alignment.specs.Alignments.{Identifier, settled_alignment}
use Rattle.alignment_stored.specs.code.Stored.{slot, identifier_at, stored_identifiers}
use Rattle.alignment_stored.proofs.StoredLaws.{next_identifier}
use Rattle.walk_progress.specs.code.Stored.{Stored, stored_domain}
use Rattle.walk_progress.specs.code.Reaching.{Reached, pauses, over, reach}
use Rattle.walk_progress.specs.code.Stops.{reached_in}
use Rattle.walk_progress.specs.declared.Stop.{Stop}
use Rattle.walk_progress.specs.declared.Reach.{Reach}
use Rattle.verdict.specs.declared.AppliedPolicy.{AppliedPolicy}
use Rattle.verdict.specs.Message.{Message}
use Rattle.verdict_judgement.specs.declared.Terms.{Terms}
use Rattle.verdict_judgement.specs.code.Judging.{stored_message}
use Rattle.verdict_cursor.specs.declared.Ruling.{Ruling}
use Rattle.verdict_cursor.specs.declared.Place.{Place}
use Rattle.verdict_cursor.specs.code.Cursor.{Cursor, cursor, on_identifier, is_walked, compare_reached, compare_on}
use Rattle.verdict_cursor.specs.code.Standing.{stored_at, NoneFrom, passed_from, given_count, verdict_by, judged_at, cursor_in, OnlyThese, StandsAt, ComparesFrom}
use Rattle.verdict_cursor.proofs.PassedLaws.{passed_grown, author_set, only_passed, stands_same, compare_passed, compare_over, compare_pauses}
use Rattle.verdict_pass.specs.declared.Passing.{Passing}
use Rattle.verdict_pass.specs.code.Passing.{Passed, pauses_at, stores, passed_by, passed_at, passed_in}
use Rattle.verdict_compare.specs.code.Comparing.{ComparesAfter}

-- ------------------------------------------------------------------ one identifier

module _ (β : Answers Reply) (m : Message) (d : Domain) (s : Settings) (p : AppliedPolicy) (st : Stored) (ws : List (Identifier × Stored)) (i : Identifier) (is : List Identifier) where
  -- where comparing stands after it
  unfoldable pub after_passed : Passed → Cursor
  after_passed (pauses_at q) = cursor st ws (on_identifier d s p i q is)
  after_passed (stores x) = compare_on β m d s p st (ws ++ ((i, x) ∷ [])) is

  pub after_reached : (w : Reached) → compare_reached β m d s p st ws i is (λ l. compare_on β m d s p st l is) w ≡ after_passed (passed_by i.domain w)
  unfolding after_passed compare_reached passed_by
  after_reached (pauses q) = refl
  after_reached (over w) = refl

  compare_next : compare_on β m d s p st ws (i ∷ is) ≡ after_passed (passed_at β s m.author st i)
  unfolding after_passed passed_at passed_by
  compare_next = go (is_walked (settled_alignment s m.author i) (stored_domain m.author st)) refl
    where
      walked : is_walked (settled_alignment s m.author i) (stored_domain m.author st) ≡ true → (w : Reached) → reach β i.domain None (targets i.domain) ≡ w → compare_on β m d s p st ws (i ∷ is) ≡ after_passed (passed_by i.domain w)
      walked e (pauses q) f = compare_pauses β m d s p st ws i is e q f
      walked e (over w) f = compare_over β m d s p st ws i is e w f

      go : (b : Bool) → is_walked (settled_alignment s m.author i) (stored_domain m.author st) ≡ b → compare_on β m d s p st ws (i ∷ is) ≡ after_passed (passed_at β s m.author st i)
      go true e = rw e (walked e _ refl)
      go false e = rw e (compare_passed β m d s p st ws i is e)

-- ------------------------------------------------------------------ with what is stored

module _ (domains : Octets) (numbers : List ℕ) (t : Terms) (β : Answers Reply) (r : Ruling) where
  abbrev message : Message
  message = stored_message domains numbers t

  abbrev count : ℕ
  count = given_count domains numbers t

  -- comparing from a walk's on
  abbrev pub comparing : List ℕ → (walk : ℕ) → Cursor
  comparing stored walk = compare_on β message (drop r.begin.0 message.author) r.settings r.policy (stored_at stored 0) (passed_from domains numbers stored 1 (walk - 1)) (stored_identifiers domains numbers walk (count + 1 - walk))

  -- after its own identifier
  abbrev pub after_walk : List ℕ → (walk : ℕ) → Passed → Cursor
  after_walk stored walk = after_passed β message (drop r.begin.0 message.author) r.settings r.policy (stored_at stored 0) (passed_from domains numbers stored 1 (walk - 1)) (identifier_at domains numbers walk) (stored_identifiers domains numbers (walk + 1) (count - walk))

  -- from the same walk on
  pub compares_same : (before after : List ℕ) (p : Place) {w v : ℕ} → ComparesFrom domains numbers t β before r w after p → w ≡ v → ComparesFrom domains numbers t β before r v after p
  compares_same before after p c e = subst (λ (w : ℕ). ComparesFrom domains numbers t β before r w after p) e c

  module _ (stored : List ℕ) (walk : ℕ) where
    -- past the last one
    pub judged : count < walk → walk ≤ count + 1 → cursor_in domains numbers t stored (Place.Judged r) ≡ comparing stored walk
    unfolding cursor_in judged_at verdict_by stored_identifiers compare_on
    judged h k =
        let none : count + 1 - walk ≡ 0 = omega arith in
        let all : walk - 1 ≡ count = omega arith in
        rw (none, all)

    pub judged_only : count < walk → walk ≤ count + 1 → NoneFrom walk stored → OnlyThese domains numbers t stored (Place.Judged r)
    unfolding OnlyThese cursor_in judged_at NoneFrom
    judged_only h k z = only_passed domains numbers stored count (λ j l. z j (omega arith)) _

    -- its walk has come so far
    pub compares_after : (w : Reach) (after : List ℕ) (p : Place) → StandsAt domains numbers t (NoneFrom walk stored) after p (after_walk stored walk (passed_by (slot domains numbers walk) (reached_in (slot domains numbers walk) w)))
        → ComparesAfter domains numbers t β stored r walk w after p
    unfolding identifier_at
    compares_after w after p e =
        stands_same e (sym (after_reached β message (drop r.begin.0 message.author) r.settings r.policy (stored_at stored 0) (passed_from domains numbers stored 1 (walk - 1)) (identifier_at domains numbers walk) (stored_identifiers domains numbers (walk + 1) (count - walk)) (reached_in (slot domains numbers walk) w)))

    module _ (h : 1 ≤ walk) where
      -- its number stored
      pub passed_on : walk < length stored → (x : ℕ) → comparing (set stored walk x) (walk + 1) ≡ after_walk stored walk (passed_in (slot domains numbers walk) (Passing.Passes x))
      unfolding passed_in after_passed
      passed_on l x =
          let same : walk + 1 - 1 ≡ walk = omega arith in
          let others : count + 1 - (walk + 1) ≡ count - walk = omega arith in
          rw (same, others, author_set domains numbers stored walk x h, passed_grown domains numbers stored walk x h l)

      module _ (k : walk ≤ count) where
        pub compared_next : comparing stored walk ≡ after_walk stored walk (passed_at β r.settings (slot domains numbers 0) (stored_at stored 0) (identifier_at domains numbers walk))
        unfolding stored_message
        compared_next =
            let others : count + 1 - walk - 1 ≡ count - walk = omega arith in
            rw (next_identifier domains numbers walk (count + 1 - walk) (omega arith), others)
            (compare_next β message (drop r.begin.0 message.author) r.settings r.policy (stored_at stored 0) (passed_from domains numbers stored 1 (walk - 1)) (identifier_at domains numbers walk) (stored_identifiers domains numbers (walk + 1) (count - walk)))

        -- its walk stops
        pub stopped : (s : Stop) → cursor_in domains numbers t stored (Place.Identifier r walk s) ≡ after_walk stored walk (passed_in (slot domains numbers walk) (Passing.Stops s))
        unfolding cursor_in passed_in after_passed
        stopped s = rw (le-leb 1 walk h, le-leb walk count k)

        pub stopped_only : (s : Stop) → NoneFrom walk stored → OnlyThese domains numbers t stored (Place.Identifier r walk s)
        unfolding OnlyThese cursor_in NoneFrom
        stopped_only s z = rw (le-leb 1 walk h, le-leb walk count k) (only_passed domains numbers stored (walk - 1) (λ j l. z j (omega arith)) _)
