-- What the proofs of the functions that compare identifiers cite: one identifier more, and its number stored.
use mathlib.Core.Path.{◌≡◌, refl, ap, ap₂, sym, ◌∙◌}
use mathlib.Core.List.{List, [], ◌∷◌, ◌++◌, map}
use mathlib.Core.Bool.{Bool, true, false}
use Prim.Native.Nat.{ℕ, zero, suc, ◌+◌, ◌-◌, ◌≤◌, ◌<◌}
use native.Mathlib.Omega.{arith}
use lib.Dec.{eqb}
use lib.ListN.{length, get_or, set}
use lib.Seq.{get_or-set_same, get_or-set_other}
use borrow.Author.Tests.{eqb-true, eqb-false}
use Rattle.std.specs.Prelude.{if◌then◌else◌, Option, None}
use Rattle.octets.specs.Octets.{Octets}
use Rattle.lookup.specs.Lookup.{Answers}
use Rattle.domain.specs.Domain.{Domain, targets}
use Rattle.policy.specs.declared.Settings.{Settings}
use Rattle.txt.specs.declared.Reply.{Reply}
use Rattle.alignment.specs.Alignments.{Identifier, settled_alignment}
use Rattle.alignment_stored.specs.code.Stored.{identifier_at}
use Rattle.walk_progress.specs.code.Summary.{Summary}
use Rattle.walk_progress.specs.code.Stored.{Stored, still_open, failed, from, stored_domain, number_in}
use Rattle.walk_progress.specs.code.Progress.{ended, stored_in}
use Rattle.walk_progress.specs.code.Reaching.{Pause, pauses, over, reach}
use Rattle.walk_progress.specs.code.Stops.{stored_of}
use Rattle.verdict.specs.declared.AppliedPolicy.{AppliedPolicy}
use Rattle.verdict.specs.Message.{Message}
use Rattle.verdict_judgement.specs.declared.Terms.{Terms}
use Rattle.verdict_cursor.specs.declared.Place.{Place}
use Rattle.verdict_cursor.specs.code.Cursor.{Point, Cursor, cursor, on_identifier, is_walked, compare_reached, compare_on, numbers_of}
use Rattle.verdict_cursor.specs.code.Standing.{stored_at, NoneFrom, WritesAuthor, passed_from, cursor_in, OnlyThese, StandsAt}

-- ------------------------------------------------------------------ what is stored

module _ (domains : Octets) (numbers : List ℕ) where
  pub passed_snoc : (stored : List ℕ) (walk n : ℕ) → passed_from domains numbers stored walk (suc n) ≡ passed_from domains numbers stored walk n ++ ((identifier_at domains numbers (walk + n), stored_at stored (walk + n)) ∷ [])
  unfolding passed_from
  passed_snoc stored walk zero = ap (λ w. (identifier_at domains numbers w, stored_at stored w) ∷ []) (omega arith)
  passed_snoc stored walk (suc n) =
      ap (λ l. (identifier_at domains numbers walk, stored_at stored walk) ∷ l)
      (passed_snoc stored (walk + 1) n ∙ ap (λ w. passed_from domains numbers stored (walk + 1) n ++ ((identifier_at domains numbers w, stored_at stored w) ∷ [])) (omega arith))

  -- a number written past them
  pub passed_set : (stored : List ℕ) (at x walk n : ℕ) → walk + n ≤ at → passed_from domains numbers (set stored at x) walk n ≡ passed_from domains numbers stored walk n
  unfolding passed_from stored_at
  passed_set stored at x walk zero h = refl
  passed_set stored at x walk (suc n) h =
      ap₂ (λ (k : ℕ) l. (identifier_at domains numbers walk, stored_of k) ∷ l)
      (get_or-set_other stored at walk x 0 (λ e. omega arith)) (passed_set stored at x (walk + 1) n (omega arith))

  -- one more, with its number
  pub passed_grown : (stored : List ℕ) (walk x : ℕ) → 1 ≤ walk → walk < length stored
      → passed_from domains numbers (set stored walk x) 1 walk ≡ passed_from domains numbers stored 1 (walk - 1) ++ ((identifier_at domains numbers walk, stored_of x) ∷ [])
  unfolding stored_at
  passed_grown stored walk x h k =
      let count : walk ≡ suc (walk - 1) = omega arith in
      let last : 1 + (walk - 1) ≡ walk = omega arith in
      ap (passed_from domains numbers (set stored walk x) 1) count
      ∙ passed_snoc (set stored walk x) 1 (walk - 1)
      ∙ ap₂ (λ l w. l ++ ((identifier_at domains numbers w, stored_of (get_or (set stored walk x) w 0)) ∷ [])) (passed_set stored walk x 1 (walk - 1) (omega arith)) last
      ∙ ap (λ (n : ℕ). passed_from domains numbers stored 1 (walk - 1) ++ ((identifier_at domains numbers walk, stored_of n) ∷ [])) (get_or-set_same stored walk x 0 k)

  -- the author's number stays
  pub author_set : (stored : List ℕ) (walk x : ℕ) → 1 ≤ walk → stored_at (set stored walk x) 0 ≡ stored_at stored 0
  unfolding stored_at
  author_set stored walk x h = ap stored_of (get_or-set_other stored walk 0 x 0 (λ e. omega arith))

-- ------------------------------------------------------------------ the numbers stored

number_read : (n : ℕ) → number_in (stored_of n) ≡ n
unfolding stored_of number_in
number_read n = go (eqb n 0) refl (eqb n 1) refl
  where
    go : (a : Bool) → eqb n 0 ≡ a → (b : Bool) → eqb n 1 ≡ b → number_in (if a then still_open else if b then failed else from (n - 2)) ≡ n
    go true e b f = sym (eqb-true n 0 e)
    go false e true f = sym (eqb-true n 1 f)
    go false e false f = omega (arith, eqb-false n 0 e, eqb-false n 1 f)

module _ (domains : Octets) (numbers : List ℕ) (stored : List ℕ) where
  -- so many from a walk's on, where nothing is stored of those after them
  passed_numbers : (walk n k : ℕ) → NoneFrom (walk + n) stored → get_or stored (walk + k) 0 ≡ get_or (map (λ w. number_in w.1) (passed_from domains numbers stored walk n)) k 0
  unfolding NoneFrom passed_from stored_at
  passed_numbers walk zero k z = z (walk + k) (omega arith)
  passed_numbers walk (suc n) zero z = ap (λ (i : ℕ). get_or stored i 0) (omega arith) ∙ sym (number_read (get_or stored walk 0))
  passed_numbers walk (suc n) (suc k) z =
      ap (λ (i : ℕ). get_or stored i 0) (omega arith) ∙ passed_numbers (walk + 1) n k (λ j h. z j (omega arith))

  -- so many identifiers were passed, and the numbers stored are these
  pub only_passed : (n : ℕ) → NoneFrom (n + 1) stored → (x : Point) (walk : ℕ) → get_or stored walk 0 ≡ get_or (numbers_of (cursor (stored_at stored 0) (passed_from domains numbers stored 1 n) x)) walk 0
  unfolding NoneFrom numbers_of stored_at
  only_passed n z x zero = sym (number_read (get_or stored 0 0))
  only_passed n z x (suc k) = ap (λ (i : ℕ). get_or stored i 0) (omega arith) ∙ passed_numbers 1 n k (λ j h. z j (omega arith))

  -- and the other way
  numbers_end : (walk n k : ℕ) → n ≤ k → get_or (map (λ w. number_in w.1) (passed_from domains numbers stored walk n)) k 0 ≡ 0
  unfolding passed_from
  numbers_end walk zero k h = refl
  numbers_end walk (suc n) zero h = absurd (omega arith)
  numbers_end walk (suc n) (suc k) h = numbers_end (walk + 1) n k (omega arith)

  pub passed_only : (n : ℕ) (x : Point) → ((walk : ℕ) → get_or stored walk 0 ≡ get_or (numbers_of (cursor (stored_at stored 0) (passed_from domains numbers stored 1 n) x)) walk 0) → NoneFrom (n + 1) stored
  unfolding NoneFrom numbers_of
  passed_only n x o zero h = absurd (omega arith)
  passed_only n x o (suc k) h = o (suc k) ∙ numbers_end 1 n k (omega arith)

module _ (stored : List ℕ) where
  -- nothing is stored while the author's walk is open
  pub only_open : NoneFrom 0 stored → (x : Point) (walk : ℕ) → get_or stored walk 0 ≡ get_or (numbers_of (cursor still_open [] x)) walk 0
  unfolding NoneFrom numbers_of number_in
  only_open z x zero = z 0 (omega arith)
  only_open z x (suc k) = z (suc k) (omega arith)

  pub open_only : (x : Point) → ((walk : ℕ) → get_or stored walk 0 ≡ get_or (numbers_of (cursor still_open [] x)) walk 0) → NoneFrom 0 stored
  unfolding NoneFrom numbers_of number_in
  open_only x o zero h = o 0
  open_only x o (suc k) h = o (suc k)

  -- one written
  pub none_set : (walk x : ℕ) → NoneFrom walk stored → NoneFrom (walk + 1) (set stored walk x)
  unfolding NoneFrom
  none_set walk x z = λ k h. get_or-set_other stored walk k x 0 (λ e. omega arith) ∙ z k (omega arith)

-- the author's number written
pub none_written : (before after : List ℕ) (st : Stored) → WritesAuthor before after st → NoneFrom 0 before → NoneFrom 1 after
unfolding NoneFrom
none_written before after st w z zero h = absurd (omega arith)
none_written before after st w z (suc k) h = w.others k ∙ z (suc k) (omega arith)

module _ (domains : Octets) (numbers : List ℕ) (t : Terms) where
  -- at a place where the author's walk is open
  pub only_at_open : (stored : List ℕ) (p : Place) (x : Point) → cursor_in domains numbers t stored p ≡ cursor still_open [] x → NoneFrom 0 stored → OnlyThese domains numbers t stored p
  unfolding OnlyThese
  only_at_open stored p x e z = rw e (only_open stored z x)

  pub open_at_only : (stored : List ℕ) (p : Place) (x : Point) → cursor_in domains numbers t stored p ≡ cursor still_open [] x → OnlyThese domains numbers t stored p → NoneFrom 0 stored
  unfolding OnlyThese
  open_at_only stored p x e o = open_only stored x (rw e at o)

  -- at a verdict without alignments
  pub only_author : (before after : List ℕ) (st : Stored) (p : Place) (x : Point) → cursor_in domains numbers t after p ≡ cursor (stored_at after 0) [] x → WritesAuthor before after st → NoneFrom 0 before
      → OnlyThese domains numbers t after p
  unfolding OnlyThese passed_from
  only_author before after st p x e w z = rw e (only_passed domains numbers after 0 (none_written before after st w z) x)

-- where code stands, said otherwise
pub stands_same : {domains : Octets} {numbers : List ℕ} {t : Terms} {known : Type 0} {after : List ℕ} {p : Place} {c d : Cursor}
    → StandsAt domains numbers t known after p c → c ≡ d → StandsAt domains numbers t known after p d
stands_same s e = record { place = s.place ∙ e; only = s.only }

pub stands_from : {domains : Octets} {numbers : List ℕ} {t : Terms} {known given : Type 0} {after : List ℕ} {p : Place} {c : Cursor}
    → StandsAt domains numbers t known after p c → (given → known) → StandsAt domains numbers t given after p c
stands_from s f = record { place = s.place; only = λ g. s.only (f g) }

-- ------------------------------------------------------------------ one identifier

module _ (β : Answers Reply) (m : Message) (d : Domain) (s : Settings) (p : AppliedPolicy) (st : Stored) (ws : List (Identifier × Stored)) (i : Identifier) (is : List Identifier) where
  pub compare_passed : is_walked (settled_alignment s m.author i) (stored_domain m.author st) ≡ false → compare_on β m d s p st ws (i ∷ is) ≡ compare_on β m d s p st (ws ++ ((i, still_open) ∷ [])) is
  unfolding compare_on
  compare_passed e = rw (e, compare_on)

  compare_walked : is_walked (settled_alignment s m.author i) (stored_domain m.author st) ≡ true
      → compare_on β m d s p st ws (i ∷ is) ≡ compare_reached β m d s p st ws i is (λ l. compare_on β m d s p st l is) (reach β i.domain None (targets i.domain))
  unfolding compare_on
  compare_walked e = rw (e, compare_on)

  module _ (e : is_walked (settled_alignment s m.author i) (stored_domain m.author st) ≡ true) where
    pub compare_over : (w : Option Summary) → reach β i.domain None (targets i.domain) ≡ over w
        → compare_on β m d s p st ws (i ∷ is) ≡ compare_on β m d s p st (ws ++ ((i, stored_in i.domain (ended w)) ∷ [])) is
    unfolding compare_reached
    compare_over w f = compare_walked e ∙ ap (compare_reached β m d s p st ws i is (λ l. compare_on β m d s p st l is)) f

    pub compare_pauses : (q : Pause) → reach β i.domain None (targets i.domain) ≡ pauses q → compare_on β m d s p st ws (i ∷ is) ≡ cursor st ws (on_identifier d s p i q is)
    unfolding compare_reached
    compare_pauses q f = compare_walked e ∙ ap (compare_reached β m d s p st ws i is (λ l. compare_on β m d s p st l is)) f
