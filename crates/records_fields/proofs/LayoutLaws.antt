-- Laws of records where they lie, as code takes them.
use mathlib.Core.Path.{◌≡◌, refl, ap, ◌∙◌}
use mathlib.Core.List.{[], ◌∷◌}
use mathlib.Core.Bool.{true, false}
use Prim.Native.Nat.{ℕ, zero, suc, ◌+◌, ◌-◌, ◌≤◌, ◌<◌}
use native.Mathlib.Omega.{arith}
use lib.ListN.{drop, get_or}
use Rattle.octets.specs.Octets.{Octets, octets, same, same_text, part_of}
use Rattle.octets.specs.Framing.{mark_of, body_of, after_record}
use Rattle.domain.specs.Domain.{without_dot}
use Rattle.records_fields.specs.code.Layout.{name_in, answers_name, found_body, bytes_in, identifier_at, identified}

-- ------------------------------------------------------------------ the parts of an answer

pub name_part : (body : Octets) (size : ℕ) → size ≡ get_or body 1 0 → without_dot (part_of body 2 (2 + size)) ≡ name_in body
unfolding part_of name_in
name_part body size e = let f : 2 + size - 2 ≡ size = omega arith in rw (f, e)

pub bytes_part : (body : Octets) (size : ℕ) → size ≡ get_or body 1 0 → drop (2 + size) body ≡ bytes_in body
unfolding bytes_in
bytes_part body size e = rw e

-- ------------------------------------------------------------------ the answer at a name

module _ (name t : Octets) where
  pub other_mark : same (mark_of t) (octets "AN") ≡ false → answers_name name t ≡ false
  unfolding answers_name
  other_mark e = rw e

  pub answer_mark : same (mark_of t) (octets "AN") ≡ true → answers_name name t ≡ same_text (name_in (body_of t)) name
  unfolding answers_name
  answer_mark e = rw e

  -- the first record answers it, or one that follows
  module _ (k : ℕ) where
    pub found_first : answers_name name t ≡ true → found_body (suc k) name t ≡ body_of t
    unfolding found_body
    found_first e = rw e

    pub found_next : answers_name name t ≡ false → found_body (suc k) name t ≡ found_body k name (after_record t)
    unfolding found_body
    found_next e = rw e

  pub found_here : (k : ℕ) → 0 < k → answers_name name t ≡ true → found_body k name t ≡ body_of t
  found_here k h e =
      let more : k ≡ suc (k - 1) = omega arith in
      ap (λ (n : ℕ). found_body n name t) more ∙ found_first (k - 1) e

  pub found_later : (k : ℕ) → 0 < k → answers_name name t ≡ false → found_body k name t ≡ found_body (k - 1) name (after_record t)
  found_later k h e =
      let more : k ≡ suc (k - 1) = omega arith in
      ap (λ (n : ℕ). found_body n name t) more ∙ found_next (k - 1) e

  pub found_none : (k : ℕ) → k ≤ 0 → found_body k name t ≡ []
  unfolding found_body
  found_none zero h = refl
  found_none (suc k) h = absurd (omega arith)

-- ------------------------------------------------------------------ the identifiers

-- those of the records after the author's, where k are left with it
module _ (t : Octets) (k : ℕ) where
  pub one_identified : 1 < k → same (mark_of t) (octets "ID") ≡ true → identified (k - 1) t ≡ identifier_at t ∷ identified (k - 1 - 1) (after_record t)
  unfolding identified
  one_identified h e =
      let more : k - 1 ≡ suc (k - 1 - 1) = omega arith in
      ap (λ (n : ℕ). identified n t) more ∙ rw e

  pub other_follows : 1 < k → same (mark_of t) (octets "ID") ≡ false → identified (k - 1) t ≡ []
  unfolding identified
  other_follows h e =
      let more : k - 1 ≡ suc (k - 1 - 1) = omega arith in
      ap (λ (n : ℕ). identified n t) more ∙ rw e

  pub none_left : k ≤ 1 → identified (k - 1) t ≡ []
  unfolding identified
  none_left h = let none : k - 1 ≡ 0 = omega arith in rw none
