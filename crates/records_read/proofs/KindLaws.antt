-- Laws of what a record is: the returns of the code, one by one.
use mathlib.Core.Path.{◌≡◌, refl, ap, sym, ◌∙◌}
use mathlib.Core.List.{[], ◌∷◌}
use mathlib.Core.Bool.{Bool, true, false, ◌&&◌, not, and-false}
use Prim.Native.Nat.{ℕ, zero, suc, ◌+◌, ◌≤◌, ◌<◌}
use native.Mathlib.Omega.{arith}
use lib.Dec.{eqb, leb}
use lib.ListN.{length, take, drop, get_or}
use lib.Seq.{drop-cons, drop-length}
use borrow.Author.Tests.{le-leb, lt-leb, eq-eqb, ne_eqb, eqb-true, eqb-false}
use Rattle.std.specs.Prelude.{if◌then◌else◌, Option, None, Some}
use Rattle.octets.specs.Octets.{Octets, octets, same, is_empty, is_nothing, part_of}
use Rattle.octets.specs.Framing.{mark_of, body_of}
use Rattle.octets.proofs.TextLaws.{same_true}
use Rattle.domain.specs.Domain.{without_dot, is_domain}
use Rattle.txt.specs.declared.Status.{Status}
use Rattle.records.specs.Sheet.{answer_entry, status_of, bytes_allowed, answer_in, entry_in, entry_of}
use Rattle.records_fields.specs.code.Layout.{name_in}
use Rattle.records_read.specs.declared.RecordKind.{RecordKind}
use Rattle.records_read.specs.code.Kinds.{record_kind}

-- ------------------------------------------------------------------ the body of an answer

-- a text ends where it is as long as that
empty_drop : (n : ℕ) (l : Octets) → n ≤ length l → eqb (length l) n ≡ is_empty (drop n l)
empty_drop n l h = go (eqb (length l) n) refl
  where
    go : (b : Bool) → eqb (length l) n ≡ b → eqb (length l) n ≡ is_empty (drop n l)
    go true e = rw (e, ← eqb-true (length l) n e, drop-length l)
    go false e =
        let d : length l ≡ n → ⊥ = eqb-false (length l) n e in
        rw (e, drop-cons l n 0 (omega arith))

no_status : (s : ℕ) → 2 < s → status_of s ≡ None
unfolding status_of
no_status s h = rw (ne_eqb s 0 (λ e. omega arith), ne_eqb s 1 (λ e. omega arith), ne_eqb s 2 (λ e. omega arith))

module _ (n : ℕ) (rest : Octets) where
  -- a name that runs past the end, or keeps no rule
  no_name : (o : Option Status) → leb n (length rest) ≡ false → answer_in o n rest ≡ None
  unfolding answer_in
  no_name None e = refl
  no_name (Some s) e = rw e

  no_rule : (o : Option Status) → is_domain (without_dot (take n rest)) ≡ false → answer_in o n rest ≡ None
  unfolding answer_in
  no_rule None e = refl
  no_rule (Some s) e = rw (e, and-false)

  module _ (fits : leb n (length rest) ≡ true) (rule : is_domain (without_dot (take n rest)) ≡ true) where
    by_status : (s : Status) → not (is_nothing (answer_in (Some s) n rest)) ≡ bytes_allowed s (drop n rest)
    unfolding answer_in is_nothing
    by_status s =
        let answer = answer_entry (without_dot (take n rest)) s (drop n rest) in
        rw (fits, rule) (elim (bytes_allowed s (drop n rest)) as (λ b. not (is_nothing (if b then Some answer else None)) ≡ b) [ true ↦ refl | false ↦ refl ])

    with_records : not (is_nothing (answer_in (status_of 0) n rest)) ≡ true
    unfolding status_of bytes_allowed
    with_records = by_status Status.Records

    without_records : (s : ℕ) → (s ≡ 0 → ⊥) → s ≤ 2 → not (is_nothing (answer_in (status_of s) n rest)) ≡ is_empty (drop n rest)
    unfolding status_of bytes_allowed
    without_records zero d h = absurd (d refl)
    without_records (suc zero) d h = by_status Status.NoRecords
    without_records (suc (suc zero)) d h = by_status Status.Error
    without_records (suc (suc (suc s))) d h = absurd (omega arith)

-- the answer in a body of two octets and more
answer_there : (a b : ℕ) (rest : Octets) → entry_in (octets "AN") (a ∷ b ∷ rest) ≡ answer_in (status_of a) b rest
unfolding entry_in octets same
answer_there a b rest = refl

-- the returns of `is_answer`
pub bad_status : (body : Octets) (s : ℕ) → s ≡ get_or body 0 3 → 2 < s → false ≡ not (is_nothing (entry_in (octets "AN") body))
unfolding entry_in answer_in is_nothing
bad_status [] s e h = refl
bad_status (a ∷ []) s e h = refl
bad_status (a ∷ b ∷ rest) s e h = rw (answer_there a b rest, no_status a (omega arith))

pub name_past : (body : Octets) (n : ℕ) → n ≡ get_or body 1 0 → length body < 2 + n → false ≡ not (is_nothing (entry_in (octets "AN") body))
unfolding entry_in is_nothing
name_past [] n e h = refl
name_past (a ∷ []) n e h = refl
name_past (a ∷ b ∷ rest) n e h = rw (answer_there a b rest, no_name b rest (status_of a) (lt-leb b (length rest) (omega arith)))

pub bad_name : (body : Octets) → is_domain (name_in body) ≡ false → false ≡ not (is_nothing (entry_in (octets "AN") body))
unfolding entry_in name_in is_nothing
bad_name [] d = refl
bad_name (a ∷ []) d = refl
bad_name (a ∷ b ∷ rest) d = rw (answer_there a b rest, no_rule b rest (status_of a) d)

pub good_records : (body : Octets) (s n : ℕ) → s ≡ get_or body 0 3 → n ≡ get_or body 1 0 → 2 + n ≤ length body → is_domain (name_in body) ≡ true
    → s ≡ 0 → true ≡ not (is_nothing (entry_in (octets "AN") body))
unfolding name_in
good_records [] s n e f h d z = absurd (omega arith)
good_records (a ∷ []) s n e f h d z = absurd (omega arith)
good_records (a ∷ b ∷ rest) s n e f h d z =
    let zero_status : a ≡ 0 = omega arith in
    rw (answer_there a b rest, zero_status) (sym (with_records b rest (le-leb b (length rest) (omega arith)) d))

pub good_none : (body : Octets) (s n : ℕ) → s ≡ get_or body 0 3 → n ≡ get_or body 1 0 → 2 + n ≤ length body → is_domain (name_in body) ≡ true
    → (s ≡ 0 → ⊥) → s ≤ 2 → eqb (length body) (2 + n) ≡ not (is_nothing (entry_in (octets "AN") body))
unfolding name_in
good_none [] s n e f h d z k = absurd (omega arith)
good_none (a ∷ []) s n e f h d z k = absurd (omega arith)
good_none (a ∷ b ∷ rest) s n e f h d z k =
    rw (answer_there a b rest, without_records b rest (le-leb b (length rest) (omega arith)) d a (λ p. z (omega arith)) (omega arith), ← empty_drop b rest (omega arith))
    (same_end (eqb (length rest) b) refl)
  where
    same_end : (x : Bool) → eqb (length rest) b ≡ x → eqb (length (a ∷ b ∷ rest)) (2 + n) ≡ eqb (length rest) b
    same_end true p = rw p (eq-eqb (length (a ∷ b ∷ rest)) (2 + n) (omega (arith, eqb-true (length rest) b p)))
    same_end false p = rw p (ne_eqb (length (a ∷ b ∷ rest)) (2 + n) λ q. eqb-false (length rest) b p (omega arith))

-- ------------------------------------------------------------------ what a record is

-- an answer is an answer's entry, or nothing
by_answer : Bool → RecordKind
by_answer true = RecordKind.Answer
by_answer false = RecordKind.Wrong

answer_kind : (o : Option Status) (n : ℕ) (rest : Octets) → by_answer (not (is_nothing (answer_in o n rest))) ≡ record_kind (answer_in o n rest)
unfolding answer_in record_kind is_nothing by_answer
answer_kind None n rest = refl
answer_kind (Some s) n rest =
    let answer = answer_entry (without_dot (take n rest)) s (drop n rest) in
    elim (leb n (length rest) && is_domain (without_dot (take n rest)) && bytes_allowed s (drop n rest))
    as (λ b. by_answer (not (is_nothing (if b then Some answer else None))) ≡ record_kind (if b then Some answer else None)) [ true ↦ refl | false ↦ refl ]

kind_by_body : (body : Octets) → by_answer (not (is_nothing (entry_in (octets "AN") body))) ≡ record_kind (entry_in (octets "AN") body)
unfolding entry_in record_kind is_nothing by_answer
kind_by_body [] = refl
kind_by_body (a ∷ []) = refl
kind_by_body (a ∷ b ∷ rest) = rw answer_there (answer_kind (status_of a) b rest)

-- by mark, where the body has two octets and more
module _ (mark : Octets) where
  as_author : (body : Octets) → 2 ≤ length body → same mark (octets "AU") ≡ true → RecordKind.Author ≡ record_kind (entry_in mark body)
  unfolding entry_in record_kind
  as_author [] h e = absurd (omega arith)
  as_author (a ∷ []) h e = absurd (omega arith)
  as_author (a ∷ b ∷ rest) h e = rw e

  module _ (au : same mark (octets "AU") ≡ false) where
    as_identifier : (body : Octets) → 2 ≤ length body → same mark (octets "ID") ≡ true → RecordKind.Identifier ≡ record_kind (entry_in mark body)
    unfolding entry_in record_kind
    as_identifier [] h e = absurd (omega arith)
    as_identifier (a ∷ []) h e = absurd (omega arith)
    as_identifier (a ∷ b ∷ rest) h e = rw (au, e)

    as_other : same mark (octets "ID") ≡ false → (body : Octets) → same mark (octets "AN") ≡ false → RecordKind.Wrong ≡ record_kind (entry_in mark body)
    unfolding entry_in record_kind
    as_other id [] e = refl
    as_other id (a ∷ []) e = refl
    as_other id (a ∷ b ∷ rest) e = rw (au, id, e)

as_short : (mark body : Octets) → length body < 2 → RecordKind.Wrong ≡ record_kind (entry_in mark body)
unfolding entry_in record_kind
as_short mark [] h = refl
as_short mark (a ∷ []) h = refl
as_short mark (a ∷ b ∷ rest) h = absurd (omega arith)

-- the returns of `read_kind`
module _ (t content mark : Octets) (e : content ≡ body_of t) (m : mark ≡ part_of t 0 2) where
  reads_as : entry_of t ≡ entry_in mark content
  unfolding entry_of mark_of part_of
  reads_as = rw (e, m)

  pub kind_author : 2 ≤ length content → same mark (octets "AU") ≡ true → RecordKind.Author ≡ record_kind (entry_of t)
  kind_author h a = rw reads_as (as_author mark content h a)

  module _ (au : same mark (octets "AU") ≡ false) where
    pub kind_identifier : 2 ≤ length content → same mark (octets "ID") ≡ true → RecordKind.Identifier ≡ record_kind (entry_of t)
    kind_identifier h i = rw reads_as (as_identifier mark au content h i)

    pub kind_other : same mark (octets "ID") ≡ false → same mark (octets "AN") ≡ false → RecordKind.Wrong ≡ record_kind (entry_of t)
    kind_other id n = rw reads_as (as_other mark au id content n)

  module _ (an : same mark (octets "AN") ≡ true) where
    by_body : by_answer (not (is_nothing (entry_in (octets "AN") content))) ≡ record_kind (entry_of t)
    by_body = rw (reads_as, same_true mark (octets "AN") an) (kind_by_body content)

    pub kind_answer : true ≡ not (is_nothing (entry_in (octets "AN") content)) → RecordKind.Answer ≡ record_kind (entry_of t)
    unfolding by_answer
    kind_answer f = ap by_answer f ∙ by_body

    pub kind_no_answer : false ≡ not (is_nothing (entry_in (octets "AN") content)) → RecordKind.Wrong ≡ record_kind (entry_of t)
    unfolding by_answer
    kind_no_answer f = ap by_answer f ∙ by_body

pub kind_short : (t content : Octets) → content ≡ body_of t → length content < 2 → RecordKind.Wrong ≡ record_kind (entry_of t)
unfolding entry_of
kind_short t content e h = as_short (mark_of t) (body_of t) (omega (arith, ap length e))
