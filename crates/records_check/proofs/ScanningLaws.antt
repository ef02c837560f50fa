-- Laws of the check: one record, and the sheet read record by record.
use Rattle.std.specs.Prelude.{Result, Ok, Err, Option, None, Some}
use mathlib.Core.Path.{◌≡◌, refl, ap, sym, ◌∙◌}
use mathlib.Core.List.{List, [], ◌∷◌, ◌++◌, map, flatten, append_assoc, append-nil}
use mathlib.Core.Logic.{⊎_elim}
use mathlib.Core.Bool.{Bool, true, false, not, ◌&&◌, and-false, or-false}
use Prim.Native.Nat.{ℕ, zero, suc, ◌+◌, ◌-◌, ◌≤◌, ◌<◌}
use native.Mathlib.Omega.{arith}
use native.Mathlib.Numerals.{add-one}
use denote.Enum.Declared.{tag_of}
use types.Run.{OneOf}
use lib.Dec.{ltb, eqb}
use lib.ListN.{length, length-append}
use borrow.Author.Tests.{lt-ltb, le-ltb, ne_eqb}
use Rattle.octets.specs.Octets.{Octets, any}
use Rattle.octets.specs.Framing.{size_of, body_of, after_record}
use Rattle.octets.specs.Refusing.{◌>>=◌, OrRefused, ok, not_ok, refusal, refuse_if, or_refuse}
use Rattle.octets.specs.declared.Refusal.{Refusal}
use Rattle.octets.proofs.FramingLaws.{whole, not_whole, after_length}
use Rattle.octets.proofs.RefusingLaws.{bind_ok}
use Rattle.records.specs.declared.Phase.{Phase}
use Rattle.records.specs.Sheet.{Entry, author_entry, identifier_entry, answer_entry, entry_of, phase_after, answered_name, answered_before, ends_within, entry_at, entries_from, entries}
use Rattle.records.proofs.EntryLaws.{Entered, entered, none_left, enough}
use Rattle.records_fields.specs.code.Layout.{onto, listed, name_in, found_body, Checks}
use Rattle.records_find.proofs.SheetLaws.{Reads, record_reads, before_law}
use Rattle.records_read.specs.declared.RecordKind.{RecordKind}
use Rattle.records_read.specs.contracts.RecordKind as kinds
use Rattle.records_read.specs.code.Kinds.{record_kind}
use Rattle.records_check.specs.code.Scanning.{names_before, phase_read, phase_only, phase_entered, next_as}

-- ------------------------------------------------------------------ a name that is answered before

-- the returns of `is_answered`; variants are told apart by their places
pub nameless : (seen : List Octets) (t : Octets) (kind : RecordKind) → kind ≡ record_kind (entry_of t) → OneOf (0 ∷ 1 ∷ 3 ∷ []) (tag_of kinds.the_type kind)
    → (e : Entry) → entry_of t ≡ Some e → false ≡ answered_before seen e
unfolding record_kind answered_before answered_name any
nameless seen t kind k o (author_entry x s d) f = refl
nameless seen t kind k o (identifier_entry x s d) f = refl
nameless seen t kind k o (answer_entry n s b) f =
    let e : kind ≡ RecordKind.Answer = k ∙ ap record_kind f in
    absurd (⊎_elim (λ z. omega arith) (λ z. ⊎_elim (λ y. omega arith) (λ y. omega arith) z) (rw e at o))

pub some_octets : (l : Octets) → not (eqb (length l) 0) ≡ ltb 0 (length l)
some_octets [] = refl
some_octets (x ∷ l) = rw (lt-ltb 0 (length (x ∷ l)) (omega arith), ne_eqb (length (x ∷ l)) 0 (λ e. omega arith))

pub answered_found : (k : ℕ) (t sheet : Octets) → length (listed k sheet) ≡ k → RecordKind.Answer ≡ record_kind (entry_of t)
    → (content name answer : Octets) → content ≡ body_of t → name ≡ name_in content → answer ≡ found_body k name sheet
    → (e : Entry) → entry_of t ≡ Some e → ltb 0 (length answer) ≡ answered_before (names_before k sheet) e
unfolding record_kind answered_before answered_name any names_before Reads
answered_found k t sheet h a content name answer f g q (author_entry x s d) p = let z : ◌≡◌ {A = ℕ} 0 1 = cc (a ∙ ap record_kind p) in absurd (omega arith)
answered_found k t sheet h a content name answer f g q (identifier_entry x s d) p = let z : ◌≡◌ {A = ℕ} 0 1 = cc (a ∙ ap record_kind p) in absurd (omega arith)
answered_found k t sheet h a content name answer f g q (answer_entry n s b) p =
    rw (q, before_law k sheet name h, g, f, (record_reads t (answer_entry n s b) p).its_name, or-false)

-- ------------------------------------------------------------------ what may come next

-- what the code answers, by phase and kind
unfoldable pub following : (place : ℕ) → Phase → RecordKind → Result Phase ℕ
following place Phase.Author RecordKind.Author = Ok Phase.Identifiers
following place Phase.Author RecordKind.Identifier = Err place
following place Phase.Author RecordKind.Answer = Err place
following place Phase.Author RecordKind.Wrong = Err place
following place Phase.Identifiers RecordKind.Author = Err place
following place Phase.Identifiers RecordKind.Identifier = Ok Phase.Identifiers
following place Phase.Identifiers RecordKind.Answer = Ok Phase.Answers
following place Phase.Identifiers RecordKind.Wrong = Err place
following place Phase.Answers RecordKind.Author = Err place
following place Phase.Answers RecordKind.Identifier = Err place
following place Phase.Answers RecordKind.Answer = Ok Phase.Answers
following place Phase.Answers RecordKind.Wrong = Err place

pub follows : (place : ℕ) (phase : Phase) (kind : RecordKind) (o : Option Entry) → kind ≡ record_kind o → next_as (following place phase kind) ≡ or_refuse (phase_read phase o) (refusal 8 place)
unfolding following next_as record_kind phase_read phase_after or_refuse
follows place Phase.Author kind None k = rw k
follows place Phase.Author kind (Some (author_entry e s d)) k = rw k
follows place Phase.Author kind (Some (identifier_entry e s d)) k = rw k
follows place Phase.Author kind (Some (answer_entry e s d)) k = rw k
follows place Phase.Identifiers kind None k = rw k
follows place Phase.Identifiers kind (Some (author_entry e s d)) k = rw k
follows place Phase.Identifiers kind (Some (identifier_entry e s d)) k = rw k
follows place Phase.Identifiers kind (Some (answer_entry e s d)) k = rw k
follows place Phase.Answers kind None k = rw k
follows place Phase.Answers kind (Some (author_entry e s d)) k = rw k
follows place Phase.Answers kind (Some (identifier_entry e s d)) k = rw k
follows place Phase.Answers kind (Some (answer_entry e s d)) k = rw k

-- the returns of `next_phase`
pub told : (place : ℕ) (phase : Phase) (kind : RecordKind) {r : Result Phase ℕ} → following place phase kind ≡ r
    → (o : Option Entry) → kind ≡ record_kind o → next_as r ≡ or_refuse (phase_read phase o) (refusal 8 place)
told place phase kind e o k = ap next_as (sym e) ∙ follows place phase kind o k

pub author_late : (place : ℕ) (phase : Phase) → (phase ≡ Phase.Author → ⊥) → following place phase RecordKind.Author ≡ Err place
unfolding following
author_late place Phase.Author n = absurd (n refl)
author_late place Phase.Identifiers n = refl
author_late place Phase.Answers n = refl

pub identifier_late : (place : ℕ) (phase : Phase) → (phase ≡ Phase.Identifiers → ⊥) → following place phase RecordKind.Identifier ≡ Err place
unfolding following
identifier_late place Phase.Author n = refl
identifier_late place Phase.Identifiers n = absurd (n refl)
identifier_late place Phase.Answers n = refl

pub wrong_follows : (place : ℕ) (phase : Phase) → following place phase RecordKind.Wrong ≡ Err place
unfolding following
wrong_follows place Phase.Author = refl
wrong_follows place Phase.Identifiers = refl
wrong_follows place Phase.Answers = refl

-- ------------------------------------------------------------------ one record

module _ (over : Bool) (place : ℕ) (t : Octets) where
  over_long : (over && ltb 65536 (place + 4 + size_of t)) ≡ true → ends_within over place t ≡ not_ok (refusal 8 65536)
  unfolding ends_within refuse_if ◌>>=◌
  over_long e = rw e

  module _ (e : (over && ltb 65536 (place + 4 + size_of t)) ≡ false) where
    past_end : length t < 4 + size_of t → ends_within over place t ≡ not_ok (refusal 8 place)
    unfolding ends_within refuse_if ◌>>=◌
    past_end h = rw (e, not_whole t h)

    in_time : 4 + size_of t ≤ length t → ends_within over place t ≡ ok tt
    unfolding ends_within refuse_if ◌>>=◌
    in_time h = rw (e, whole t h)

-- once it is known where the record ends, what it is, and what may come after it
abbrev with_phase : ℕ → Entry → Option Phase → (again : Bool) → OrRefused (Entry × Phase)
with_phase place r p again = or_refuse p (refusal 8 place) >>= λ next. refuse_if again (refusal 8 place) >>= λ _. ok (r, next)

abbrev read_at : Phase → List Octets → ℕ → Option Entry → OrRefused (Entry × Phase)
read_at phase seen place o = or_refuse o (refusal 8 place) >>= λ r. with_phase place r (phase_after phase r) (answered_before seen r)

module _ (phase : Phase) (seen : List Octets) (place : ℕ) where
  read_again : (o : Option Entry) → ((e : Entry) → o ≡ Some e → true ≡ answered_before seen e) → not_ok (refusal 8 place) ≡ phase_only (read_at phase seen place o)
  unfolding or_refuse refuse_if ◌>>=◌
  read_again None a = refl
  read_again (Some r) a =
      rw (← a r refl) (elim (phase_after phase r) as (λ p. not_ok (refusal 8 place) ≡ phase_only (with_phase place r p true)) [ None ↦ refl | Some next ↦ refl ])

  read_new : (o : Option Entry) → ((e : Entry) → o ≡ Some e → false ≡ answered_before seen e) → or_refuse (phase_read phase o) (refusal 8 place) ≡ phase_only (read_at phase seen place o)
  unfolding phase_read or_refuse refuse_if ◌>>=◌
  read_new None a = refl
  read_new (Some r) a =
      rw (← a r refl) (elim (phase_after phase r) as (λ p. or_refuse p (refusal 8 place) ≡ phase_only (with_phase place r p false)) [ None ↦ refl | Some next ↦ refl ])

-- the returns of `check_record`
module _ (k : ℕ) (phase : Phase) (t sheet : Octets) (fits : length t ≤ length sheet) (size : ℕ) (e : size ≡ size_of t) where
  at_end : {f : Refusal} → ends_within (ltb 65536 (length sheet)) (length sheet - length t) t ≡ not_ok f → not_ok f ≡ phase_entered k phase t sheet
  unfolding entry_at ◌>>=◌
  at_end p = rw p

  pub runs_over : 65536 < length sheet → 65536 < length sheet - length t + (4 + size) → next_as (Err 65536) ≡ phase_entered k phase t sheet
  unfolding next_as
  runs_over h g =
      at_end (over_long (ltb 65536 (length sheet)) (length sheet - length t) t (rw (lt-ltb 65536 (length sheet) h, lt-ltb 65536 (length sheet - length t + 4 + size_of t) (omega arith))))

  pub runs_past : length sheet ≤ 65536 → length t < 4 + size → next_as (Err (length sheet - length t)) ≡ phase_entered k phase t sheet
  unfolding next_as
  runs_past h g = at_end (past_end (ltb 65536 (length sheet)) (length sheet - length t) t (rw (le-ltb 65536 (length sheet) h)) (omega arith))

  module _ (h : 4 + size ≤ length t) (g : length sheet - length t + (4 + size) ≤ 65536) where
    ended : ends_within (ltb 65536 (length sheet)) (length sheet - length t) t ≡ ok tt
    ended =
        in_time (ltb 65536 (length sheet)) (length sheet - length t) t (rw (le-ltb 65536 (length sheet - length t + 4 + size_of t) (omega arith), and-false)) (omega arith)

    entered_as : phase_entered k phase t sheet ≡ phase_only (read_at phase (names_before k sheet) (length sheet - length t) (entry_of t))
    unfolding entry_at ◌>>=◌
    entered_as = rw ended

    pub again : ((r : Entry) → entry_of t ≡ Some r → true ≡ answered_before (names_before k sheet) r) → next_as (Err (length sheet - length t)) ≡ phase_entered k phase t sheet
    unfolding next_as
    again a = read_again phase (names_before k sheet) (length sheet - length t) (entry_of t) a ∙ sym entered_as

    pub once : ((r : Entry) → entry_of t ≡ Some r → false ≡ answered_before (names_before k sheet) r)
        → (n : Result Phase ℕ) → next_as n ≡ or_refuse (phase_read phase (entry_of t)) (refusal 8 (length sheet - length t)) → next_as n ≡ phase_entered k phase t sheet
    once a n f = f ∙ read_new phase (names_before k sheet) (length sheet - length t) (entry_of t) a ∙ sym entered_as

-- ------------------------------------------------------------------ the records before

-- what follows the first k records
unfoldable pub from_record : ℕ → Octets → Octets
from_record zero t = t
from_record (suc k) t = from_record k (after_record t)

from_next : (k : ℕ) (sheet : Octets) → from_record (suc k) sheet ≡ after_record (from_record k sheet)
unfolding from_record
from_next zero sheet = refl
from_next (suc k) sheet = from_next k (after_record sheet)

onto_append : (o : Option Entry) (a b : List Entry) → onto o (a ++ b) ≡ onto o a ++ b
unfolding onto
onto_append None a b = refl
onto_append (Some r) a b = refl

listed_next : (k : ℕ) (sheet : Octets) → listed (suc k) sheet ≡ listed k sheet ++ onto (entry_of (from_record k sheet)) []
unfolding listed from_record
listed_next zero sheet = refl
listed_next (suc k) sheet = ap (onto (entry_of sheet)) (listed_next k (after_record sheet)) ∙ onto_append (entry_of sheet) (listed k (after_record sheet)) _

names_append : (a b : List Entry) → flatten (map answered_name (a ++ b)) ≡ flatten (map answered_name a) ++ flatten (map answered_name b)
unfolding flatten
names_append [] b = refl
names_append (r ∷ a) b =
    ap (λ (l : List Octets). answered_name r ++ l) (names_append a b) ∙ sym (append_assoc (answered_name r) (flatten (map answered_name a)) (flatten (map answered_name b)))

-- ------------------------------------------------------------------ the loop

-- so many records were read, none of them wrong; what is left decides
pub record Reading (k : ℕ) (phase : Phase) (t sheet : Octets) : Type 0 where
  pub left : t ≡ from_record k sheet
  pub counted : length (listed k sheet) ≡ k
  pub within : k + length t ≤ length sheet
  pub reads : entries sheet ≡ (entries_from (length t) (ltb 65536 (length sheet)) phase (names_before k sheet) (length sheet - length t) t >>= λ rs. ok (listed k sheet ++ rs))

pub no_octets : (sheet : Octets) → length sheet ≡ 0 → Checks sheet (Err 0)
unfolding Checks entries refuse_if ◌>>=◌
no_octets [] e = refl
no_octets (x ∷ sheet) e = absurd (omega arith)

bind_self : {A : Type 0} (u : OrRefused A) → u ≡ (u >>= λ a. ok a)
unfolding ◌>>=◌
bind_self (ok a) = refl
bind_self (not_ok r) = refl

pub begun : (sheet : Octets) → (length sheet ≡ 0 → ⊥) → Reading 0 Phase.Author sheet sheet
unfolding from_record listed names_before flatten entries refuse_if ◌>>=◌
begun sheet d = record { left = refl; counted = refl; within = omega arith; reads = go sheet d }
  where
    go : (l : Octets) → (length l ≡ 0 → ⊥) → entries l ≡ (entries_from (length l) (ltb 65536 (length l)) Phase.Author [] (length l - length l) l >>= λ rs. ok rs)
    go [] f = absurd (f refl)
    go (x ∷ l) f =
        let z : length (x ∷ l) - length (x ∷ l) ≡ 0 = omega arith in
        rw z (bind_self (entries_from (length (x ∷ l)) (ltb 65536 (length (x ∷ l))) Phase.Author [] 0 (x ∷ l)))

-- the first record, and those that follow
turn : (over : Bool) (phase : Phase) (seen : List Octets) (place : ℕ) (t : Octets) → 0 < length t → (u : OrRefused (Entry × Phase)) → entry_at over phase seen place t ≡ u
    → entries_from (length t) over phase seen place t ≡ (u >>= λ e. entries_from (length t - 1) over e.1 (seen ++ answered_name e.0) (place + 4 + size_of t) (after_record t) >>= λ rs. ok (e.0 ∷ rs))
unfolding entries_from
turn over phase seen place [] h u p = absurd (omega arith)
turn over phase seen place (x ∷ xs) h u p = let one : length (x ∷ xs) - 1 ≡ length xs = omega arith in rw (one, p)

-- entries before, and one entry more
joined : (u : OrRefused (List Entry)) (r : Entry) (before : List Entry) → (u >>= (λ rs. ok (r ∷ rs)) >>= λ rs. ok (before ++ rs)) ≡ (u >>= λ rs. ok ((before ++ (r ∷ [])) ++ rs))
unfolding ◌>>=◌
joined (not_ok f) r before = refl
joined (ok rs) r before = rw append_assoc

phase_refused : (u : OrRefused (Entry × Phase)) (f : Refusal) → phase_only u ≡ not_ok f → u ≡ not_ok f
unfolding ◌>>=◌
phase_refused (ok e) f h = absurd (let z : ◌≡◌ {A = ℕ} 0 1 = cc in omega arith)
phase_refused (not_ok g) f h = cc

module _ {k : ℕ} {phase : Phase} {t sheet : Octets} (m : Reading k phase t sheet) where
  pub complete : length t ≤ 0 → Checks sheet (Ok k)
  unfolding Checks ◌>>=◌
  complete h = record {
    reads = m.reads ∙ rw (none_left (length t) (ltb 65536 (length sheet)) phase (names_before k sheet) (length sheet - length t) t (omega arith), append-nil);
    all_listed = m.counted;
  }

  module _ (h : 0 < length t) (r : Result Phase ℕ) (e : next_as r ≡ phase_entered k phase t sheet) where
    over : Bool
    over = ltb 65536 (length sheet)

    pub faulty : (place : ℕ) → r ≡ Err place → Checks sheet (Err place)
    unfolding Checks next_as ◌>>=◌ over
    faulty place f =
        let p = phase_refused (entry_at over phase (names_before k sheet) (length sheet - length t) t) (refusal 8 place) (sym e ∙ ap next_as f) in
        m.reads ∙ rw (turn over phase (names_before k sheet) (length sheet - length t) t h (not_ok (refusal 8 place)) p)

    module _ (next : Phase) (f : r ≡ Ok next) (rest : Octets) (g : rest ≡ after_record t) where
      -- the record at the front
      found : (x : Entry × Phase) × ((entry_at over phase (names_before k sheet) (length sheet - length t) t ≡ ok x) × (ok x.1 ≡ ok next))
      unfolding next_as over
      found = bind_ok (entry_at over phase (names_before k sheet) (length sheet - length t) t) (λ x. ok x.1) next (sym e ∙ ap next_as f)

      enters : Entered over phase (names_before k sheet) (length sheet - length t) t found.0.0 found.0.1
      enters = entered over phase (names_before k sheet) (length sheet - length t) t found.0 found.1.0

      pub shorter : length rest < length t
      shorter = omega (arith, enters.fits, ap length g, after_length t)

      place_next : length sheet - length t + 4 + size_of t ≡ length sheet - length (after_record t)
      place_next = omega (arith, enters.fits, m.within, after_length t)

      listed_are : listed (k + 1) sheet ≡ listed k sheet ++ (found.0.0 ∷ [])
      unfolding onto
      listed_are = rw (add-one k, listed_next k sheet, ← m.left, enters.reads)

      names_are : names_before (k + 1) sheet ≡ names_before k sheet ++ answered_name found.0.0
      unfolding names_before flatten
      names_are = rw (listed_are, names_append, append-nil)

      pub one_more : Reading (k + 1) next rest sheet
      unfolding ◌>>=◌ over
      one_more =
          let same : found.0.1 ≡ next = cc found.1.1 in
          let names = names_before (k + 1) sheet in
          let bound = enough (length t - 1) (length rest) over next names (length sheet - length rest) rest (omega (arith, shorter)) (omega arith) in
          let now = entries_from (length t - 1) over found.0.1 (names_before k sheet ++ answered_name found.0.0) (length sheet - length t + 4 + size_of t) (after_record t) in
          record {
            left = rw (add-one k, from_next k sheet, ← m.left) g;
            counted = rw (listed_are, length-append, m.counted);
            within = omega (arith, m.within, shorter);
            reads =
                m.reads
                ∙ rw (turn over phase (names_before k sheet) (length sheet - length t) t h (ok found.0) found.1.0)
                (joined now found.0.0 (listed k sheet)
                ∙ rw (place_next, same, ← names_are, ← listed_are, ← g, bound));
          }
