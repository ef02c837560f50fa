-- Laws of a sheet: its answers and its message, from its records as they lie.
use mathlib.Core.Path.{◌≡◌, refl, ap, ap₂, sym, ◌∙◌, subst}
use mathlib.Core.List.{List, [], ◌∷◌, ◌++◌, map, flatten}
use mathlib.Core.Bool.{Bool, true, false, ◌&&◌}
use Prim.Native.Nat.{ℕ, zero, suc, ◌+◌, ◌-◌, ◌≤◌, ◌<◌}
use native.Mathlib.Omega.{arith}
use lib.Dec.{leb, ltb}
use lib.ListN.{length, take, drop}
use borrow.Author.Tests.{lt-ltb}
use Rattle.std.specs.Prelude.{if◌then◌else◌, Option, None, Some}
use Rattle.octets.specs.Octets.{Octets, octets, same, same_text, any, is_empty}
use Rattle.octets.specs.Framing.{mark_of, size_of, body_of, after_record}
use Rattle.octets.specs.Refusing.{ok, refusal}
use Rattle.octets.proofs.FramingLaws.{body_size, body_octet}
use Rattle.octets.proofs.RefusingLaws.{refuse_if_ok}
use Rattle.octets.proofs.TextLaws.{same_true}
use Rattle.domain.specs.Domain.{without_dot, is_domain}
use Rattle.txt.specs.declared.Status.{Status}
use Rattle.txt.specs.Answers.{answer_of}
use Rattle.records.specs.declared.Phase.{Phase}
use Rattle.records.specs.Sheet.{Entry, author_entry, identifier_entry, answer_entry, status_of, bytes_allowed, answer_in, entry_in, entry_of, phase_after, answered_name, entries_from, entries, identifiers_in, message_in, answer_at}
use Rattle.records_fields.specs.code.Layout.{onto, listed, name_in, answers_name, found_body, status_or_error, status_in, bytes_in, identifier_at, identified, identifiers_on, message_on, Whole}
use Rattle.records_fields.proofs.LayoutLaws.{other_mark, answer_mark, found_first, found_next}
use Rattle.records.proofs.EntryLaws.{Step, step_ok}

-- ------------------------------------------------------------------ what an entry says of its record

pub record ReadsAnswer (mark body name : Octets) (status : Status) (bytes : Octets) : Type 0 where
  pub no_identifier : same mark (octets "ID") ≡ false
  pub marked : same mark (octets "AN") ≡ true
  pub its_name : name_in body ≡ name
  pub its_status : status_in body ≡ status
  pub its_bytes : bytes_in body ≡ bytes
  pub there : 0 < length body

pub record ReadsPair (mark body : Octets) (identifier : Bool) (a b : ℕ) (domain : Octets) : Type 0 where
  pub marked : same mark (octets "ID") ≡ identifier
  pub no_answer : same mark (octets "AN") ≡ false
  pub its_body : body ≡ a ∷ b ∷ domain

unfoldable pub Reads : (mark body : Octets) → Entry → Type 0
Reads mark body (author_entry e s d) = ReadsPair mark body false e s d
Reads mark body (identifier_entry k o d) = ReadsPair mark body true k o d
Reads mark body (answer_entry n s b) = ReadsAnswer mark body n s b

status_read : (a : ℕ) (rest : Octets) (s : Status) → status_of a ≡ Some s → status_in (a ∷ rest) ≡ s
unfolding status_in status_or_error
status_read a rest s e = rw e

answer_read : (o : Option Status) (n : ℕ) (rest : Octets) (r : Entry) → answer_in o n rest ≡ Some r → (s : Status) × ((o ≡ Some s) × (answer_entry (without_dot (take n rest)) s (drop n rest) ≡ r))
unfolding answer_in
answer_read None n rest r e = absurd (let z : ◌≡◌ {A = ℕ} 0 1 = cc in omega arith)
answer_read (Some s) n rest r e = go (leb n (length rest) && is_domain (without_dot (take n rest)) && bytes_allowed s (drop n rest)) e
  where
    go : (b : Bool) → (if b then Some (answer_entry (without_dot (take n rest)) s (drop n rest)) else None) ≡ Some r → (s' : Status) × ((Some s ≡ Some s') × (answer_entry (without_dot (take n rest)) s' (drop n rest) ≡ r))
    go true f = (s, (refl, cc))
    go false f = absurd (let z : ◌≡◌ {A = ℕ} 0 1 = cc in omega arith)

pub entry_reads : (mark body : Octets) (r : Entry) → entry_in mark body ≡ Some r → Reads mark body r
unfolding entry_in Reads same octets name_in bytes_in
entry_reads mark [] r e = absurd (let z : ◌≡◌ {A = ℕ} 0 1 = cc in omega arith)
entry_reads mark (a ∷ []) r e = absurd (let z : ◌≡◌ {A = ℕ} 0 1 = cc in omega arith)
entry_reads mark (a ∷ b ∷ rest) r e = go (same mark (octets "AU")) (same mark (octets "ID")) (same mark (octets "AN")) refl refl refl e
  where
    go : (au id an : Bool) → same mark (octets "AU") ≡ au → same mark (octets "ID") ≡ id → same mark (octets "AN") ≡ an
        → (if au then Some (author_entry a b rest) else if id then Some (identifier_entry a b rest) else if an then answer_in (status_of a) b rest else None) ≡ Some r → Reads mark (a ∷ b ∷ rest) r
    go true id an p q u f =
        let m : mark ≡ octets "AU" = same_true mark (octets "AU") p in
        let g : author_entry a b rest ≡ r = cc in
        subst (Reads mark (a ∷ b ∷ rest)) g (record { marked = rw m; no_answer = rw m; its_body = refl })
    go false true an p q u f =
        let m : mark ≡ octets "ID" = same_true mark (octets "ID") q in
        let g : identifier_entry a b rest ≡ r = cc in
        subst (Reads mark (a ∷ b ∷ rest)) g (record { marked = q; no_answer = rw m; its_body = refl })
    go false false true p q u f =
        let (s, (v, g)) = answer_read (status_of a) b rest r f in
        let two : 2 + b ≡ suc (suc b) = omega arith in
        subst (Reads mark (a ∷ b ∷ rest)) g (record { no_identifier = q; marked = u; its_name = refl; its_status = status_read a (b ∷ rest) s v; its_bytes = rw two; there = omega arith })
    go false false false p q u f = absurd (let z : ◌≡◌ {A = ℕ} 0 1 = cc in omega arith)

pub record_reads : (t : Octets) (r : Entry) → entry_of t ≡ Some r → Reads (mark_of t) (body_of t) r
unfolding entry_of
record_reads t r e = entry_reads (mark_of t) (body_of t) r e

-- ------------------------------------------------------------------ the entries of the first k records

listed_fits : (k : ℕ) (t : Octets) → length (listed k t) ≤ k
unfolding listed onto
listed_fits zero t = omega arith
listed_fits (suc k) t = go (entry_of t) (listed_fits k (after_record t))
  where
    go : (o : Option Entry) → length (listed k (after_record t)) ≤ k → length (onto o (listed k (after_record t))) ≤ suc k
    go None h = omega arith
    go (Some r) h = omega arith

-- where there are k of them, each is read
all_read : (k : ℕ) (t : Octets) → length (listed (suc k) t) ≡ suc k → (r : Entry) × ((entry_of t ≡ Some r) × ((listed (suc k) t ≡ r ∷ listed k (after_record t)) × (length (listed k (after_record t)) ≡ k)))
unfolding listed onto
all_read k t h = go (entry_of t) refl h
  where
    go : (o : Option Entry) → entry_of t ≡ o → length (onto o (listed k (after_record t))) ≡ suc k
        → (r : Entry) × ((entry_of t ≡ Some r) × ((onto (entry_of t) (listed k (after_record t)) ≡ r ∷ listed k (after_record t)) × (length (listed k (after_record t)) ≡ k)))
    go None e g = absurd (omega (arith, listed_fits k (after_record t)))
    go (Some r) e g = (r, (e, (rw e, omega arith)))

-- ------------------------------------------------------------------ the answer at a name

-- whether an entry answers a name
unfoldable answers : Octets → Entry → Bool
answers name (author_entry e s d) = false
answers name (identifier_entry k o d) = false
answers name (answer_entry n s b) = same_text n name

answers_read : (name t : Octets) (r : Entry) → Reads (mark_of t) (body_of t) r → answers_name name t ≡ answers name r
unfolding Reads answers
answers_read name t (author_entry e s d) q = other_mark name t q.no_answer
answers_read name t (identifier_entry k o d) q = other_mark name t q.no_answer
answers_read name t (answer_entry n s b) q = answer_mark name t q.marked ∙ ap (λ (m : Octets). same_text m name) q.its_name

-- what is read from the body that is found is what is read from the entries, if it is so at the entry that answers, and no other counts
module _ {A : Type 0} (name : Octets) (from_body : Octets → A) (from_entries : List Entry → A)
    (none : from_body [] ≡ from_entries [])
    (other : (r : Entry) (rs : List Entry) → answers name r ≡ false → from_entries rs ≡ from_entries (r ∷ rs))
    (first : (mark body : Octets) (r : Entry) (rs : List Entry) → Reads mark body r → answers name r ≡ true → from_body body ≡ from_entries (r ∷ rs)) where
  found : (k : ℕ) (t : Octets) → length (listed k t) ≡ k → from_body (found_body k name t) ≡ from_entries (listed k t)
  unfolding found_body listed
  found zero t h = none
  found (suc k) t h =
      let (r, (e, (f, g))) = all_read k t h in
      go r (record_reads t r e) f (found k (after_record t) g) (answers name r) refl
    where
      go : (r : Entry) → Reads (mark_of t) (body_of t) r → listed (suc k) t ≡ r ∷ listed k (after_record t) → from_body (found_body k name (after_record t)) ≡ from_entries (listed k (after_record t))
          → (b : Bool) → answers name r ≡ b → from_body (found_body (suc k) name t) ≡ from_entries (listed (suc k) t)
      go r q f ih true e = ap from_body (found_first name t k (answers_read name t r q ∙ e)) ∙ first (mark_of t) (body_of t) r (listed k (after_record t)) q e ∙ ap from_entries (sym f)
      go r q f ih false e = ap from_body (found_next name t k (answers_read name t r q ∙ e)) ∙ ih ∙ other r (listed k (after_record t)) e ∙ ap from_entries (sym f)

pub answer_law : (k : ℕ) (sheet name : Octets) → length (listed k sheet) ≡ k → answer_of (status_in (found_body k name sheet)) (bytes_in (found_body k name sheet)) ≡ answer_at (listed k sheet) name
unfolding Reads answers answer_at answer_of status_of status_or_error status_in bytes_in
answer_law k sheet name h = found name (λ b. answer_of (status_in b) (bytes_in b)) (λ rs. answer_at rs name) refl other first k sheet h
  where
    other : (r : Entry) (rs : List Entry) → answers name r ≡ false → answer_at rs name ≡ answer_at (r ∷ rs) name
    other (author_entry e s d) rs f = refl
    other (identifier_entry k o d) rs f = refl
    other (answer_entry n s b) rs f = rw f

    first : (mark body : Octets) (r : Entry) (rs : List Entry) → Reads mark body r → answers name r ≡ true → answer_of (status_in body) (bytes_in body) ≡ answer_at (r ∷ rs) name
    first mark body (author_entry e s d) rs q f = absurd (let z : ◌≡◌ {A = ℕ} 0 1 = cc in omega arith)
    first mark body (identifier_entry k o d) rs q f = absurd (let z : ◌≡◌ {A = ℕ} 0 1 = cc in omega arith)
    first mark body (answer_entry n s b) rs q f = rw f (ap₂ answer_of q.its_status q.its_bytes)

-- a body is found exactly where the name was answered-name
pub before_law : (k : ℕ) (sheet name : Octets) → length (listed k sheet) ≡ k → ltb 0 (length (found_body k name sheet)) ≡ any (λ m. same_text m name) (flatten (map answered_name (listed k sheet)))
unfolding Reads answers answered_name any flatten
before_law k sheet name h = found name (λ b. ltb 0 (length b)) (λ rs. any (λ m. same_text m name) (flatten (map answered_name rs))) refl other first k sheet h
  where
    other : (r : Entry) (rs : List Entry) → answers name r ≡ false → any (λ m. same_text m name) (flatten (map answered_name rs)) ≡ any (λ m. same_text m name) (flatten (map answered_name (r ∷ rs)))
    other (author_entry e s d) rs f = refl
    other (identifier_entry k o d) rs f = refl
    other (answer_entry n s b) rs f = rw f

    first : (mark body : Octets) (r : Entry) (rs : List Entry) → Reads mark body r → answers name r ≡ true → ltb 0 (length body) ≡ any (λ m. same_text m name) (flatten (map answered_name (r ∷ rs)))
    first mark body (author_entry e s d) rs q f = absurd (let z : ◌≡◌ {A = ℕ} 0 1 = cc in omega arith)
    first mark body (identifier_entry k o d) rs q f = absurd (let z : ◌≡◌ {A = ℕ} 0 1 = cc in omega arith)
    first mark body (answer_entry n s b) rs q f = rw f (lt-ltb 0 (length body) q.there)

-- ------------------------------------------------------------------ the message

-- after an answer no identifiers follow
no_identifiers : (n : ℕ) (over : Bool) (seen : List Octets) (place : ℕ) (t : Octets) (rs : List Entry) → entries_from n over Phase.Answers seen place t ≡ ok rs → identifiers_in rs ≡ []
unfolding entries_from identifiers_in phase_after
no_identifiers zero over seen place t rs e = let f : rs ≡ [] = cc in rw f
no_identifiers (suc n) over seen place [] rs e = let f : rs ≡ [] = cc in rw f
no_identifiers (suc n) over seen place (x ∷ xs) rs e =
    let s = step_ok n over Phase.Answers seen place (x ∷ xs) rs (omega arith) e in
    ap identifiers_in s.all
    ∙ go s.entry s.next s.enters.follows s.others s.goes_on
    (no_identifiers n over (seen ++ answered_name s.entry) (place + 4 + size_of (x ∷ xs)) (after_record (x ∷ xs)) s.others)
  where
    go : (r : Entry) (next : Phase) → phase_after Phase.Answers r ≡ Some next → (others : List Entry)
        → entries_from n over next (seen ++ answered_name r) (place + 4 + size_of (x ∷ xs)) (after_record (x ∷ xs)) ≡ ok others
        → (entries_from n over Phase.Answers (seen ++ answered_name r) (place + 4 + size_of (x ∷ xs)) (after_record (x ∷ xs)) ≡ ok others → identifiers_in others ≡ []) → identifiers_in (r ∷ others) ≡ []
    go (author_entry e s d) next p others g ih = absurd (let z : ◌≡◌ {A = ℕ} 0 1 = cc in omega arith)
    go (identifier_entry k o d) next p others g ih = absurd (let z : ◌≡◌ {A = ℕ} 0 1 = cc in omega arith)
    go (answer_entry m s b) next p others g ih = let f : next ≡ Phase.Answers = cc in ih (rw f at g)

-- a step over listed records
next_listed : (k n : ℕ) (over : Bool) (phase : Phase) (seen : List Octets) (place : ℕ) (t : Octets) → entries_from n over phase seen place t ≡ ok (listed (suc k) t) → length (listed (suc k) t) ≡ suc k
    → (m : ℕ) × ((s : Step m over phase seen place t (listed (suc k) t)) × ((s.others ≡ listed k (after_record t)) × (length (listed k (after_record t)) ≡ k)))
unfolding entries_from
next_listed k zero over phase seen place t e h = let f : listed (suc k) t ≡ [] = cc in absurd (omega (arith, ap length f))
next_listed k (suc n) over phase seen place [] e h = let f : listed (suc k) [] ≡ [] = cc in absurd (omega (arith, ap length f))
next_listed k (suc n) over phase seen place (x ∷ xs) e h =
    let s = step_ok n over phase seen place (x ∷ xs) (listed (suc k) (x ∷ xs)) (omega arith) e in
    let (r, (p, (q, g))) = all_read k (x ∷ xs) h in
    (n, (s, (cc (s.all, q), g)))

-- the identifiers of one record more
module _ (k : ℕ) (t : Octets) where
  identifiers_step : (r : Entry) (next : Phase) → Reads (mark_of t) (body_of t) r → phase_after Phase.Identifiers r ≡ Some next
      → (next ≡ Phase.Identifiers → identifiers_in (listed k (after_record t)) ≡ identified k (after_record t))
      → (next ≡ Phase.Answers → identifiers_in (listed k (after_record t)) ≡ [])
      → identifiers_in (r ∷ listed k (after_record t)) ≡ identified (suc k) t
  unfolding Reads phase_after identifiers_in identified identifier_at
  identifiers_step (author_entry e s d) next q p more none = absurd (let z : ◌≡◌ {A = ℕ} 0 1 = cc in omega arith)
  identifiers_step (identifier_entry a o d) next q p more none = let f : next ≡ Phase.Identifiers = cc in rw (q.marked, q.its_body, more f)
  identifiers_step (answer_entry n s b) next q p more none = let f : next ≡ Phase.Answers = cc in rw q.no_identifier (none f)

  -- and the message of which it is the first
  message_step : (r : Entry) (next : Phase) → Reads (mark_of t) (body_of t) r → 4 + size_of t ≤ length t → phase_after Phase.Author r ≡ Some next
      → (next ≡ Phase.Identifiers → identifiers_in (listed k (after_record t)) ≡ identified k (after_record t))
      → message_in (r ∷ listed k (after_record t)) ≡ message_on (suc k) t
  unfolding Reads phase_after message_in message_on identifiers_on
  message_step (identifier_entry a o d) next q h p more = absurd (let z : ◌≡◌ {A = ℕ} 0 1 = cc in omega arith)
  message_step (answer_entry n s b) next q h p more = absurd (let z : ◌≡◌ {A = ℕ} 0 1 = cc in omega arith)
  message_step (author_entry e s d) next q h p more =
      let f : next ≡ Phase.Identifiers = cc in
      let one : suc k - 1 ≡ k = omega arith in
      let size : size_of t ≡ suc (suc (length d)) = sym (body_size t h) ∙ ap length q.its_body in
      rw (← body_octet t 0 (omega arith), ← body_octet t 1 (omega arith), q.its_body, one, more f)

-- those of all that are listed
identifiers_law : (k n : ℕ) (over : Bool) (seen : List Octets) (place : ℕ) (t : Octets)
    → entries_from n over Phase.Identifiers seen place t ≡ ok (listed k t) → length (listed k t) ≡ k → identifiers_in (listed k t) ≡ identified k t
unfolding listed identifiers_in identified
identifiers_law zero n over seen place t e h = refl
identifiers_law (suc k) n over seen place t e h =
    let (m, (s, (f, g))) = next_listed k n over Phase.Identifiers seen place t e h in
    ap identifiers_in (s.all ∙ ap (λ (rs : List Entry). s.entry ∷ rs) f)
    ∙ identifiers_step k t s.entry s.next (record_reads t s.entry s.enters.reads) s.enters.follows
    (λ p. identifiers_law k m over (seen ++ answered_name s.entry) (place + 4 + size_of t) (after_record t) (rw (p, f) at s.goes_on) g)
    (λ p. no_identifiers m over (seen ++ answered_name s.entry) (place + 4 + size_of t) (after_record t) (listed k (after_record t)) (rw (p, f) at s.goes_on))

-- a sheet that is not wrong is read from its author on
from_author : (k : ℕ) (sheet : Octets) → Whole k sheet → (is_empty sheet ≡ false) × (entries_from (length sheet) (ltb 65536 (length sheet)) Phase.Author [] 0 sheet ≡ ok (listed k sheet))
unfolding entries
from_author k sheet w = refuse_if_ok (is_empty sheet) (refusal 8 0) (entries_from (length sheet) (ltb 65536 (length sheet)) Phase.Author [] 0 sheet) (listed k sheet) w.reads

-- and has a record
not_none : (sheet : Octets) → Whole zero sheet → ⊥
unfolding listed
not_none [] w = let z : ◌≡◌ {A = ℕ} 0 1 = cc (from_author zero [] w).0 in omega arith
not_none (x ∷ xs) w =
    let s = step_ok (length xs) (ltb 65536 (length (x ∷ xs))) Phase.Author [] 0 (x ∷ xs) [] (omega arith) (from_author zero (x ∷ xs) w).1 in
    let z : ◌≡◌ {A = ℕ} 0 1 = cc s.all in
    omega arith

pub message_law : (k : ℕ) (sheet : Octets) → Whole k sheet → message_in (listed k sheet) ≡ message_on k sheet
message_law zero sheet w = absurd (not_none sheet w)
message_law (suc k) sheet w =
    let over = ltb 65536 (length sheet) in
    let (m, (s, (f, g))) = next_listed k (length sheet) over Phase.Author [] 0 sheet (from_author (suc k) sheet w).1 w.all_listed in
    ap message_in (s.all ∙ ap (λ (rs : List Entry). s.entry ∷ rs) f)
    ∙ message_step k sheet s.entry s.next (record_reads sheet s.entry s.enters.reads) s.enters.fits s.enters.follows
    λ p. identifiers_law k m over (answered_name s.entry) (0 + 4 + size_of sheet) (after_record sheet) (rw (p, f) at s.goes_on) g
