-- The claims about a sheet's records hold.
use mathlib.Core.Path.{◌≡◌, refl, sym, ◌∙◌}
use mathlib.Core.List.{List, [], ◌∷◌, ◌++◌}
use mathlib.Core.Bool.{Bool, true, false, ◌&&◌}
use Prim.Native.Nat.{ℕ, zero, suc, ◌+◌, ◌≤◌, ◌<◌}
use native.Mathlib.Omega.{arith}
use native.Mathlib.Decide.{dec_le}
use lib.Dec.{leb, ltb}
use lib.ListN.{length, take, drop}
use borrow.Author.Tests.{lt-ltb, ltb-false}
use Rattle.std.specs.Prelude.{if◌then◌else◌, Option, None, Some}
use Rattle.octets.specs.Octets.{Octets, octets, any, same, same_text, is_empty}
use Rattle.octets.specs.Framing.{mark_of, size_of, body_of, after_record}
use Rattle.octets.specs.Refusing.{ok, refusal}
use Rattle.octets.proofs.ListLaws.{any_append, neither}
use Rattle.octets.proofs.FramingLaws.{after_length}
use Rattle.octets.proofs.RefusingLaws.{refuse_if_ok}
use Rattle.domain.specs.Domain.{without_dot, is_domain}
use Rattle.domain.proofs.DotLaws.{taken}
use Rattle.txt.specs.declared.Status.{Status}
use Rattle.records.specs.declared.Phase.{Phase}
use Rattle.records.specs.Sheet.{Entry, author_entry, identifier_entry, answer_entry, status_of, bytes_allowed, answer_in, entry_in, entry_of, answered_name, answered_before, entries_from, entries}
use Rattle.records.specs.Claims.{SheetClaims}
use Rattle.records.proofs.EntryLaws.{step_ok}

-- a sheet that is read is read from its author on
from_author : (sheet : Octets) (rs : List Entry) → entries sheet ≡ ok rs → entries_from (length sheet) (ltb 65536 (length sheet)) Phase.Author [] 0 sheet ≡ ok rs
unfolding entries
from_author sheet rs e = (refuse_if_ok (is_empty sheet) (refusal 8 0) (entries_from (length sheet) (ltb 65536 (length sheet)) Phase.Author [] 0 sheet) rs e).1

-- ------------------------------------------------------------------ the limit

never : {rs : List Entry} (n : ℕ) (phase : Phase) (seen : List Octets) (place : ℕ) (t : Octets) → length t ≤ n → place ≤ 65536 → 65536 < place + length t
    → entries_from n true phase seen place t ≡ ok rs → ⊥
never zero phase seen place t h p q e = omega arith
never (suc n) phase seen place [] h p q e = omega arith
never {rs = rs} (suc n) phase seen place (x ∷ xs) h p q e =
    let s = step_ok n true phase seen place (x ∷ xs) rs (omega arith) e in
    let w = ltb-false 65536 (place + 4 + size_of (x ∷ xs)) s.enters.within in
    let f = s.enters.fits in
    let l = after_length (x ∷ xs) in
    never {rs = s.others} n s.next (seen ++ answered_name s.entry) (place + 4 + size_of (x ∷ xs)) (after_record (x ∷ xs)) (omega arith) (omega arith) (omega arith) s.goes_on

within_limit : (sheet : Octets) (rs : List Entry) → entries sheet ≡ ok rs → length sheet ≤ 65536
within_limit sheet rs e = go (dec_le (length sheet) 65536)
  where
    go : Dec (length sheet ≤ 65536) → length sheet ≤ 65536
    go (yes h) = h
    go (no h) =
        let over : ltb 65536 (length sheet) ≡ true = lt-ltb 65536 (length sheet) (omega arith) in
        absurd (never {rs = rs} (length sheet) Phase.Author [] 0 sheet (omega arith) (omega arith) (omega arith) (rw over at (from_author sheet rs e)))

-- ------------------------------------------------------------------ names answered

unfoldable among : Octets → List Octets → Bool
among n seen = any (λ m. same_text m n) seen

among_append : (n : Octets) (a b : List Octets) → among n (a ++ b) ≡ false → (among n a ≡ false) × (among n b ≡ false)
unfolding among
among_append n a b e = neither (any (λ m. same_text m n) a) (any (λ m. same_text m n) b) (sym (any_append (λ m. same_text m n) a b) ∙ e)

-- of one answer
module _ (m n : Octets) (s : Status) (z : Octets) where
  named : among n (answered_name (answer_entry m s z)) ≡ false → same_text m n ≡ false
  unfolding among answered_name any
  named e = (neither (same_text m n) false e).0

unanswered : (n : Octets) (u : Status) (y : Octets) (seen : List Octets) → answered_before seen (answer_entry n u y) ≡ false → among n seen ≡ false
unfolding among answered_before answered_name any
unanswered n u y seen e = (neither (any (λ m. same_text m n) seen) false e).0

-- a name that is answered later was not answered before
not_seen : (n : Octets) (u : Status) (y : Octets) (c b : List Entry) (k : ℕ) (over : Bool) (phase : Phase) (seen : List Octets) (place : ℕ) (t : Octets)
    → entries_from k over phase seen place t ≡ ok (b ++ answer_entry n u y ∷ c) → among n seen ≡ false
unfolding entries_from
not_seen n u y c [] zero over phase seen place t e = absurd (let z : ◌≡◌ {A = ℕ} 0 1 = cc in omega arith)
not_seen n u y c (r ∷ b) zero over phase seen place t e = absurd (let z : ◌≡◌ {A = ℕ} 0 1 = cc in omega arith)
not_seen n u y c [] (suc k) over phase seen place [] e = absurd (let z : ◌≡◌ {A = ℕ} 0 1 = cc in omega arith)
not_seen n u y c (r ∷ b) (suc k) over phase seen place [] e = absurd (let z : ◌≡◌ {A = ℕ} 0 1 = cc in omega arith)
not_seen n u y c [] (suc k) over phase seen place (x ∷ xs) e =
    let s = step_ok k over phase seen place (x ∷ xs) (answer_entry n u y ∷ c) (omega arith) e in
    let f : s.entry ≡ answer_entry n u y = cc s.all in
    unanswered n u y seen (rw f at s.enters.unseen)
not_seen n u y c (r ∷ b) (suc k) over phase seen place (x ∷ xs) e =
    let s = step_ok k over phase seen place (x ∷ xs) (r ∷ (b ++ answer_entry n u y ∷ c)) (omega arith) e in
    let f : s.others ≡ b ++ answer_entry n u y ∷ c = cc s.all in
    (among_append n seen (answered_name s.entry) (not_seen n u y c b k over s.next (seen ++ answered_name s.entry) (place + 4 + size_of (x ∷ xs)) (after_record (x ∷ xs)) (rw f at s.goes_on))).0

-- so of two answers the names differ
apart : (m n : Octets) (s u : Status) (z y : Octets) (c b a : List Entry) (k : ℕ) (over : Bool) (phase : Phase) (seen : List Octets) (place : ℕ) (t : Octets)
    → entries_from k over phase seen place t ≡ ok (a ++ answer_entry m s z ∷ (b ++ answer_entry n u y ∷ c)) → same_text m n ≡ false
unfolding entries_from
apart m n s u z y c b [] zero over phase seen place t e = absurd (let z : ◌≡◌ {A = ℕ} 0 1 = cc in omega arith)
apart m n s u z y c b (r ∷ a) zero over phase seen place t e = absurd (let z : ◌≡◌ {A = ℕ} 0 1 = cc in omega arith)
apart m n s u z y c b [] (suc k) over phase seen place [] e = absurd (let z : ◌≡◌ {A = ℕ} 0 1 = cc in omega arith)
apart m n s u z y c b (r ∷ a) (suc k) over phase seen place [] e = absurd (let z : ◌≡◌ {A = ℕ} 0 1 = cc in omega arith)
apart m n s u z y c b [] (suc k) over phase seen place (x ∷ xs) e =
    let w = step_ok k over phase seen place (x ∷ xs) (answer_entry m s z ∷ (b ++ answer_entry n u y ∷ c)) (omega arith) e in
    let f : w.others ≡ b ++ answer_entry n u y ∷ c = cc w.all in
    let g : w.entry ≡ answer_entry m s z = cc w.all in
    let h = not_seen n u y c b k over w.next (seen ++ answered_name w.entry) (place + 4 + size_of (x ∷ xs)) (after_record (x ∷ xs)) (rw f at w.goes_on) in
    named m n s z (rw g at (among_append n seen (answered_name w.entry) h).1)
apart m n s u z y c b (r ∷ a) (suc k) over phase seen place (x ∷ xs) e =
    let rest = a ++ answer_entry m s z ∷ (b ++ answer_entry n u y ∷ c) in
    let w = step_ok k over phase seen place (x ∷ xs) (r ∷ rest) (omega arith) e in
    let f : w.others ≡ rest = cc w.all in
    apart m n s u z y c b a k over w.next (seen ++ answered_name w.entry) (place + 4 + size_of (x ∷ xs)) (after_record (x ∷ xs)) (rw f at w.goes_on)

-- ------------------------------------------------------------------ a final dot

-- an answer's name keeps the rule, as it is kept
unfoldable Ruled : Option Entry → Type 0
Ruled None = Unit
Ruled (Some (author_entry e s d)) = Unit
Ruled (Some (identifier_entry k o d)) = Unit
Ruled (Some (answer_entry n s x)) = is_domain n ≡ true

ruled_if : (a b c : Bool) (n : Octets) (s : Status) (x : Octets) → (b ≡ true → is_domain n ≡ true) → Ruled (if a && b && c then Some (answer_entry n s x) else None)
unfolding Ruled
ruled_if true true true n s x h = h refl
ruled_if true true false n s x h = tt
ruled_if true false c n s x h = tt
ruled_if false b c n s x h = tt

answer_ruled : (o : Option Status) (n : ℕ) (rest : Octets) → Ruled (answer_in o n rest)
unfolding answer_in Ruled
answer_ruled None n rest = tt
answer_ruled (Some s) n rest = ruled_if (leb n (length rest)) (is_domain (without_dot (take n rest))) (bytes_allowed s (drop n rest)) (without_dot (take n rest)) s (drop n rest) λ e. e

by_mark : (a b c : Bool) (x y z : Option Entry) → Ruled x → Ruled y → Ruled z → Ruled (if a then x else if b then y else if c then z else None)
unfolding Ruled
by_mark true b c x y z p q r = p
by_mark false true c x y z p q r = q
by_mark false false true x y z p q r = r
by_mark false false false x y z p q r = tt

entry_ruled : (mark body : Octets) → Ruled (entry_in mark body)
unfolding entry_in Ruled
entry_ruled mark [] = tt
entry_ruled mark (a ∷ []) = tt
entry_ruled mark (a ∷ b ∷ rest) = by_mark (same mark (octets "AU")) (same mark (octets "ID")) (same mark (octets "AN")) _ _ _ tt tt (answer_ruled (status_of a) b rest)

named_undotted : (t : Octets) (n : Octets) (s : Status) (x : Octets) → entry_of t ≡ Some (answer_entry n s x) → without_dot n ≡ n
unfolding entry_of Ruled
named_undotted t n s x e = (taken n).kept (rw e at (entry_ruled (mark_of t) (body_of t)))

undotted : (n : Octets) (s : Status) (x : Octets) (b a : List Entry) (k : ℕ) (over : Bool) (phase : Phase) (seen : List Octets) (place : ℕ) (t : Octets)
    → entries_from k over phase seen place t ≡ ok (a ++ answer_entry n s x ∷ b) → without_dot n ≡ n
unfolding entries_from
undotted n s x b [] zero over phase seen place t e = absurd (let z : ◌≡◌ {A = ℕ} 0 1 = cc in omega arith)
undotted n s x b (r ∷ a) zero over phase seen place t e = absurd (let z : ◌≡◌ {A = ℕ} 0 1 = cc in omega arith)
undotted n s x b [] (suc k) over phase seen place [] e = absurd (let z : ◌≡◌ {A = ℕ} 0 1 = cc in omega arith)
undotted n s x b (r ∷ a) (suc k) over phase seen place [] e = absurd (let z : ◌≡◌ {A = ℕ} 0 1 = cc in omega arith)
undotted n s x b [] (suc k) over phase seen place (y ∷ ys) e =
    let w = step_ok k over phase seen place (y ∷ ys) (answer_entry n s x ∷ b) (omega arith) e in
    let f : w.entry ≡ answer_entry n s x = cc w.all in
    named_undotted (y ∷ ys) n s x (rw f at w.enters.reads)
undotted n s x b (r ∷ a) (suc k) over phase seen place (y ∷ ys) e =
    let w = step_ok k over phase seen place (y ∷ ys) (r ∷ (a ++ answer_entry n s x ∷ b)) (omega arith) e in
    let f : w.others ≡ a ++ answer_entry n s x ∷ b = cc w.all in
    undotted n s x b a k over w.next (seen ++ answered_name w.entry) (place + 4 + size_of (y ∷ ys)) (after_record (y ∷ ys)) (rw f at w.goes_on)

pub sheet_claims : SheetClaims
sheet_claims = record {
  limit = within_limit;
  twice = λ sheet a b c m n s u x y e.
      apart m n s u x y c b a (length sheet) (ltb 65536 (length sheet)) Phase.Author [] 0 sheet (from_author sheet (a ++ answer_entry m s x ∷ (b ++ answer_entry n u y ∷ c)) e);
  no_dot = λ sheet a b n s x e. undotted n s x b a (length sheet) (ltb 65536 (length sheet)) Phase.Author [] 0 sheet (from_author sheet (a ++ answer_entry n s x ∷ b) e);
}
