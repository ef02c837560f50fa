-- Laws of a sheet's records, one after another.
use Rattle.std.specs.Prelude.{Some}
use mathlib.Core.Path.{◌≡◌, refl, ap, sym}
use mathlib.Core.List.{List, [], ◌∷◌, ◌++◌}
use mathlib.Core.Bool.{Bool, false, ◌&&◌, not}
use Prim.Native.Nat.{ℕ, zero, suc, ◌+◌, ◌≤◌, ◌<◌}
use native.Mathlib.Omega.{arith}
use lib.Dec.{ltb}
use lib.ListN.{length}
use borrow.Author.Tests.{not-false}
use Rattle.octets.specs.Octets.{Octets}
use Rattle.octets.specs.Framing.{size_of, after_record, is_whole}
use Rattle.octets.specs.Refusing.{◌>>=◌, OrRefused, ok, refusal, refuse_if}
use Rattle.octets.proofs.FramingLaws.{whole_fits, after_shorter}
use Rattle.octets.proofs.RefusingLaws.{bind_same, bind_ok, or_refuse_ok, refuse_if_ok, not_refused}
use Rattle.records.specs.declared.Phase.{Phase}
use Rattle.records.specs.Sheet.{Entry, entry_of, phase_after, answered_name, answered_before, ends_within, entry_at, entries_from}

-- ------------------------------------------------------------------ one record

-- what is known of a record that is not refused
pub record Entered (over : Bool) (phase : Phase) (seen : List Octets) (place : ℕ) (t : Octets) (r : Entry) (next : Phase) : Type 0 where
  pub within : (over && ltb 65536 (place + 4 + size_of t)) ≡ false
  pub fits : 4 + size_of t ≤ length t
  pub reads : entry_of t ≡ Some r
  pub follows : phase_after phase r ≡ Some next
  pub unseen : answered_before seen r ≡ false

module _ (over : Bool) (phase : Phase) (seen : List Octets) (place : ℕ) (t : Octets) where
  ends : (u : Unit {0}) → ends_within over place t ≡ ok u → ((over && ltb 65536 (place + 4 + size_of t)) ≡ false) × (4 + size_of t ≤ length t)
  unfolding ends_within
  ends u e =
      let (w, f) = refuse_if_ok (over && ltb 65536 (place + 4 + size_of t)) (refusal 8 65536) (refuse_if (not (is_whole t)) (refusal 8 place)) u e in
      (w, whole_fits t (not-false (is_whole t) (not_refused (not (is_whole t)) (refusal 8 place) u f)))

  pub entered : (e : Entry × Phase) → entry_at over phase seen place t ≡ ok e → Entered over phase seen place t e.0 e.1
  unfolding entry_at
  entered e h =
      let (u, (w, h₁)) = bind_ok (ends_within over place t) _ e h in
      let (r, (p, h₂)) = or_refuse_ok (entry_of t) (refusal 8 place) _ e h₁ in
      let (next, (q, h₃)) = or_refuse_ok (phase_after phase r) (refusal 8 place) _ e h₂ in
      let (v, h₄) = refuse_if_ok (answered_before seen r) (refusal 8 place) (ok (r, next)) e h₃ in
      let z : (r, next) ≡ e = cc in
      rw (← z) (record { within = (ends u w).0; fits = (ends u w).1; reads = p; follows = q; unseen = v })

-- ------------------------------------------------------------------ all records

-- what one step says, where no record is refused
pub record Step (n : ℕ) (over : Bool) (phase : Phase) (seen : List Octets) (place : ℕ) (t : Octets) (rs : List Entry) : Type 0 where
  pub entry : Entry
  pub next : Phase
  pub others : List Entry
  pub enters : Entered over phase seen place t entry next
  pub goes_on : entries_from n over next (seen ++ answered_name entry) (place + 4 + size_of t) (after_record t) ≡ ok others
  pub all : rs ≡ entry ∷ others

pub step_ok : (n : ℕ) (over : Bool) (phase : Phase) (seen : List Octets) (place : ℕ) (t : Octets) (rs : List Entry)
    → 0 < length t → entries_from (suc n) over phase seen place t ≡ ok rs → Step n over phase seen place t rs
unfolding entries_from
step_ok n over phase seen place [] rs some h = absurd (omega arith)
step_ok n over phase seen place (x ∷ xs) rs some h =
    let (e, (p, h₁)) = bind_ok (entry_at over phase seen place (x ∷ xs)) _ rs h in
    let (others, (q, h₂)) = bind_ok (entries_from n over e.1 (seen ++ answered_name e.0) (place + 4 + size_of (x ∷ xs)) (after_record (x ∷ xs))) _ rs h₁ in
    record { entry = e.0; next = e.1; others = others; enters = entered over phase seen place (x ∷ xs) e p; goes_on = q; all = cc }

-- of no octets none, whatever the bound
pub none_left : (n : ℕ) (over : Bool) (phase : Phase) (seen : List Octets) (place : ℕ) (t : Octets) → length t ≡ 0 → entries_from n over phase seen place t ≡ ok []
unfolding entries_from
none_left zero over phase seen place t e = refl
none_left (suc n) over phase seen place [] e = refl
none_left (suc n) over phase seen place (x ∷ t) e = absurd (omega arith)

-- any bound at least the length gives the same
pub enough : (n m : ℕ) (over : Bool) (phase : Phase) (seen : List Octets) (place : ℕ) (t : Octets) → length t ≤ n → length t ≤ m
    → entries_from n over phase seen place t ≡ entries_from m over phase seen place t
unfolding entries_from
enough zero m over phase seen place t h k = sym (none_left m over phase seen place t (omega arith))
enough (suc n) zero over phase seen place t h k = none_left (suc n) over phase seen place t (omega arith)
enough (suc n) (suc m) over phase seen place [] h k = refl
enough (suc n) (suc m) over phase seen place (x ∷ xs) h k =
    bind_same (entry_at over phase seen place (x ∷ xs)) _ _ λ e.
    let more = seen ++ answered_name e.0 in
    let at = place + 4 + size_of (x ∷ xs) in
    let shorter = after_shorter x xs in
    ap (λ (u : OrRefused (List Entry)). u >>= λ rs. ok (e.0 ∷ rs)) (enough n m over e.1 more at (after_record (x ∷ xs)) (omega arith) (omega arith))
