-- Laws of what is told.
use mathlib.Core.Path.{◌≡◌, refl, sym, ap, ◌∙◌}
use mathlib.Core.List.{List, [], ◌∷◌}
use mathlib.Core.Bool.{Bool, true, false}
use Prim.Native.Nat.{ℕ, zero, suc}
use native.Mathlib.Omega.{arith}
use lib.Dec.{eqb}
use lib.ListN.{get_or}
use borrow.Author.Tests.{eq-eqb, ne_eqb, eqb-true, eqb-false}
use Rattle.std.specs.Prelude.{if◌then◌else◌}
use Rattle.octets.specs.Octets.{Octets}
use Rattle.octets.specs.Refusing.{OrRefused, ok, not_ok, refusal}
use Rattle.octets.specs.declared.Refusal.{Refusal}
use Rattle.policy.specs.declared.Policy.{Policy}
use Rattle.parsing.specs.Reads.{Reader, Fed, Left, open_at, stuck}
use Rattle.report_form.specs.ReportForm.{Said}
use Rattle.report_form.specs.code.ReportReading.{passed, applied, policy_read}
use Rattle.report_states.specs.Chain.{said_open}
use Rattle.report_states.specs.Standing.{disposition_numbered}
use Rattle.report_kept.specs.declared.ReaderState.{ReaderState}
use Rattle.report_kept.specs.code.View.{known_of, said_in}
use Rattle.report_taken.specs.code.Taking.{view, rows_by}
use Rattle.report_taken.proofs.TakeLaws.{view_open, view_stuck}
use Rattle.report_parts.specs.declared.Told.{Told}
use Rattle.report_parts.specs.code.Telling.{told_by}
use Rattle.report_parts.specs.Parts.{LentReader, row_in, told_more, told_row, told_refusal, told_left, told_of, told_end, row_given}

-- ------------------------------------------------------------------ what the code tells

module _ (gives : Bool) (s : ReaderState) where
  pub tells_row : gives ≡ true → record { event = 1; number = 0; place = 0; count = s.count } ≡ told_by gives s
  unfolding told_by
  tells_row e = rw e refl

  pub tells_nothing : gives ≡ false → s.refused ≡ 0 → told_more ≡ told_by gives s
  unfolding told_by
  tells_nothing e z = rw (e, eq-eqb s.refused 0 z) refl

  pub tells_refusal : gives ≡ false → (s.refused ≡ 0 → ⊥) → told_refusal (refusal s.refused s.taken) ≡ told_by gives s
  unfolding told_by
  tells_refusal e z = rw (e, ne_eqb s.refused 0 z) refl

-- ------------------------------------------------------------------ the row

policy_numbered : (n : ℕ) → get_or (Policy.None ∷ Policy.None ∷ Policy.Quarantine ∷ Policy.Reject ∷ []) n Policy.None ≡ policy_read (disposition_numbered n)
unfolding policy_read disposition_numbered
policy_numbered zero = refl
policy_numbered (suc zero) = refl
policy_numbered (suc (suc zero)) = refl
policy_numbered (suc (suc (suc zero))) = refl
policy_numbered (suc (suc (suc (suc n)))) = refl

pub as_said : (r : LentReader) → row_in r ≡ said_in r.state r.row
unfolding row_in said_in said_open known_of
as_said r =
    ap
    (λ p. record {
      source = (row_in r).source;
      count = (row_in r).count;
      disposition = p;
      dkim = (row_in r).dkim;
      spf = (row_in r).spf;
      author = (row_in r).author;
      identifiers = (row_in r).identifiers;
    })
    (policy_numbered r.state.disposition)

-- ------------------------------------------------------------------ a state's numbers are its reader's

module _ (r : LentReader) where
  pub told_view : (gives : Bool) → told_by gives r.state ≡ told_of (record { rows = rows_by gives r.state r.row; reader = view r.state r.row })
  unfolding told_by told_of told_left rows_by said_in said_open known_of
  told_view true = refl
  told_view false = go (eqb r.state.refused 0) refl
    where
      go : (b : Bool) → eqb r.state.refused 0 ≡ b → told_by false r.state ≡ told_left (view r.state r.row).left
      go true z =
          let e = eqb-true r.state.refused 0 z in
          sym (tells_nothing false r.state refl e) ∙ sym (ap (λ (v : Reader Said (Unit {0})). told_left v.left) (view_open r.state r.row e))
      go false z =
          let e = eqb-false r.state.refused 0 z in
          sym (tells_refusal false r.state refl e) ∙ sym (ap (λ (v : Reader Said (Unit {0})). told_left v.left) (view_stuck r.state r.row e))

-- the event is 1 where a row is handed out
pub event_row : (gives : Bool) (s : ReaderState) → eqb (told_by gives s).event 1 ≡ gives
unfolding told_by
event_row true s = refl
event_row false s = go (eqb s.refused 0)
  where
    go : (b : Bool) → eqb (if◌then◌else◌ {A = Told} b told_more (told_refusal (refusal s.refused s.taken))).event 1 ≡ false
    go true = refl
    go false = refl

pub rows_told : (gives : Bool) (t : Told) (r : LentReader) → t ≡ told_by gives r.state → row_given t r ≡ rows_by gives r.state r.row
unfolding row_given rows_by
rows_told gives t r e =
    ap (λ b. if b then row_in r ∷ [] else []) (ap (λ (u : Told). eqb u.event 1) e ∙ event_row gives r.state)
    ∙ ap (λ u. if gives then u ∷ [] else []) (as_said r)

-- ------------------------------------------------------------------ event 2 tells a refusal

pub record Refused (f : Fed Said (Unit {0})) (t : Told) : Type 0 where
  pub by : Refusal
  pub left : f.reader.left ≡ stuck by
  pub tells : t ≡ told_refusal by

left_refused : (l : Left Said (Unit {0})) (t : Told) → t ≡ told_left l → t.event ≡ 2 → (q : Refusal) × (l ≡ stuck q) × (t ≡ told_refusal q)
unfolding told_left
left_refused (open_at u) t e two = absurd (let no = ap (λ (v : Told). v.event) e in omega (arith, no, two))
left_refused (stuck q) t e two = (q, refl, e)

pub event_refused : (f : Fed Said (Unit {0})) (t : Told) → t ≡ told_of f → t.event ≡ 2 → Refused f t
unfolding told_of
event_refused f t e two = go f.rows e
  where
    go : (rs : List Said) → t ≡ elim rs [ [] ↦ told_left f.reader.left | s ∷ ss ↦ told_row s ] → Refused f t
    go [] q = let (by, left, tells) = left_refused f.reader.left t q two in record { by = by; left = left; tells = tells }
    go (s ∷ ss) q = absurd (let no = ap (λ (v : Told). v.event) q in omega (arith, no, two))

pub end_refused : (a : OrRefused (Unit {0})) (t : Told) → t ≡ told_end a → t.event ≡ 2 → (q : Refusal) × (a ≡ not_ok q) × (t ≡ told_refusal q)
unfolding told_end
end_refused (ok a) t e two = absurd (let no = ap (λ (v : Told). v.event) e in omega (arith, no, two))
end_refused (not_ok q) t e two = (q, refl, e)
