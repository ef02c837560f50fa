-- What is answered and left, test by test.
use Rattle.std.specs.Prelude.{Result, Ok, Err}
use mathlib.Core.Path.{◌≡◌, sym, ◌∙◌}
use mathlib.Core.List.{[], ◌∷◌, flatten}
use mathlib.Core.Bool.{Bool, true, false, ◌&&◌, not}
use Prim.Native.Nat.{ℕ, ◌+◌, ◌≤◌, ◌<◌}
use Prim.Native.String.{String}
use native.Mathlib.Omega.{arith}
use native.Mathlib.Nat.{zero-add}
use lib.Dec.{leb, leb→le}
use lib.ListN.{length, length-append}
use borrow.Author.Tests.{not-true, not-false}
use Rattle.octets.specs.Octets.{Octets, octets, all, one_of, same, between, split, trim}
use Rattle.octets.specs.Refusing.{◌>>=◌, refusal, refuse_if}
use Rattle.octets.specs.Lent.{Writes, WritesIf, written_if, left_if}
use Rattle.octets.proofs.TextLaws.{and_right, true→T}
use Rattle.octets.proofs.LentLaws.{refuses}
use Rattle.octets_append.proofs.AppendLaws.{appends_whole}
use Rattle.policy.specs.Reports.{valid_entry}
use Rattle.policy.specs.declared.Policy.{Policy}
use Rattle.policy.specs.declared.Setting.{Setting}
use Rattle.policy.specs.declared.Mode.{Mode}
use Rattle.policy.specs.declared.Psd.{Psd}
use Rattle.policy.specs.declared.Settings.{Settings}
use Rattle.force.specs.InForce.{usable}
use Rattle.publishing.specs.Publishing.{setting_value, mode_value, psd_value, testing_value, tag_values, tag_text, record_octets, good_entries, good_rua, written_record}
use Rattle.octets_pieces.specs.code.Putting.{Puts}
use Rattle.octets.specs.declared.Refusal.{Refusal}

-- ------------------------------------------------------------------ what can be written is short

rua_short : (rua : Octets) → good_rua rua ≡ true → length rua ≤ 4096
unfolding good_rua good_entries
rua_short [] g = omega arith
rua_short (x ∷ rua) g =
    let s : Octets = x ∷ rua in
    leb→le (length s) 4096 (and_right (all (λ e. valid_entry (trim e)) (split 44 s) && not (one_of s 59) && all (between 32 126) s && same (trim s) s) (leb (length s) 4096) (true→T g))

setting_short : (s : Setting) → length (setting_value s) ≤ 10
unfolding setting_value octets
setting_short Setting.Absent = omega arith
setting_short Setting.Invalid = omega arith
setting_short (Setting.Set Policy.None) = omega arith
setting_short (Setting.Set Policy.Quarantine) = omega arith
setting_short (Setting.Set Policy.Reject) = omega arith

mode_short : (m : Mode) → length (mode_value m) ≤ 1
unfolding mode_value octets
mode_short Mode.Relaxed = omega arith
mode_short Mode.Strict = omega arith

psd_short : (p : Psd) → length (psd_value p) ≤ 1
unfolding psd_value octets
psd_short Psd.Unset = omega arith
psd_short Psd.Yes = omega arith
psd_short Psd.No = omega arith

testing_short : (t : Bool) → length (testing_value t) ≤ 1
unfolding testing_value octets
testing_short false = omega arith
testing_short true = omega arith

tag_length : (name : String) (value : Octets) → length (tag_text (name, value)) ≤ 3 + length (octets name) + length value
unfolding tag_text octets
tag_length name [] = omega arith
tag_length name (x ∷ value) = rw (length-append, length-append, length-append) (omega arith)

record_short : (s : Settings) (rua : Octets) → length rua ≤ 4096 → length (record_octets s rua) ≤ 5000
unfolding record_octets tag_values flatten octets
record_short s rua h =
    rw (length-append, length-append, length-append, length-append, length-append, length-append, length-append, length-append, length-append)
    (omega (
      arith,
      h,
      setting_short s.p,
      setting_short s.sp,
      setting_short s.np,
      mode_short s.adkim,
      mode_short s.aspf,
      psd_short s.psd,
      testing_short s.t,
      tag_length "p" (setting_value s.p),
      tag_length "sp" (setting_value s.sp),
      tag_length "np" (setting_value s.np),
      tag_length "adkim" (mode_value s.adkim),
      tag_length "aspf" (mode_value s.aspf),
      tag_length "psd" (psd_value s.psd),
      tag_length "t" (testing_value s.t),
      tag_length "rua" rua,
    ))

-- ------------------------------------------------------------------ the promise, by the tests that the code makes

module _ (s : Settings) (rua before : Octets) {yes good : Bool} (u : yes ≡ usable s) (g : good ≡ good_rua rua) where
  pub not_usable : not yes ≡ true → {answer : Result ℕ Refusal} → answer ≡ Err (refusal 15 0) → WritesIf (written_record s rua) before answer before
  unfolding written_record refuse_if ◌>>=◌ written_if left_if
  not_usable h e = let no = sym u ∙ not-true yes h in record { answers = e ∙ rw no; leaves = rw no }

  module _ (h : not yes ≡ false) where
    is_usable : usable s ≡ true
    is_usable = sym u ∙ not-false yes h

    pub not_allowed : not good ≡ true → {answer : Result ℕ Refusal} → answer ≡ Err (refusal 16 0) → WritesIf (written_record s rua) before answer before
    unfolding written_record refuse_if ◌>>=◌ written_if left_if
    not_allowed k e = let no = sym g ∙ not-true good k in record { answers = e ∙ rw (is_usable, no); leaves = rw (is_usable, no) }

    -- of what can be written the length is counted first
    module _ (k : not good ≡ false) {needed : ℕ} {none left : Octets} (q : Puts (record_octets s rua) 0 none needed left) where
      is_good : good_rua rua ≡ true
      is_good = sym g ∙ not-false good k

      counted : needed ≡ length (record_octets s rua)
      counted = q.counts (omega (arith, record_short s rua (rua_short rua is_good))) ∙ zero-add (length (record_octets s rua))

      by : {answer : Result ℕ Refusal} {after : Octets} → Writes (record_octets s rua) before answer after → WritesIf (written_record s rua) before answer after
      unfolding written_record refuse_if ◌>>=◌ written_if left_if
      by w = record { answers = w.answers ∙ rw (is_usable, is_good); leaves = w.leaves ∙ rw (is_usable, is_good) }

      pub too_long : length before < needed → {answer : Result ℕ Refusal} → answer ≡ Err (refusal 10 needed) → WritesIf (written_record s rua) before answer before
      too_long l {answer} e = by (refuses (record_octets s rua) before (omega (arith, l, counted)) needed counted answer e)

      pub wrote : needed ≤ length before → {next : ℕ} {after : Octets} → Puts (record_octets s rua) 0 before next after → WritesIf (written_record s rua) before (Ok next) after
      wrote l p = let room : length (record_octets s rua) ≤ length before = omega (arith, l, counted) in by (appends_whole (record_octets s rua) before room (p.appends (omega (arith, room))))
