-- Laws of the whole call: what is refused, and what is written.
use Rattle.std.specs.Prelude.{Result, Ok, Err}
use mathlib.Core.Path.{◌≡◌, refl, ap, ◌∙◌}
use Prim.Native.Nat.{ℕ, zero, suc, ◌-◌, ◌^◌, ◌≤◌, ◌<◌, min}
use native.Mathlib.Omega.{arith}
use native.Mathlib.Nat.{zero-add}
use lib.ListN.{length, take, drop}
use lib.Seq.{take_all}
use Rattle.octets.specs.Octets.{Octets, part_of}
use Rattle.octets.specs.Lent.{Writes, WritesIf, written_if, left_if}
use Rattle.octets.specs.Refusing.{◌>>=◌, OrRefused, ok, refusal, or_refuse}
use Rattle.octets.proofs.TextLaws.{flag_unset, flag_set}
use Rattle.octets.proofs.LentLaws.{refuses}
use Rattle.octets_append.proofs.AppendLaws.{appends_whole}
use Rattle.octets_pieces.specs.code.Putting.{Puts}
use Rattle.policy.specs.declared.Settings.{Settings}
use Rattle.rows.specs.Lists.{Lists}
use Rattle.rows.specs.Rows.{on_list}
use Rattle.rows_day.specs.declared.DayList.{DayList}
use Rattle.rows_day.specs.Day.{domain_in, listing}
use Rattle.report.specs.Report.{Reporter, report}
use Rattle.report.proofs.SizeLaws.{report_size}
use Rattle.rows_gather.specs.code.Gathered.{rows_of}
use Rattle.report_check.specs.code.Faults.{first_fault}
use Rattle.report_check.proofs.FaultLaws.{given, written_lines, report_is}
use Rattle.report_write.specs.code.Records.{AllBrief, text_of, WritesBrief}
use Rattle.report_write.proofs.WritingLaws.{rows_brief}
use Rattle.octets.specs.declared.Refusal.{Refusal}

rows_length : (n : ℕ) (t : Octets) → length (rows_of n t) ≡ n
unfolding rows_of
rows_length zero t = refl
rows_length (suc n) t = ap suc (rows_length n (drop 32 t))

put_within : (text before : Octets) {next : ℕ} {after : Octets} → length text ≤ length before → Puts text 0 before next after → Writes text before (Ok next) after
put_within text before room p = appends_whole text before room (p.appends (omega (arith, room)))

-- a text is counted first, or there is room for the longest; A and S are known after a round
module _ {A S : Type 0} {text : Octets} (longest : S → length text ≤ 2592802) where
  counted : {none left : Octets} {needed : ℕ} → Puts text 0 none needed left × A × S → needed ≡ length text
  counted q = q.0.counts (omega (arith, longest q.2)) ∙ zero-add (length text)

  pub too_long : {none left before : Octets} {needed : ℕ} {answer : Result ℕ Refusal} → Puts text 0 none needed left × A × S → length before < needed → answer ≡ Err (refusal 10 needed) → Writes text before answer before
  too_long q h e = refuses text _ (omega (arith, counted q, h)) _ (counted q) _ e

  pub counted_fits : {none left before after : Octets} {needed next : ℕ} → Puts text 0 none needed left × A × S → needed ≤ length before → Puts text 0 before next after × A × S → Writes text before (Ok next) after
  counted_fits q h p = put_within text _ (omega (arith, counted q, h)) p.0

  pub longest_fits : {before after : Octets} {next : ℕ} → 2592802 ≤ length before → Puts text 0 before next after × A × S → Writes text before (Ok next) after
  longest_fits h p = put_within text _ (omega (arith, longest p.2, h)) p.0

module _ (list : DayList) (count : ℕ) (octs : Octets) (l : Lists) (by : Reporter) (s : Settings) (before : Octets) where
  abbrev the_report : OrRefused Octets
  the_report = report (listing list (rows_of (min count 256) octs)) l by s

  pub never : list.cleared ≡ 0 → WritesIf the_report before (Err (refusal 27 0)) before
  unfolding report listing domain_in ◌>>=◌ or_refuse written_if left_if
  never h = let e = flag_unset list.cleared h in record { answers = rw e; leaves = rw e }

  module _ (h : list.cleared ≡ 0 → ⊥) {domain : Octets} (p : domain ≡ part_of list.domain 0 list.length) {most : ℕ} (m : most ≡ min count 256)
      {fault : Result (Unit {0}) Refusal} (f : fault ≡ first_fault domain l (rows_of most octs) by) where
    domain_is : domain ≡ take list.length list.domain
    unfolding part_of
    domain_is = let all : list.length - 0 ≡ list.length = omega arith in p ∙ rw all

    all_rows : on_list (rows_of most octs) ≡ rows_of most octs
    unfolding on_list
    all_rows = take_all 256 (rows_of most octs) (omega (arith, rows_length most octs, m))

    is_report : the_report ≡ given domain (rows_of most octs) l by s fault
    unfolding listing domain_in
    is_report = rw (flag_set list.cleared h, ← m, ← domain_is, f) (rw all_rows at (report_is domain (rows_of most octs) l by s))

    pub faulty : (r : Refusal) → fault ≡ Err r → WritesIf the_report before (Err r) before
    unfolding written_if left_if given
    faulty r z = let e = is_report ∙ ap (given domain (rows_of most octs) l by s) z in record { answers = rw e; leaves = rw e }

    module _ (done : Unit {0}) (z : fault ≡ Ok done) (b : by.begin < 2 ^ 64) (n : by.end < 2 ^ 64) where
      text : Octets
      text = text_of domain s l by (rows_of most octs)

      is_text : the_report ≡ ok text
      unfolding given written_lines text
      is_text =
          is_report
          ∙ ap (given domain (rows_of most octs) l by s) z
          ∙ ap (λ rs. ok (text_of domain s l by rs)) all_rows

      longest : AllBrief (rows_of most octs) → length text ≤ 2592802
      unfolding text listing
      longest a =
          let size = rw (← m) at (report_size (listing list (rows_of (min count 256) octs)) l by s b n text is_text) in
          omega (arith, rw all_rows at size, rows_brief (rows_of most octs) a, rows_length most octs, m)

      pub report_written : {answer : Result ℕ Refusal} {after : Octets} → WritesBrief (rows_of most octs) (text_of domain s l by (rows_of most octs)) before answer after → WritesIf the_report before answer after
      unfolding text written_if left_if
      report_written f = let w = f longest in record { answers = rw is_text w.answers; leaves = rw is_text w.leaves }
