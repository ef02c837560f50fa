-- Laws of the mail subject.
use Rattle.std.specs.Prelude.{Result, Ok, Err}
use mathlib.Core.Path.{◌≡◌, refl, sym, ◌∙◌}
use mathlib.Core.List.{◌++◌}
use mathlib.Core.Bool.{Bool, true, false, ◌&&◌, not}
use Prim.Native.Nat.{ℕ, ◌≤◌, ◌<◌}
use native.Mathlib.Omega.{arith}
use native.Mathlib.Nat.{zero-add}
use borrow.Author.Tests.{not-true, not-false}
use lib.ListN.{length, length-append}
use Rattle.octets.specs.Octets.{Octets, octets, lower}
use Rattle.octets.specs.Lent.{Writes, WritesIf, written_if, left_if}
use Rattle.octets.specs.Refusing.{◌>>=◌, refusal, refuse_if}
use Rattle.octets.proofs.LentLaws.{refuses}
use Rattle.octets.proofs.TextLaws.{lower_length}
use Rattle.octets_append.proofs.AppendLaws.{appends_whole}
use Rattle.octets_pieces.specs.code.Putting.{Puts}
use Rattle.octets_pieces.proofs.PuttingLaws.{puts_both}
use Rattle.domain.specs.Domain.{Domain, without_dot, is_domain}
use Rattle.domain.proofs.RuleLaws.{domain_short}
use Rattle.reporting.specs.FileName.{good_id}
use Rattle.report.specs.Subject.{subject_text, subject_of, subject}
use Rattle.report.proofs.SizeLaws.{both_hold, id_size}
use Rattle.report.proofs.Regrouping.{leaf, ◌·◌, whole, along, regroup, lit}
use Rattle.octets.specs.declared.Refusal.{Refusal}

subject_short : (r p : Domain) (id : Octets) → (is_domain r && is_domain p && good_id id) ≡ true → length (subject_text r p id) ≤ 700
unfolding subject_text octets
subject_short r p id e =
    let (d, i) = both_hold (is_domain r && is_domain p) (good_id id) e in
    let (a, b) = both_hold (is_domain r) (is_domain p) d in
    rw (length-append, length-append, length-append, length-append, length-append, length-append, lower_length, lower_length) (omega (arith, domain_short r a, domain_short p b, id_size id i))

subject_regroup : (r p i : Octets) → octets "Report Domain: " ++ (p ++ octets " Submitter: ") ++ (r ++ octets " Report-ID: <") ++ (i ++ octets ">")
    ≡ octets "Report Domain: " ++ p ++ octets " Submitter: " ++ r ++ octets " Report-ID: <" ++ i ++ octets ">"
unfolding whole along lit octets
subject_regroup r p i = regroup
    (lit "Report Domain: " · (leaf p · lit " Submitter: ") · (leaf r · lit " Report-ID: <") · (leaf i · lit ">"))
    (lit "Report Domain: " · leaf p · lit " Submitter: " · leaf r · lit " Report-ID: <" · leaf i · lit ">")
    refl

pub subject_puts : (r p id before : Octets) {m₁ m₂ m₃ m₄ : ℕ} {o₁ o₂ o₃ o₄ : Octets} → Puts (octets "Report Domain: ") 0 before m₁ o₁ → Puts (lower p ++ octets " Submitter: ") m₁ o₁ m₂ o₂
    → Puts (lower r ++ octets " Report-ID: <") m₂ o₂ m₃ o₃ → Puts (id ++ octets ">") m₃ o₃ m₄ o₄ → Puts (subject_text r p id) 0 before m₄ o₄
unfolding subject_text
subject_puts r p id before a b c d = rw (subject_regroup (lower r) (lower p) id) at (puts_both _ _ before 0 (puts_both _ _ before 0 (puts_both _ _ before 0 a b) c) d)

module _ (receiver policy_domain id : Octets) {r p : Domain} (f : r ≡ without_dot receiver) (g : p ≡ without_dot policy_domain) (before : Octets)
    {good : Bool} (e : good ≡ (is_domain r && is_domain p && good_id id)) where
  pub subject_refused : not good ≡ true → WritesIf (subject receiver policy_domain id) before (Err (refusal 11 0)) before
  unfolding subject subject_of ◌>>=◌ refuse_if written_if left_if
  subject_refused h = let bad = sym e ∙ not-true good h in record { answers = rw (← f, ← g, bad); leaves = rw (← f, ← g, bad) }

  module _ (h : not good ≡ false) {none left : Octets} {n : ℕ} (q : Puts (subject_text r p id) 0 none n left) where
    is_good : (is_domain r && is_domain p && good_id id) ≡ true
    is_good = sym e ∙ not-false good h

    counted : n ≡ length (subject_text r p id)
    counted = q.counts (omega (arith, subject_short r p id is_good)) ∙ zero-add (length (subject_text r p id))

    by : {answer : Result ℕ Refusal} {after : Octets} → Writes (subject_text r p id) before answer after → WritesIf (subject receiver policy_domain id) before answer after
    unfolding subject subject_of ◌>>=◌ refuse_if written_if left_if
    by w = record { answers = rw (← f, ← g, is_good) w.answers; leaves = rw (← f, ← g, is_good) w.leaves }

    pub subject_too_long : length before < n → {answer : Result ℕ Refusal} → answer ≡ Err (refusal 10 n) → WritesIf (subject receiver policy_domain id) before answer before
    subject_too_long k z = by (refuses (subject_text r p id) before (omega (arith, counted, k)) n counted _ z)

    pub subject_written : n ≤ length before → {next : ℕ} {after : Octets} → Puts (subject_text r p id) 0 before next after → WritesIf (subject receiver policy_domain id) before (Ok next) after
    subject_written k s = let room : length (subject_text r p id) ≤ length before = omega (arith, counted, k) in by (appends_whole (subject_text r p id) before room (s.appends (omega (arith, room))))
