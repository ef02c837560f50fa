-- Laws of the report file name.
use mathlib.Core.Path.{◌≡◌, refl, sym, ◌∙◌}
use mathlib.Core.List.{◌++◌, append_assoc}
use mathlib.Core.Bool.{Bool, true, false, ◌&&◌, not, true≢false}
use Prim.Native.Nat.{ℕ, ◌+◌, ◌^◌, ◌≤◌, ◌<◌}
use native.Mathlib.Decide.{dec_le}
use native.Mathlib.Omega.{arith}
use native.Mathlib.Nat.{zero-add}
use borrow.Author.Tests.{not-true, not-false}
use lib.Dec.{leb}
use Rattle.std.proofs.Common.{Bor}
use Rattle.std.specs.Option.{option_copied}
use Rattle.std.specs.Bool.{then_some}
use lib.ListN.{length, length-append}
use Rattle.std.specs.Prelude.{Result, Ok, Err, Option, None, Some}
use Rattle.octets.specs.Octets.{Octets, octets, lower}
use Rattle.octets.specs.Decimal.{decimal}
use Rattle.octets.specs.Lent.{Writes, WritesIf, written_if, left_if}
use Rattle.octets.specs.Refusing.{refusal}
use Rattle.octets.proofs.LentLaws.{refuses}
use Rattle.octets_append.proofs.AppendLaws.{appends_whole}
use Rattle.octets.proofs.DecimalLaws.{twenty_digits}
use Rattle.octets.proofs.TextLaws.{lower_length}
use Rattle.octets.proofs.PartLaws.{made_of_long}
use Rattle.octets_pieces.specs.code.Putting.{Puts}
use Rattle.octets_pieces.proofs.PuttingLaws.{puts_both}
use Rattle.domain.specs.Domain.{Domain, without_dot, is_domain}
use Rattle.domain.proofs.RuleLaws.{domain_short}
use Rattle.reporting.specs.FileName.{alphanumeric, good_id, given_id, good_id_if_any, good_report, domains_part, times_part, end_part, file_name_text, report_name, file_name}
use Rattle.octets.specs.declared.Refusal.{Refusal}

-- ------------------------------------------------------------------ how long it is

domains_length : (r p : Domain) → length (domains_part r p) ≡ length r + length p + 2
unfolding domains_part octets
domains_length r p = rw (length-append, length-append, length-append, lower_length, lower_length) (omega arith)

times_length : (begin end : ℕ) → length (times_part begin end) ≡ length (decimal begin) + length (decimal end) + 1
unfolding times_part octets
times_length begin end = rw (length-append, length-append) (omega arith)

name_size : (r p : Domain) (begin end : ℕ) (id : Option Octets)
    → length (file_name_text r p begin end id) ≡ (length r + length p + 2) + (length (decimal begin) + length (decimal end) + 1) + length (end_part id)
unfolding file_name_text
name_size r p begin end id = rw (length-append, length-append, domains_length, times_length)

-- ------------------------------------------------------------------ what can be written is short

-- what holds of the parts of a test that holds
all_hold : (a b c d : Bool) → (a && b && c && d) ≡ true → (a ≡ true) × (b ≡ true) × (c ≡ true)
all_hold true true true d e = (refl, refl, refl)
all_hold true true false d e = absurd (true≢false (sym e))
all_hold true false c d e = absurd (true≢false (sym e))
all_hold false b c d e = absurd (true≢false (sym e))

id_short : (id : Option Octets) → good_id_if_any id ≡ true → length (end_part id) ≤ 69
unfolding good_id_if_any good_id end_part octets
id_short None e = omega arith
id_short (Some id) e = rw (length-append, length-append) (omega (arith, short))
  where
    short : length id ≤ 64
    short = go (dec_le (length id) 64)
      where
        go : Dec (length id ≤ 64) → length id ≤ 64
        go (yes h) = h
        go (no h) = absurd (true≢false (sym e ∙ made_of_long 64 alphanumeric id (omega arith)))

name_short : (r p : Domain) (begin end : ℕ) (id : Option Octets) → good_report r p begin end id ≡ true → begin < 2 ^ 64 → end < 2 ^ 64 → length (file_name_text r p begin end id) ≤ 618
unfolding good_report
name_short r p begin end id good h k =
    let (d, e, i) = all_hold (is_domain r) (is_domain p) (good_id_if_any id) (leb begin end) good in
    omega (arith, name_size r p begin end id, domain_short r d, domain_short p e, twenty_digits begin h, twenty_digits end k, id_short id i)

-- ------------------------------------------------------------------ the promise, by the test that the code makes

-- of the domains without their dots
module _ (receiver policy_domain : Octets) {r p : Domain} (f : r ≡ without_dot receiver) (g : p ≡ without_dot policy_domain) (begin end : ℕ) (id : Option Octets) (before : Octets)
    {good : Bool} (e : good ≡ good_report r p begin end id) where
  pub name_refused : not good ≡ true → WritesIf (file_name receiver policy_domain begin end id) before (Err (refusal 11 0)) before
  unfolding file_name report_name written_if left_if
  name_refused h = let bad = sym e ∙ not-true good h in record { answers = rw (← f, ← g, bad); leaves = rw (← f, ← g, bad) }

  -- of what can be written the length is counted first
  module _ (h : not good ≡ false) (b : begin < 2 ^ 64) (k : end < 2 ^ 64) {none left : Octets} {n : ℕ} (q : Puts (file_name_text r p begin end id) 0 none n left) where
    text : Octets
    text = file_name_text r p begin end id

    is_good : good_report r p begin end id ≡ true
    is_good = sym e ∙ not-false good h

    counted : n ≡ length text
    unfolding text
    counted = q.counts (omega (arith, name_short r p begin end id is_good b k)) ∙ zero-add (length text)

    by : {answer : Result ℕ Refusal} {after : Octets} → Writes text before answer after → WritesIf (file_name receiver policy_domain begin end id) before answer after
    unfolding file_name report_name written_if left_if text
    by w = record { answers = rw (← f, ← g, is_good) w.answers; leaves = rw (← f, ← g, is_good) w.leaves }

    pub name_too_long : length before < n → WritesIf (file_name receiver policy_domain begin end id) before (Err (refusal 10 n)) before
    name_too_long l = by (refuses text before (omega (arith, counted)) n counted (Err (refusal 10 n)) refl)

    pub name_written : n ≤ length before → {next : ℕ} {after : Octets} → Puts (file_name_text r p begin end id) 0 before next after
        → WritesIf (file_name receiver policy_domain begin end id) before (Ok next) after
    unfolding text
    name_written l s = let room : length text ≤ length before = omega (arith, counted) in by (appends_whole text before room (s.appends (omega (arith, room))))

-- ------------------------------------------------------------------ its parts, one after the other

parts : (r m p b e i x : Octets) → (r ++ m) ++ (p ++ m) ++ (b ++ m) ++ (e ++ m) ++ (i ++ x) ≡ (r ++ m ++ p ++ m) ++ (b ++ m ++ e) ++ (m ++ i ++ x)
parts r m p b e i x = simp append_assoc

parts_alone : (r m p b e x : Octets) → (r ++ m) ++ (p ++ m) ++ (b ++ m) ++ (e ++ x) ≡ (r ++ m ++ p ++ m) ++ (b ++ m ++ e) ++ x
parts_alone r m p b e x = simp append_assoc

module _ (r p : Domain) (begin end : ℕ) (before : Octets) {m₁ m₂ m₃ m₄ : ℕ} {o₁ o₂ o₃ o₄ : Octets}
    (a : Puts (lower r ++ octets "!") 0 before m₁ o₁) (b : Puts (lower p ++ octets "!") m₁ o₁ m₂ o₂) (c : Puts (decimal begin ++ octets "!") m₂ o₂ m₃ o₃) where
  pub name_puts : (id : Octets) {m₅ : ℕ} {o₅ : Octets} → Puts (decimal end ++ octets "!") m₃ o₃ m₄ o₄ → Puts (id ++ octets ".xml") m₄ o₄ m₅ o₅ → Puts (file_name_text r p begin end (Some id)) 0 before m₅ o₅
  unfolding file_name_text domains_part times_part end_part
  name_puts id d e =
      rw (parts (lower r) (octets "!") (lower p) (decimal begin) (decimal end) id (octets ".xml"))
      at (puts_both _ _ before 0 (puts_both _ _ before 0 (puts_both _ _ before 0 (puts_both _ _ before 0 a b) c) d) e)

  pub name_puts_alone : Puts (decimal end ++ octets ".xml") m₃ o₃ m₄ o₄ → Puts (file_name_text r p begin end None) 0 before m₄ o₄
  unfolding file_name_text domains_part times_part end_part
  name_puts_alone d =
      rw (parts_alone (lower r) (octets "!") (lower p) (decimal begin) (decimal end) (octets ".xml"))
      at (puts_both _ _ before 0 (puts_both _ _ before 0 (puts_both _ _ before 0 a b) c) d)

-- an id with a flag, as code makes an option of it
pub as_given : (named : Bool) (id : Bor Octets) (given : Option (Bor Octets)) → given ≡ then_some named id → given_id named id.now ≡ option_copied given
unfolding given_id
as_given true id given e = rw e
as_given false id given e = rw e
