-- Laws of a record element, and of what a row's numbers name.
use mathlib.Core.Path.{◌≡◌, refl, ap, ◌∙◌}
use mathlib.Core.List.{◌++◌}
use Prim.Native.Nat.{ℕ, ◌+◌, ◌^◌, ◌≤◌, ◌<◌}
use native.Mathlib.Omega.{arith}
use lib.ListN.{length, take, drop, get_or, length-take}
use Rattle.octets.specs.Octets.{Octets, octets, lower, part_of}
use Rattle.octets.specs.Decimal.{decimal}
use Rattle.octets.specs.Framing.{body_of}
use Rattle.octets.proofs.DecimalLaws.{decimal_below}
use Rattle.octets_pieces.specs.code.Putting.{Puts}
use Rattle.octets_pieces.proofs.PuttingLaws.{puts_both}
use Rattle.domain.specs.Domain.{without_dot}
use Rattle.rows.specs.Lists.{Lists, set_in}
use Rattle.rows_named.specs.code.Naming.{records_after}
use Rattle.rows_gather.specs.code.Gathered.{number_from, row_of}
use Rattle.report.specs.Xml.{element, address}
use Rattle.report.specs.Report.{policy_evaluated, row_element, auth_results, record_element}
use Rattle.report.proofs.SizeLaws.{row_size}
use Rattle.report.proofs.Regrouping.{leaf, ◌·◌, whole, along, regroup, lit, el}
use Rattle.report_rows.specs.code.Lines.{author_at, set_at, names_at, line_of}

module _ (row : Octets) where
  pub author_is : (authors : Octets) {n : ℕ} {t b r : Octets} → n ≡ number_from (drop 20 row) → t ≡ records_after n authors → b ≡ body_of t → r ≡ without_dot b → r ≡ author_at authors (row_of row).seen.author
  unfolding author_at row_of
  author_is authors e f g h = h ∙ ap without_dot (g ∙ ap body_of (f ∙ ap (λ k. records_after k authors) e))

  pub set_is : (sets : Octets) {n : ℕ} {t b : Octets} → n ≡ number_from (drop 24 row) → t ≡ records_after n sets → b ≡ body_of t → b ≡ set_at sets (row_of row).seen.set
  unfolding set_at row_of
  set_is sets e f g = g ∙ ap body_of (f ∙ ap (λ k. records_after k sets) e)

row_regroup : (a n v : Octets) → octets "<row><source_ip>" ++ a ++ octets "</source_ip><count>" ++ (n ++ octets "</count>") ++ v ++ octets "</row>" ≡ element "row" (element "source_ip" a ++ element "count" n ++ v)
unfolding whole along lit el element octets
row_regroup a n v = regroup
    (lit "<row><source_ip>" · leaf a · lit "</source_ip><count>" · (leaf n · lit "</count>") · leaf v · lit "</row>")
    (el "row" (el "source_ip" (leaf a) · el "count" (leaf n) · leaf v))
    refl

-- the source is not part of what was evaluated, nor are the two numbers
evaluated_of : (row zeros : Octets) {d x y : ℕ} → d ≡ get_or row 16 0 → x ≡ get_or row 17 0 → y ≡ get_or row 18 0
    → policy_evaluated (record { source = zeros; disposition = d; dkim = x; spf = y; spare = 0; author = 0; set = 0 }) ≡ policy_evaluated (row_of row).seen
unfolding policy_evaluated row_of
evaluated_of row zeros e g h = rw (e, g, h)

pub row_puts : (row before : Octets) (at : ℕ) (zeros : Octets) {source : Octets} {d x y n : ℕ} → d ≡ get_or row 16 0 → x ≡ get_or row 17 0 → y ≡ get_or row 18 0 → n ≡ number_from (drop 28 row) → source ≡ part_of row 0 16
    → {m₁ m₂ m₃ m₄ m₅ m₆ : ℕ} {o₁ o₂ o₃ o₄ o₅ o₆ : Octets}
    → Puts (octets "<row><source_ip>") at before m₁ o₁ → Puts (address source) m₁ o₁ m₂ o₂ → Puts (octets "</source_ip><count>") m₂ o₂ m₃ o₃ → Puts (decimal n ++ octets "</count>") m₃ o₃ m₄ o₄
    → Puts (policy_evaluated (record { source = zeros; disposition = d; dkim = x; spf = y; spare = 0; author = 0; set = 0 })) m₄ o₄ m₅ o₅ → Puts (octets "</row>") m₅ o₅ m₆ o₆
    → Puts (row_element (row_of row)) at before m₆ o₆
unfolding row_element row_of part_of
row_puts row before at zeros d x y n s p₁ p₂ p₃ p₄ p₅ p₆ =
    rw (row_regroup (address (take 16 row)) (decimal (number_from (drop 28 row))) (policy_evaluated (row_of row).seen))
    at (puts_both _ _ before at (puts_both _ _ before at (puts_both _ _ before at (puts_both _ _ before at (puts_both _ _ before at p₁ (rw s at p₂)) p₃) (rw n at p₄)) (rw (evaluated_of row zeros d x y) at p₅)) p₆)

-- a row's element is short
pub row_short : (row : Octets) {n : ℕ} → n ≡ number_from (drop 28 row) → n < 2 ^ 32 → (length (take 16 row) ≤ 16 → length (address (take 16 row)) ≤ 39) → length (row_element (row_of row)) ≤ 204
unfolding row_of
row_short row {n} e h a =
    let digits : length (decimal (number_from (drop 28 row))) ≤ 10 = rw (← e) (decimal_below 9 n (omega (arith, h))) in
    omega (arith, a (rw (length-take 16 row) (omega arith)), digits, row_size (row_of row))

record_regroup : (r a s : Octets) → octets "<record>" ++ r ++ octets "<identifiers><header_from>" ++ (a ++ octets "</header_from></identifiers>") ++ s ++ octets "</record>"
    ≡ element "record" (r ++ element "identifiers" (element "header_from" a) ++ s)
unfolding whole along lit el element octets
record_regroup r a s = regroup
    (lit "<record>" · leaf r · lit "<identifiers><header_from>" · (leaf a · lit "</header_from></identifiers>") · leaf s · lit "</record>")
    (el "record" (leaf r · el "identifiers" (el "header_from" (leaf a)) · leaf s))
    refl

pub record_puts : (l : Lists) (row before : Octets) (at : ℕ) {author set : Octets} → author ≡ author_at l.authors (row_of row).seen.author → set ≡ set_at l.sets (row_of row).seen.set
    → {m₁ m₂ m₃ m₄ m₅ m₆ : ℕ} {o₁ o₂ o₃ o₄ o₅ o₆ : Octets}
    → Puts (octets "<record>") at before m₁ o₁ → Puts (row_element (row_of row)) m₁ o₁ m₂ o₂ → Puts (octets "<identifiers><header_from>") m₂ o₂ m₃ o₃
    → Puts (lower author ++ octets "</header_from></identifiers>") m₃ o₃ m₄ o₄ → Puts (auth_results (set_in set)) m₄ o₄ m₅ o₅ → Puts (octets "</record>") m₅ o₅ m₆ o₆
    → Puts (record_element (line_of l (row_of row))) at before m₆ o₆
unfolding record_element line_of names_at
record_puts l row before at a s p₁ p₂ p₃ p₄ p₅ p₆ =
    rw (record_regroup (row_element (row_of row)) (lower (author_at l.authors (row_of row).seen.author)) (auth_results (set_in (set_at l.sets (row_of row).seen.set))))
    at (puts_both _ _ before at (puts_both _ _ before at (puts_both _ _ before at (puts_both _ _ before at (puts_both _ _ before at p₁ p₂) p₃) (rw a at p₄)) (rw s at p₅)) p₆)
