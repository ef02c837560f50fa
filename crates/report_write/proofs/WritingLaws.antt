-- Laws of a report's records one after the other, and of the whole text.
use mathlib.Core.Path.{◌≡◌, refl, sym, ap, ◌∙◌}
use mathlib.Core.List.{List, [], ◌∷◌, ◌++◌, map, flatten}
use mathlib.Core.Bool.{Bool, true, false, true≢false}
use Prim.Native.Nat.{ℕ, zero, suc, ◌-◌, ◌*◌, ◌≤◌, ◌<◌}
use native.Mathlib.Omega.{arith}
use lib.Dec.{eqb}
use lib.ListN.{length, drop, length-append}
use borrow.Author.Tests.{eq-eqb, ne_eqb}
use Rattle.octets.specs.Octets.{Octets, octets, lower}
use Rattle.octets_pieces.specs.code.Putting.{Puts}
use Rattle.octets_pieces.proofs.PuttingLaws.{puts_both, puts_nothing}
use Rattle.policy.specs.declared.Settings.{Settings}
use Rattle.rows.specs.declared.Row.{Row}
use Rattle.rows.specs.Lists.{Lists}
use Rattle.rows.specs.Rows.{is_free}
use Rattle.report.specs.Report.{Reporter, metadata, published, policy_published, row_element, record_element, report_text, counted_rows}
use Rattle.rows_gather.specs.code.Gathered.{number_from, row_of, rows_of}
use Rattle.report_texts.proofs.Going.{Goes, goes_over, goes_ends}
use Rattle.report_rows.specs.code.Lines.{line_of}
use Rattle.report_write.specs.code.Records.{counted_element, Short, AllShort, IsBrief, AllBrief}

module _ (l : Lists) (row before : Octets) (at : ℕ) {n : ℕ} (e : n ≡ number_from (drop 28 row)) where
  pub free_puts : n ≡ 0 → Puts (counted_element l (row_of row)) at before at before × Short (row_of row) × IsBrief (row_of row)
  unfolding counted_element is_free row_of Short IsBrief
  free_puts h =
      let free : eqb (number_from (drop 28 row)) 0 ≡ true = eq-eqb (number_from (drop 28 row)) 0 (sym e ∙ h) in
      (rw free (puts_nothing before at), λ f. absurd (true≢false (sym free ∙ f)), λ f. absurd (true≢false (sym free ∙ f)))

  pub counted_puts : (n ≡ 0 → ⊥) → {next : ℕ} {after : Octets} → Puts (record_element (line_of l (row_of row))) at before next after × (length (row_element (row_of row)) ≤ 204)
      → Puts (counted_element l (row_of row)) at before next after × Short (row_of row) × IsBrief (row_of row)
  unfolding counted_element is_free row_of Short IsBrief
  counted_puts h p = (rw (ne_eqb (number_from (drop 28 row)) 0 (λ z. h (e ∙ z))) p.0, λ f. omega (arith, p.1), λ f. p.1)

-- ------------------------------------------------------------------ rows

abbrev pub records_of : Lists → List Row → Octets
records_of l rs = flatten (map (counted_element l) rs)

pub next_row : (l : Lists) {text before : Octets} {at : ℕ} (n : ℕ) (t rest : Octets) {end next : ℕ} {out after : Octets} → 0 < n → rest ≡ drop 32 t
    → Goes text (records_of l (rows_of n t)) at before end out → Puts (counted_element l (row_of t)) end out next after → Goes text (records_of l (rows_of (n - 1) rest)) at before next after
unfolding rows_of flatten
next_row l zero t rest h e g p = absurd (omega (arith, h))
next_row l (suc n) t rest h e g p =
    let one : suc n - 1 ≡ n = omega arith in
    rw one (goes_over (counted_element l (row_of t)) (records_of l (rows_of n rest)) (rw (← e) at g) p)

pub last_row : (l : Lists) {text before : Octets} {at : ℕ} (n : ℕ) (t : Octets) {end : ℕ} {out : Octets} → n ≤ 0 → Goes text (records_of l (rows_of n t)) at before end out → Puts text at before end out
unfolding rows_of flatten
last_row l zero t h g = goes_ends g
last_row l (suc n) t h g = absurd (omega (arith, h))

pub next_brief : {A : Type 0} (n : ℕ) (t rest : Octets) → 0 < n → rest ≡ drop 32 t → IsBrief (row_of t) → (AllBrief (rows_of n t) → A) → AllBrief (rows_of (n - 1) rest) → A
unfolding rows_of AllBrief
next_brief zero t rest h e s f = absurd (omega (arith, h))
next_brief (suc n) t rest h e s f = let one : suc n - 1 ≡ n = omega arith in λ a. f (s, rw (one, e) at a)

pub last_brief : {A : Type 0} (n : ℕ) (t : Octets) → n ≤ 0 → (AllBrief (rows_of n t) → A) → A
unfolding rows_of AllBrief
last_brief zero t h f = f tt
last_brief (suc n) t h f = absurd (omega (arith, h))

-- what is brief is short
brief_is_short : (r : Row) → IsBrief r → Short r
unfolding IsBrief Short
brief_is_short r b f = omega (arith, b f)

pub all_short : (rs : List Row) → AllBrief rs → AllShort rs
unfolding AllBrief AllShort
all_short [] a = tt
all_short (r ∷ rs) a = (brief_is_short r a.0, all_short rs a.1)

pub rows_brief : (rs : List Row) → AllBrief rs → length (flatten (map row_element (counted_rows rs))) ≤ 204 * length rs
unfolding counted_rows AllBrief IsBrief flatten
rows_brief [] a = omega arith
rows_brief (r ∷ rs) a = go (rows_brief rs a.1) (is_free r) refl
  where
    go : length (flatten (map row_element (counted_rows rs))) ≤ 204 * length rs → (b : Bool) → is_free r ≡ b → length (flatten (map row_element (counted_rows (r ∷ rs)))) ≤ 204 * length (r ∷ rs)
    go ih true e = rw (e, counted_rows) (omega (arith, ih))
    go ih false e = rw (e, counted_rows, length-append) (omega (arith, ih, a.0 e))

-- ------------------------------------------------------------------ the whole

pub records_are : (l : Lists) (rs : List Row) → records_of l rs ≡ flatten (map record_element (map (line_of l) (counted_rows rs)))
unfolding counted_rows counted_element flatten
records_are l [] = refl
records_are l (r ∷ rs) = go (records_are l rs) (is_free r) refl
  where
    go : records_of l rs ≡ flatten (map record_element (map (line_of l) (counted_rows rs))) → (b : Bool) → is_free r ≡ b
        → records_of l (r ∷ rs) ≡ flatten (map record_element (map (line_of l) (counted_rows (r ∷ rs))))
    go ih true e = rw (e, counted_rows) ih
    go ih false e = rw (e, counted_rows) (ap (λ z. record_element (line_of l r) ++ z) ih)

pub report_puts : (d : Octets) (s : Settings) (by : Reporter) (l : Lists) (rs : List Row) (before : Octets) {m₁ m₂ m₃ m₄ m₅ : ℕ} {o₁ o₂ o₃ o₄ o₅ : Octets}
    → Puts (octets "<?xml version=\"1.0\" encoding=\"UTF-8\"?><feedback xmlns=\"urn:ietf:params:xml:ns:dmarc-2.0\">") 0 before m₁ o₁ → Puts (metadata by) m₁ o₁ m₂ o₂ → Puts (policy_published (lower d) (published s)) m₂ o₂ m₃ o₃
    → Puts (records_of l rs) m₃ o₃ m₄ o₄ → Puts (octets "</feedback>") m₄ o₄ m₅ o₅ → Puts (report_text (lower d) s by (map (line_of l) (counted_rows rs))) 0 before m₅ o₅
unfolding report_text octets
report_puts d s by l rs before p q r t u =
    rw (← records_are l rs) (puts_both _ _ before 0 (puts_both _ _ before 0 (puts_both _ _ before 0 (puts_both _ _ before 0 p q) r) t) u)
