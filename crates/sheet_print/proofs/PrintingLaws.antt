-- Laws of a text that is printed in pieces, and of how long what is printed is.
use mathlib.Core.Path.{◌≡◌, ap, sym, ◌∙◌}
use mathlib.Core.List.{List, [], ◌∷◌, ◌++◌, flatten, append_assoc, append-nil}
use Prim.Native.Nat.{ℕ, ◌+◌, ◌^◌, ◌≤◌, ◌<◌}
use native.Mathlib.Omega.{arith}
use lib.ListN.{length, get_or, take, drop, length-append}
use lib.Seq.{length-take-le, take_at}
use borrow.Author.Tests.{le-leb}
use Rattle.octets.specs.Octets.{Octets, octets}
use Rattle.octets.specs.Lent.{over}
use Rattle.octets_append.specs.code.Appending.{fits_at}
use Rattle.octets.specs.Decimal.{decimal}
use Rattle.octets.specs.declared.Refusal.{Refusal}
use Rattle.octets_append.proofs.AppendLaws.{moved_on}
use Rattle.octets.proofs.DecimalLaws.{twenty_digits}
use Rattle.lookup.specs.Lookup.{Name}
use Rattle.policy.specs.declared.Policy.{Policy}
use Rattle.verdict.specs.declared.Result.{Result}
use Rattle.verdict.specs.declared.AppliedPolicy.{AppliedPolicy}
use Rattle.verdict.specs.declared.Disposition.{Disposition}
use Rattle.sheet.specs.Printed.{result_word, policy_word, applied_word, disposition_word, line, ask_lines, verdict_lines, refusal_text}
use Rattle.octets_pieces.specs.code.Pieces.{pieces, starts}
use Rattle.octets_pieces.specs.code.Putting.{Puts}
use Rattle.octets_pieces.proofs.PieceLaws.{word_pieces}
use Rattle.octets_pieces.proofs.PuttingLaws.{puts_both}
use Rattle.sheet_print.specs.code.Words.{words}

-- ------------------------------------------------------------------ the lines, piece by piece

-- four lines, with the end of each and the start of the next as one piece
four_lines : (s n a w b x c y d z : Octets)
    → ((a ++ s) ++ (w ++ ((n ++ b ++ s) ++ (x ++ ((n ++ c ++ s) ++ (y ++ ((n ++ d ++ s) ++ []))))))) ++ (z ++ n)
    ≡ (a ++ s ++ w ++ n) ++ (b ++ s ++ x ++ n) ++ (c ++ s ++ y ++ n) ++ (d ++ s ++ z ++ n)
four_lines s n a w b x c y d z = simp (append_assoc, append-nil)

refusal_pieces : (f : Refusal) → (octets "refused " ++ (decimal f.number ++ octets " at ")) ++ (decimal f.place ++ octets "\n") ≡ refusal_text f
unfolding refusal_text line octets
refusal_pieces f = simp append_assoc

-- a verdict's words, by their numbers in the table, up to the count
abbrev pub verdict_front : (i j k : ℕ) → Octets
verdict_front i j k = pieces (flatten words) (starts 0 words) (9 ∷ i ∷ 10 ∷ j ∷ 11 ∷ k ∷ 12 ∷ [])

verdict_pieces : (r : Result) (p : AppliedPolicy) (d : Disposition) (count i j k : ℕ)
    → get_or words i [] ≡ result_word r → get_or words j [] ≡ applied_word p → get_or words k [] ≡ disposition_word d
    → verdict_front i j k ++ (decimal count ++ octets "\n") ≡ verdict_lines r p d count
unfolding flatten verdict_lines line octets words
verdict_pieces r p d count i j k e f g =
    ap (λ (t : Octets). t ++ (decimal count ++ octets "\n")) (word_pieces words (9 ∷ i ∷ 10 ∷ j ∷ 11 ∷ k ∷ 12 ∷ []))
    ∙ rw (e, f, g) (four_lines (octets " ") (octets "\n") (octets "result") (result_word r) (octets "policy") (applied_word p) (octets "disposition") (disposition_word d) (octets "asked") (decimal count))

module _ (before : Octets) (at : ℕ) {m₁ m₂ : ℕ} {o₁ o₂ : Octets} where
  pub ask_puts : (name : Octets) → Puts (octets "ask ") at before m₁ o₁ → Puts (name ++ octets "\n") m₁ o₁ m₂ o₂ → Puts (line (octets "ask") name) at before m₂ o₂
  unfolding line octets
  ask_puts name p q = puts_both (octets "ask ") (name ++ octets "\n") before at p q

  pub refusal_puts : (f : Refusal) {m₃ : ℕ} {o₃ : Octets}
      → Puts (octets "refused ") at before m₁ o₁ → Puts (decimal f.number ++ octets " at ") m₁ o₁ m₂ o₂ → Puts (decimal f.place ++ octets "\n") m₂ o₂ m₃ o₃
      → Puts (refusal_text f) at before m₃ o₃
  refusal_puts f p q r =
      rw (refusal_pieces f) at (puts_both _ _ before at (puts_both _ _ before at p q) r)

  pub verdict_puts : (r : Result) (p : AppliedPolicy) (d : Disposition) (count i j k : ℕ)
      → get_or words i [] ≡ result_word r → get_or words j [] ≡ applied_word p → get_or words k [] ≡ disposition_word d
      → Puts (verdict_front i j k) at before m₁ o₁ → Puts (decimal count ++ octets "\n") m₁ o₁ m₂ o₂
      → Puts (verdict_lines r p d count) at before m₂ o₂
  verdict_puts r p d count i j k e f g s t = rw (verdict_pieces r p d count i j k e f g) at (puts_both (verdict_front i j k) (decimal count ++ octets "\n") before at s t)

-- what stands before the new place is what stood before the old one, and the text
pub put_front : (text before : Octets) (at : ℕ) → at + length text ≤ length before → {next : ℕ} {after : Octets} → Puts text at before next after → take next after ≡ take at before ++ text
unfolding fits_at over
put_front text before at room p =
    let q = p.appends room in
    let size : length (take at before ++ text) ≡ at + length text = rw (length-append, length-take-le at before (omega (arith, room))) in
    rw (q.leaves, le-leb (at + length text) (length before) room, ← append_assoc)
    (take_at (take at before ++ text) (drop (length text) (drop at before)) _ (size ∙ sym (moved_on text before at room q)))

-- ------------------------------------------------------------------ how long what is printed is

policy_word_short : (p : Policy) → length (policy_word p) ≤ 10
unfolding policy_word octets
policy_word_short Policy.None = omega arith
policy_word_short Policy.Quarantine = omega arith
policy_word_short Policy.Reject = omega arith

result_word_short : (r : Result) → length (result_word r) ≤ 9
unfolding result_word octets
result_word_short Result.None = omega arith
result_word_short Result.Pass = omega arith
result_word_short Result.Fail = omega arith
result_word_short Result.Temperror = omega arith
result_word_short Result.Permerror = omega arith

applied_word_short : (p : AppliedPolicy) → length (applied_word p) ≤ 10
unfolding applied_word octets
applied_word_short (AppliedPolicy.Known p) = policy_word_short p
applied_word_short AppliedPolicy.Unknown = omega arith

disposition_word_short : (d : Disposition) → length (disposition_word d) ≤ 10
unfolding disposition_word octets
disposition_word_short (Disposition.Apply p) = policy_word_short p
disposition_word_short Disposition.Defer = omega arith

line_length : (word rest : Octets) → length (line word rest) ≡ length word + length rest + 2
unfolding line octets
line_length word rest = rw (length-append, length-append, length-append) (omega arith)

pub verdict_lines_short : (r : Result) (p : AppliedPolicy) (d : Disposition) (count : ℕ) → count < 2 ^ 64 → length (verdict_lines r p d count) ≤ 100
unfolding verdict_lines octets
verdict_lines_short r p d count h =
    simp (length-append, line_length)
    (omega (arith, result_word_short r, applied_word_short p, disposition_word_short d, twenty_digits count h))

pub refusal_text_short : (f : Refusal) → f.number < 256 → f.place < 2 ^ 64 → length (refusal_text f) ≤ 100
unfolding refusal_text octets
refusal_text_short f h k = simp (length-append, line_length) (omega (arith, twenty_digits f.number (omega (arith, h)), twenty_digits f.place k))

pub ask_line_length : (name : Octets) → length (line (octets "ask") name) ≡ 5 + length name
unfolding octets
ask_line_length name = rw line_length (omega arith)

-- ------------------------------------------------------------------ the names asked

pub ask_lines_snoc : (ns : List Name) (n : Name) → ask_lines (ns ++ (n ∷ [])) ≡ ask_lines ns ++ line (octets "ask") n
unfolding ask_lines flatten
ask_lines_snoc [] n = append-nil (line (octets "ask") n)
ask_lines_snoc (m ∷ ns) n = ap (λ (t : Octets). line (octets "ask") m ++ t) (ask_lines_snoc ns n) ∙ sym (append_assoc (line (octets "ask") m) (ask_lines ns) (line (octets "ask") n))
