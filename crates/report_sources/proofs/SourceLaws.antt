-- Laws of hexadecimal groups, of dotted octets and of an address.
use mathlib.Core.Path.{◌≡◌, refl, sym, ap, ◌∙◌}
use mathlib.Core.List.{List, [], ◌∷◌, ◌++◌, flatten, append_assoc, append-nil}
use mathlib.Core.Bool.{Bool, true, false}
use Prim.Native.Nat.{ℕ, zero, suc, ◌+◌, ◌-◌, ◌*◌, ◌/◌, ◌%◌, ◌≤◌, ◌<◌}
use native.Mathlib.Omega.{arith}
use lib.ListN.{length, take, drop, get_or, length-append, length-drop, length-take}
use lib.Seq.{take_all}
use borrow.Author.Tests.{lt-ltb, le-ltb}
use Rattle.octets.specs.Octets.{Octets, octets, part_of, same as same_octets}
use Rattle.octets.specs.Decimal.{decimal}
use Rattle.octets.proofs.DecimalLaws.{decimal_below}
use Rattle.octets.proofs.LentLaws.{rest_of}
use Rattle.octets_pieces.specs.code.Putting.{Puts}
use Rattle.report.specs.Xml.{after_mark, parted, hex_octet, hex_digits, groups, is_mapped, address}
use Rattle.report.proofs.SizeLaws.{groups_size}
use Rattle.report_texts.proofs.Going.{Goes, goes_begins, goes_over, goes_ends}
use Rattle.report_sources.specs.code.Parts.{four_digits, grouped, dotted}

-- ------------------------------------------------------------------ the digits of a group

last_digit : (n x : ℕ) → x < 16 → hex_digits (suc n) x ≡ hex_octet x ∷ []
unfolding hex_digits
last_digit n x h = rw (lt-ltb x 16 h, hex_digits)

more_digits : (n x : ℕ) → 16 ≤ x → hex_digits (suc n) x ≡ hex_digits n (x / 16) ++ (hex_octet (x % 16) ∷ [])
unfolding hex_digits
more_digits n x h = rw (le-ltb x 16 h, hex_digits)

module _ (high low : ℕ) (l : low < 256) where
  abbrev x : ℕ
  x = high * 256 + low

  last : x % 16 ≡ low % 16
  last = omega arith

  third : x / 16 % 16 ≡ low / 16
  third = omega (arith, l)

  pub all_digits : 15 < high → high < 256 → (0 ≤ 3) × (drop 0 (four_digits high low) ≡ hex_digits 4 x)
  unfolding four_digits
  all_digits k h =
      let second : x / 16 / 16 % 16 ≡ high % 16 = omega (arith, l) in
      let first : x / 16 / 16 / 16 ≡ high / 16 = omega (arith, l) in
      let front : hex_digits 2 (x / 16 / 16) ≡ hex_octet (high / 16) ∷ hex_octet (high % 16) ∷ [] =
      rw (more_digits 1 (x / 16 / 16) (omega (arith, k)), last_digit 0 (x / 16 / 16 / 16) (omega (arith, h, l)), first, second) in
      (omega arith, rw (more_digits 3 x (omega (arith, k)), more_digits 2 (x / 16) (omega (arith, k)), front, third, last))

  pub three_digits : 0 < high → high ≤ 15 → (1 ≤ 3) × (drop 1 (four_digits high low) ≡ hex_digits 4 x)
  unfolding four_digits
  three_digits k h =
      let second : x / 16 / 16 ≡ high % 16 = omega (arith, h, l) in
      let front : hex_digits 3 (x / 16) ≡ hex_octet (high % 16) ∷ hex_octet (low / 16) ∷ [] =
      rw (more_digits 2 (x / 16) (omega (arith, k)), last_digit 1 (x / 16 / 16) (omega (arith, h, l)), second, third) in
      (omega arith, rw (more_digits 3 x (omega (arith, k)), front, last))

  pub two_digits : high ≤ 0 → 15 < low → (2 ≤ 3) × (drop 2 (four_digits high low) ≡ hex_digits 4 x)
  unfolding four_digits
  two_digits h k =
      let second : x / 16 ≡ low / 16 = omega (arith, h) in
      (omega arith, rw (more_digits 3 x (omega (arith, k)), last_digit 2 (x / 16) (omega (arith, h, l)), second, last))

  pub one_digit : high ≤ 0 → low ≤ 15 → (3 ≤ 3) × (drop 3 (four_digits high low) ≡ hex_digits 4 x)
  unfolding four_digits
  one_digit h k =
      let only : x ≡ low % 16 = omega (arith, h, k) in
      (omega arith, rw (last_digit 3 x (omega (arith, h, k)), only))

-- the digits from the first that is no leading zero on, and the mark
cut : (a b c d from marks : ℕ) → from ≤ 3 → take (4 + marks - from) (drop from (a ∷ b ∷ c ∷ d ∷ 58 ∷ [])) ≡ drop from (a ∷ b ∷ c ∷ d ∷ []) ++ take marks (58 ∷ [])
cut a b c d zero m h = let e : 4 + m - 0 ≡ suc (suc (suc (suc m))) = omega arith in rw e
cut a b c d (suc zero) m h = let e : 4 + m - 1 ≡ suc (suc (suc m)) = omega arith in rw e
cut a b c d (suc (suc zero)) m h = let e : 4 + m - 2 ≡ suc (suc m) = omega arith in rw e
cut a b c d (suc (suc (suc zero))) m h = let e : 4 + m - 3 ≡ suc m = omega arith in rw e
cut a b c d (suc (suc (suc (suc n)))) m h = absurd (omega (arith, h))

module _ (high low marks : ℕ) {from a b c d x y : ℕ} {text : Octets} where
  pub group_text : high ≡ x → low ≡ y → a ≡ hex_octet (high / 16) → b ≡ hex_octet (high % 16) → c ≡ hex_octet (low / 16) → d ≡ hex_octet (low % 16)
      → (from ≤ 3) × (drop from (four_digits high low) ≡ hex_digits 4 (high * 256 + low)) → text ≡ part_of (a ∷ b ∷ c ∷ d ∷ 58 ∷ []) from (4 + marks)
      → text ≡ hex_digits 4 (x * 256 + y) ++ take marks (octets ":")
  unfolding part_of octets four_digits
  group_text e f i j k l z g = rw (g, ← e, ← f, ← z.1, ← i, ← j, ← k, ← l) (cut a b c d from marks z.0)

-- ------------------------------------------------------------------ texts parted by a mark, one by one

parted_last : (mark t : Octets) → parted mark (t ∷ []) ≡ (t ++ []) ++ parted mark []
unfolding parted after_mark flatten
parted_last mark t = sym (append-nil (t ++ []))

parted_more : (mark t u : Octets) (ts : List Octets) → parted mark (t ∷ u ∷ ts) ≡ (t ++ mark) ++ parted mark (u ∷ ts)
unfolding parted after_mark flatten
parted_more mark t u ts = ap (λ (z : Octets). t ++ z) (append_assoc mark u (after_mark mark ts)) ∙ sym (append_assoc t mark (u ++ after_mark mark ts))

next_group : (t : Octets) → 1 < length t → grouped t ≡ (hex_digits 4 (get_or t 0 0 * 256 + get_or t 1 0) ++ take (length t / 4) (octets ":")) ++ grouped (drop 2 t)
unfolding groups octets
next_group [] h = absurd (omega (arith, h))
next_group (a ∷ []) h = absurd (omega (arith, h))
next_group (a ∷ b ∷ []) h = parted_last _ _
next_group (a ∷ b ∷ c ∷ []) h = parted_last _ _
next_group (a ∷ b ∷ c ∷ d ∷ t) h =
    let one : length (a ∷ b ∷ c ∷ d ∷ t) / 4 ≡ suc (length t / 4) = omega arith in
    rw (one, take_all {A = ℕ} (suc (length t / 4)) (58 ∷ []) (omega arith)) (parted_more _ _ _ _)

next_octet : (t : Octets) → 0 < length t → dotted t ≡ (decimal (get_or t 0 0) ++ part_of (octets ".") 0 (length (drop 1 t))) ++ dotted (drop 1 t)
unfolding octets part_of
next_octet [] h = absurd (omega (arith, h))
next_octet (a ∷ []) h = parted_last _ _
next_octet (a ∷ b ∷ t) h = rw (take_all {A = ℕ} (suc (length t) - 0) (46 ∷ []) (omega arith)) (parted_more _ _ _ _)

-- ------------------------------------------------------------------ groups, one by one

no_groups : (t : Octets) → length t ≤ 1 → grouped t ≡ []
unfolding groups parted
no_groups [] h = refl
no_groups (a ∷ []) h = refl
no_groups (a ∷ b ∷ t) h = absurd (omega (arith, h))

module _ {text before out : Octets} {at end : ℕ} (t : Octets) (g : Goes text (grouped t) at before end out) where
  pub group_put : {next : ℕ} {after : Octets} → 1 < length t → Puts (hex_digits 4 (get_or t 0 0 * 256 + get_or t 1 0) ++ take (length t / 4) (octets ":")) end out next after
      → Goes text (grouped (take (length t - 2) (drop 2 t))) at before next after
  group_put h p = rw (rest_of t 2) (goes_over _ _ (rw (next_group t h) at g) p)

  pub groups_put : length t ≤ 1 → Puts text at before end out
  groups_put h = goes_ends (rw (no_groups t h) at g)

-- ------------------------------------------------------------------ dotted octets, one by one

-- s is being put, and t is left; an octet put has at most three digits and a dot
pub record Dotting (s t : Octets) (at : ℕ) (before : Octets) (end : ℕ) (out : Octets) : Type 0 where
  pub going : Goes (dotted s) (dotted t) at before end out
  pub short : length (dotted s) + 4 * length t ≤ length (dotted t) + 4 * length s

pub dotting_begins : (s before : Octets) (at : ℕ) → Dotting s s at before at before
dotting_begins s before at = record { going = goes_begins (dotted s) before at; short = omega arith }

no_octets : (t : Octets) → length t ≤ 0 → dotted t ≡ []
unfolding parted
no_octets [] h = refl
no_octets (a ∷ t) h = absurd (omega (arith, h))

dot_short : (n : ℕ) → length (part_of (octets ".") 0 n) ≤ 1
unfolding octets part_of
dot_short n = rw (length-take {A = ℕ} (n - 0) (46 ∷ [])) (omega arith)

module _ {s before out : Octets} {at end : ℕ} (t : Octets) (d : Dotting s t at before end out) where
  pub octet_put : {x next : ℕ} {mark after : Octets} → 0 < length t → x ≡ get_or t 0 0 → x < 256 → mark ≡ part_of (octets ".") 0 (length (take (length t - 1) (drop 1 t)))
      → Puts (decimal x ++ mark) end out next after → Dotting s (take (length t - 1) (drop 1 t)) at before next after
  octet_put {x} h e k f p = rw (rest_of t 1) (record {
    going = goes_over _ _ (rw now at d.going) (rw (f, rest_of t 1) at p);
    short = omega (arith, h, d.short, length-drop 1 t, size, decimal_below 2 x (omega (arith, k)), dot_short (length (drop 1 t)));
  })
    where
      now : dotted t ≡ (decimal x ++ part_of (octets ".") 0 (length (drop 1 t))) ++ dotted (drop 1 t)
      now = rw e (next_octet t h)

      size : length (dotted t) ≡ length (decimal x) + length (part_of (octets ".") 0 (length (drop 1 t))) + length (dotted (drop 1 t))
      size = rw (now, length-append, length-append)

  pub octets_put : length t ≤ 0 → Puts (dotted s) at before end out × (length (dotted s) ≤ 4 * length s)
  octets_put h = (goes_ends (rw (no_octets t h) at d.going), omega (arith, h, d.short, ap length (no_octets t h)))

-- ------------------------------------------------------------------ an address

abbrev mapped : Octets
mapped = 0 ∷ 0 ∷ 0 ∷ 0 ∷ 0 ∷ 0 ∷ 0 ∷ 0 ∷ 0 ∷ 0 ∷ 255 ∷ 255 ∷ []

module _ (source before : Octets) (at : ℕ) {first : Octets} {same : Bool} (e : first ≡ part_of source 0 12) (f : same ≡ same_octets first mapped) where
  mapped_is : same ≡ is_mapped source
  unfolding is_mapped part_of
  mapped_is = f ∙ rw e

  pub of_mapped : same ≡ true → {next : ℕ} {rest after : Octets} → rest ≡ drop 12 source
      → Puts (dotted rest) at before next after × (length (dotted rest) ≤ 4 * length rest)
      → Puts (address source) at before next after × (length (address source) ≤ 21 * length source) × (length source ≤ 16 → length (address source) ≤ 39)
  unfolding address
  of_mapped h {rest = rest} g p =
      let four : length rest ≡ length source - 12 = rw (g, length-drop 12 source) in
      (rw (sym mapped_is ∙ h, ← g) p.0, rw (sym mapped_is ∙ h, ← g) (omega (arith, four, p.1)), λ k. rw (sym mapped_is ∙ h, ← g) (omega (arith, k, four, p.1)))

  pub of_groups : same ≡ false → {next : ℕ} {after : Octets} → Puts (grouped source) at before next after
      → Puts (address source) at before next after × (length (address source) ≤ 21 * length source) × (length source ≤ 16 → length (address source) ≤ 39)
  unfolding address
  of_groups h p = (rw (sym mapped_is ∙ h) p, rw (sym mapped_is ∙ h) (omega (arith, groups_size source)), λ k. rw (sym mapped_is ∙ h) (omega (arith, k, groups_size source)))
