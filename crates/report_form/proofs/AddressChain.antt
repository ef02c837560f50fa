-- Numbers one after another: addresses as Ask 9 writes them are read whole.
use mathlib.Core.Path.{◌≡◌, refl, sym, ap, ◌∙◌, subst}
use mathlib.Core.List.{List, [], ◌∷◌, ◌++◌, map, flatten, append_assoc}
use mathlib.Core.Bool.{Bool, true, false}
use Prim.Native.Nat.{ℕ, zero, suc, ◌+◌, ◌-◌, ◌/◌, ◌%◌, ◌≤◌, ◌<◌}
use native.Mathlib.Omega.{arith}
use lib.Dec.{eqb, ltb}
use lib.ListN.{length, length-append}
use borrow.Author.Tests.{eq-eqb, ltb-true, ltb-false}
use Rattle.octets.specs.Octets.{Octets, octets}
use Rattle.octets.specs.Decimal.{decimal}
use Rattle.octets.proofs.DecimalLaws.{length_one, length_more}
use Rattle.report.specs.Xml.{after_mark}
use Rattle.report.specs.Xml.{hex_octet, hex_digits}
use Rattle.parsing.specs.Reads.{Reads, done}
use Rattle.parsing.specs.code.Whole.{Whole}
use Rattle.report_form.specs.ReportForm.{Said, mapped, group_octets}
use Rattle.report_form.specs.code.ReportReading.{Kind, dotted, grouped, can_be_dotted, can_be_grouped, Address, is_last, last_number, ends_number, next_number, source_of, digits_from, address_from}
use Rattle.report_form.proofs.LiveLaws.{end_colon, end_dot, end_whole}
use Rattle.report_form.proofs.AddressLaws.{free, end_mark, end_part}
use Rattle.report_form.proofs.AddressInto.{fresh_next, Over, AtTen, read_ten, AtHex, read_hex, cap}

-- what a `.` or `:` leads to
unfoldable pub follows : ℕ → Address → ℕ → Reads Said Octets
follows n b x = elim (eqb x 46) as (λ _. Reads Said Octets) [
  | true ↦ address_from n (next_number dotted (b.before ++ (b.ten ∷ [])))
  | false ↦ address_from n (next_number grouped (b.before ++ (b.sixteen ∷ [])))
]

pub address_suc : (n : ℕ) (a : Address) → address_from {R = Said} (suc n) a ≡ digits_from 4 (follows n) a
unfolding address_from follows
address_suc n a = refl

pub source_dotted : (a : Address) → a.kind ≡ dotted → source_of a ≡ mapped ++ (a.before ++ (a.ten ∷ []))
unfolding source_of
source_dotted a e = rw (e, source_of) (append_assoc mapped a.before (a.ten ∷ []))

pub source_grouped : (a : Address) → a.kind ≡ grouped → source_of a ≡ group_octets (a.before ++ (a.sixteen ∷ []))
unfolding source_of
source_grouped a e = rw (e, source_of)

pub next_kind : (k : Kind) (before : List ℕ) → (next_number k before).kind ≡ k
unfolding next_number
next_kind k before = refl

pub next_before : (k : Kind) (before : List ℕ) → (next_number k before).before ≡ before
unfolding next_number
next_before k before = refl

pub last_dotted : (n : ℕ) → n ≡ 3 → is_last dotted n ≡ true
unfolding is_last last_number
last_dotted n e = eq-eqb n 3 e

pub last_grouped : (n : ℕ) → n ≡ 7 → is_last grouped n ≡ true
unfolding is_last last_number
last_grouped n e = eq-eqb n 7 e

-- ------------------------------------------------------------------ dotted

few_tens : (x : ℕ) → x ≤ 255 → length (decimal x) ≤ 3
few_tens x h = go (ltb x 10) refl (ltb x 100) refl
  where
    go : (b : Bool) → ltb x 10 ≡ b → (c : Bool) → ltb x 100 ≡ c → length (decimal x) ≤ 3
    go true e c f = omega (arith, length_one x (ltb-true x 10 e))
    go false e true f = omega (arith, length_more x (ltb-false x 10 e), length_one (x / 10) (omega (arith, ltb-true x 100 f)))
    go false e false f =
        let big = ltb-false x 100 f in
        omega (arith, length_more x (ltb-false x 10 e), length_more (x / 10) (omega (arith, big)), length_one (x / 10 / 10) (omega (arith, h)))

unfoldable pub AllSmall : List ℕ → Type 0
AllSmall [] = Unit
AllSmall (x ∷ xs) = (x ≤ 255) × AllSmall xs

unfoldable pub dotted_text : List ℕ → Octets
dotted_text xs = after_mark (octets ".") (map decimal xs)

pub dotted_more : (y : ℕ) (ys : List ℕ) → dotted_text (y ∷ ys) ++ (60 ∷ []) ≡ 46 ∷ (decimal y ++ (dotted_text ys ++ (60 ∷ [])))
unfolding dotted_text after_mark flatten octets
dotted_more y ys = ap (λ z. 46 ∷ z) (append_assoc (decimal y) (flatten (map (λ t. octets "." ++ t) (map decimal ys))) (60 ∷ []))

module _ (n : ℕ) (k : Kind) (before : List ℕ) (x : ℕ) (small : x ≤ 255) (can : can_be_dotted k ≡ true) where
  start : Address
  start = next_number k before

  read_it : (b : Address) × AtTen start b x × Over (follows n) start b (decimal x)
  unfolding start
  read_it = read_ten (follows n) x x (omega arith) small (next_number k before) (fresh_next k before) (ap can_be_dotted (next_kind k before) ∙ can)

  -- from its last digit on
  over_it : (rest : Octets) (rs : List Said) (v : Octets) → Whole (digits_from (4 - length (decimal x)) (follows n) read_it.0) rest rs v → Whole {R = Said} (address_from (suc n) (next_number k before)) (decimal x ++ rest) rs v
  unfolding start Over
  over_it rest rs v w =
      let few = few_tens x small in
      let count : length (decimal x) + (4 - length (decimal x)) ≡ 4 = omega (arith, few) in
      subst (λ t. Whole t (decimal x ++ rest) rs v) (sym (address_suc n (next_number k before)))
      (subst (λ m. Whole (digits_from m (follows n) (next_number k before)) (decimal x ++ rest) rs v) count (read_it.2 (4 - length (decimal x)) rest rs v w))

  last_ten : k ≡ dotted → length before ≡ 3 → Whole {R = Said} (address_from (suc n) (next_number k before)) (decimal x ++ (60 ∷ [])) [] (mapped ++ (before ++ (x ∷ [])))
  unfolding start
  last_ten e h =
      let b = read_it.0 in
      let p = read_it.1 in
      let kind : b.kind ≡ dotted = p.kind_stays ∙ next_kind k before ∙ e in
      let same : b.before ≡ before = p.before_stays ∙ next_before k before in
      let end : ends_number b 60 ≡ true = end_whole b p.some (ap (λ z. is_last z (length b.before)) kind ∙ last_dotted (length b.before) (ap length same ∙ h)) in
      subst (Whole {R = Said} (address_from (suc n) (next_number k before)) (decimal x ++ (60 ∷ [])) [])
      (source_dotted b kind ∙ (λ i. mapped ++ (same i ++ (p.ten_is i ∷ []))))
      (over_it (60 ∷ []) [] (source_of b) (end_mark (follows n) (4 - length (decimal x)) b end))

  next_ten : (u : Octets) (rs : List Said) (v : Octets) → length before < 3 → Whole {R = Said} (address_from n (next_number dotted (before ++ (x ∷ [])))) u rs v → Whole {R = Said} (address_from (suc n) (next_number k before)) (decimal x ++ (46 ∷ u)) rs v
  unfolding start follows
  next_ten u rs v h w =
      let b = read_it.0 in
      let p = read_it.1 in
      let kind : can_be_dotted b.kind ≡ true = ap can_be_dotted (p.kind_stays ∙ next_kind k before) ∙ can in
      let same : b.before ≡ before = p.before_stays ∙ next_before k before in
      let list : before ++ (x ∷ []) ≡ b.before ++ (b.ten ∷ []) = (λ i. sym same i ++ (sym p.ten_is i ∷ [])) in
      over_it (46 ∷ u) rs v (end_part (follows n) (4 - length (decimal x)) b 46 u rs v refl (end_dot b p.some kind (omega (arith, h, ap length same)))
      (subst (λ l. Whole {R = Said} (address_from n (next_number dotted l)) u rs v) list w))

pub dotted_whole : (xs : List ℕ) (n : ℕ) (k : Kind) (before : List ℕ) (x : ℕ) → x ≤ 255 → AllSmall xs → can_be_dotted k ≡ true → (length xs ≡ 0 → k ≡ dotted) → length before + suc (length xs) ≡ 4 → length before + n ≡ 7
    → Whole {R = Said} (address_from n (next_number k before)) (decimal x ++ (dotted_text xs ++ (60 ∷ []))) [] (mapped ++ (before ++ (x ∷ xs)))
unfolding AllSmall can_be_dotted dotted_text after_mark flatten
dotted_whole xs zero k before x s a c e l m = absurd (omega (arith, l, m))
dotted_whole [] (suc n) k before x s a c e l m = last_ten n k before x s c (e refl) (omega (arith, l))
dotted_whole (y ∷ ys) (suc n) k before x s a c e l m =
    let more = dotted_whole ys n dotted (before ++ (x ∷ [])) y a.0 a.1 refl (λ _. refl) (omega (arith, l, length-append before (x ∷ []))) (omega (arith, m, length-append before (x ∷ []))) in
    let u = decimal y ++ (dotted_text ys ++ (60 ∷ [])) in
    let value : mapped ++ ((before ++ (x ∷ [])) ++ (y ∷ ys)) ≡ mapped ++ (before ++ (x ∷ y ∷ ys)) = ap (λ z. mapped ++ z) (append_assoc before (x ∷ []) (y ∷ ys)) in
    subst (λ z. Whole {R = Said} (address_from (suc n) (next_number k before)) (decimal x ++ z) [] (mapped ++ (before ++ (x ∷ y ∷ ys)))) (sym (dotted_more y ys))
    (subst (Whole {R = Said} (address_from (suc n) (next_number k before)) (decimal x ++ (46 ∷ u)) []) value (next_ten n k before x s c u [] (mapped ++ ((before ++ (x ∷ [])) ++ (y ∷ ys))) (omega (arith, l)) more))

-- ------------------------------------------------------------------ groups

few_hex : (n x : ℕ) → length (hex_digits n x) ≤ n
unfolding hex_digits
few_hex zero x = omega arith
few_hex (suc n) x = go (ltb x 16) refl (few_hex n (x / 16))
  where
    go : (b : Bool) → ltb x 16 ≡ b → length (hex_digits n (x / 16)) ≤ n → length (hex_digits (suc n) x) ≤ suc n
    go true e h = rw (e, hex_digits) (omega arith)
    go false e h = rw (e, hex_digits) (omega (arith, h, length-append (hex_digits n (x / 16)) (hex_octet (x % 16) ∷ [])))

unfoldable pub AllWords : List ℕ → Type 0
AllWords [] = Unit
AllWords (x ∷ xs) = (x < 65536) × AllWords xs

-- no mapped address comes of them
unfoldable pub Unmapped : List ℕ → List ℕ → Type 0
Unmapped before [] = Unit
Unmapped before (x ∷ xs) = (free before x ≡ true) × Unmapped (before ++ (x ∷ [])) xs

unfoldable pub grouped_text : List ℕ → Octets
grouped_text xs = after_mark (octets ":") (map (hex_digits 4) xs)

pub grouped_more : (y : ℕ) (ys : List ℕ) → grouped_text (y ∷ ys) ++ (60 ∷ []) ≡ 58 ∷ (hex_digits 4 y ++ (grouped_text ys ++ (60 ∷ [])))
unfolding grouped_text after_mark flatten octets
grouped_more y ys = ap (λ z. 58 ∷ z) (append_assoc (hex_digits 4 y) (flatten (map (λ t. octets ":" ++ t) (map (hex_digits 4) ys))) (60 ∷ []))

pub cap_4 : cap 4 ≡ 65536
unfolding cap
cap_4 = refl

module _ (n : ℕ) (part : Address → ℕ → Reads Said Octets) (whole : (a : Address) → address_from n a ≡ digits_from 4 part a) (k : Kind) (before : List ℕ) (x : ℕ) (small : x < 65536) (can : can_be_grouped k ≡ true) (clear : free before x ≡ true) where
  read_group : (b : Address) × AtHex (next_number k before) b x × Over part (next_number k before) b (hex_digits 4 x)
  read_group = read_hex part 4 x (omega arith) (omega (arith, small, cap_4)) small (next_number k before) (fresh_next k before) (ap can_be_grouped (next_kind k before) ∙ can) (ap (λ z. free z x) (next_before k before) ∙ clear)

  over_group : (rest : Octets) (rs : List Said) (v : Octets) → Whole (digits_from (4 - length (hex_digits 4 x)) part read_group.0) rest rs v → Whole {R = Said} (address_from n (next_number k before)) (hex_digits 4 x ++ rest) rs v
  unfolding Over
  over_group rest rs v w =
      let few = few_hex 4 x in
      let count : length (hex_digits 4 x) + (4 - length (hex_digits 4 x)) ≡ 4 = omega (arith, few) in
      subst (λ t. Whole t (hex_digits 4 x ++ rest) rs v) (sym (whole (next_number k before)))
      (subst (λ m. Whole (digits_from m part (next_number k before)) (hex_digits 4 x ++ rest) rs v) count (read_group.2 (4 - length (hex_digits 4 x)) rest rs v w))

  last_group : k ≡ grouped → length before ≡ 7 → Whole {R = Said} (address_from n (next_number k before)) (hex_digits 4 x ++ (60 ∷ [])) [] (group_octets (before ++ (x ∷ [])))
  last_group e h =
      let b = read_group.0 in
      let p = read_group.1 in
      let kind : b.kind ≡ grouped = p.kind_kept (next_kind k before ∙ e) in
      let same : b.before ≡ before = p.before_same ∙ next_before k before in
      let end : ends_number b 60 ≡ true = end_whole b p.some_hex (ap (λ z. is_last z (length b.before)) kind ∙ last_grouped (length b.before) (ap length same ∙ h)) in
      subst (Whole {R = Said} (address_from n (next_number k before)) (hex_digits 4 x ++ (60 ∷ [])) [])
      (source_grouped b kind ∙ (λ i. group_octets (same i ++ (p.hex_is i ∷ []))))
      (over_group (60 ∷ []) [] (source_of b) (end_mark part (4 - length (hex_digits 4 x)) b end))

  next_group : (u : Octets) (rs : List Said) (v : Octets) → length before < 7 → ((b : Address) → b.before ≡ before → b.sixteen ≡ x → Whole (part b 58) u rs v) → Whole {R = Said} (address_from n (next_number k before)) (hex_digits 4 x ++ (58 ∷ u)) rs v
  next_group u rs v h w =
      let b = read_group.0 in
      let p = read_group.1 in
      let same : b.before ≡ before = p.before_same ∙ next_before k before in
      over_group (58 ∷ u) rs v (end_part part (4 - length (hex_digits 4 x)) b 58 u rs v refl (end_colon b p.some_hex p.kind_can (omega (arith, h, ap length same))) (w b same p.hex_is))

pub address_zero : (a : Address) → address_from {R = Said} zero a ≡ digits_from 4 (λ b x. done []) a
unfolding address_from
address_zero a = refl

pub grouped_whole : (xs : List ℕ) (n : ℕ) (k : Kind) (before : List ℕ) (x : ℕ) → x < 65536 → AllWords xs → Unmapped before (x ∷ xs) → can_be_grouped k ≡ true → (length xs ≡ 0 → k ≡ grouped) → length before + suc (length xs) ≡ 8 → length before + n ≡ 7
    → Whole {R = Said} (address_from n (next_number k before)) (hex_digits 4 x ++ (grouped_text xs ++ (60 ∷ []))) [] (group_octets (before ++ (x ∷ xs)))
unfolding AllWords Unmapped can_be_grouped follows grouped_text after_mark flatten
grouped_whole [] zero k before x s a f c e l m = last_group zero (λ b x. done []) address_zero k before x s c f.0 (e refl) (omega (arith, l))
grouped_whole [] (suc n) k before x s a f c e l m = absurd (omega (arith, l, m))
grouped_whole (y ∷ ys) zero k before x s a f c e l m = absurd (omega (arith, l, m))
grouped_whole (y ∷ ys) (suc n) k before x s a f c e l m =
    let more = grouped_whole ys n grouped (before ++ (x ∷ [])) y a.0 a.1 f.1 refl (λ _. refl) (omega (arith, l, length-append before (x ∷ []))) (omega (arith, m, length-append before (x ∷ []))) in
    let u = hex_digits 4 y ++ (grouped_text ys ++ (60 ∷ [])) in
    let value : group_octets ((before ++ (x ∷ [])) ++ (y ∷ ys)) ≡ group_octets (before ++ (x ∷ y ∷ ys)) = ap group_octets (append_assoc before (x ∷ []) (y ∷ ys)) in
    subst (λ z. Whole {R = Said} (address_from (suc n) (next_number k before)) (hex_digits 4 x ++ z) [] (group_octets (before ++ (x ∷ y ∷ ys)))) (sym (grouped_more y ys))
    (subst (Whole {R = Said} (address_from (suc n) (next_number k before)) (hex_digits 4 x ++ (58 ∷ u)) []) value
    (next_group (suc n) (follows n) (address_suc n) k before x s c f.0 u [] (group_octets ((before ++ (x ∷ [])) ++ (y ∷ ys))) (omega (arith, l))
    (λ b p q. subst (λ z. Whole {R = Said} (address_from n (next_number grouped z)) u [] (group_octets ((before ++ (x ∷ [])) ++ (y ∷ ys)))) (λ i. sym p i ++ (sym q i ∷ [])) more)))
