-- Addresses: what is read whole is what Ask 9 writes, both ways.
use mathlib.Core.Path.{◌≡◌, refl, sym, ap, ◌∙◌, subst}
use mathlib.Core.List.{List, [], ◌∷◌, ◌++◌, flatten, append_assoc}
use mathlib.Core.Logic.{◌⊎◌, inl, inr}
use mathlib.Core.Bool.{Bool, true, false, ◌&&◌, ◌||◌, false≢true}
use Prim.Native.Nat.{ℕ, zero, suc, ◌+◌, ◌-◌, ◌*◌, ◌/◌, ◌%◌, ◌≤◌, ◌<◌}
use native.Mathlib.Omega.{arith}
use lib.Dec.{eqb, ltb}
use lib.ListN.{length, length-append}
use borrow.Author.Tests.{eq-eqb, eqb-true, ltb-true, ltb-false}
use Rattle.octets.specs.Octets.{Octets}
use Rattle.octets.specs.Decimal.{decimal}
use Rattle.report.specs.Xml.{after_mark}
use Rattle.report.specs.Xml.{hex_octet, hex_digits}
use Rattle.parsing.specs.Reads.{Reads, done}
use Rattle.parsing.specs.code.Whole.{Whole}
use Rattle.report_form.specs.ReportForm.{Said, mapped, group_octets}
use Rattle.report_form.specs.code.ReportReading.{Kind, either, dotted, grouped, can_be_dotted, can_be_grouped, Address, is_last, last_number, ends_number, next_number, source_of, address_from}
use Rattle.report_form.proofs.TextBack.{both_true}
use Rattle.report_form.proofs.AddressLaws.{free}
use Rattle.report_form.proofs.AddressInto.{cap, hex_one, hex_more}
use Rattle.report_form.proofs.AddressChain.{follows, address_suc, address_zero, source_dotted, source_grouped, next_kind, next_before, AllSmall, dotted_text, dotted_more, AllWords, Unmapped, grouped_text, grouped_more, cap_4}
use Rattle.report_form.proofs.AddressBack.{inv_next, Stop, digits_back}

-- ------------------------------------------------------------------ a group with room for four digits

above : (k y : ℕ) → 16 ≤ y → y < cap (suc k) → 0 < k
unfolding cap
above zero y h i = absurd (omega (arith, h, i))
above (suc k) y h i = omega arith

hex_wide : (m y : ℕ) → 0 < m → y < cap m → hex_digits m y ≡ hex_digits (suc m) y
unfolding cap
hex_wide zero y h i = absurd (omega (arith, h))
hex_wide (suc k) y h i = go (ltb y 16) refl (hex_wide k (y / 16))
  where
    go : (c : Bool) → ltb y 16 ≡ c → (0 < k → y / 16 < cap k → hex_digits k (y / 16) ≡ hex_digits (suc k) (y / 16)) → hex_digits (suc k) y ≡ hex_digits (suc (suc k)) y
    go true e more = hex_one k y (ltb-true y 16 e) ∙ sym (hex_one (suc k) y (ltb-true y 16 e))
    go false e more =
        let big = ltb-false y 16 e in
        hex_more k y big ∙ ap (λ z. z ++ (hex_octet (y % 16) ∷ [])) (more (above k y big i) (omega (arith, i))) ∙ sym (hex_more (suc k) y big)

cap_suc : (n : ℕ) → cap (suc n) ≡ cap n * 16
unfolding cap
cap_suc n = refl

hex_four : (k m y : ℕ) → m + k ≡ 4 → 0 < m → y < cap m → (hex_digits m y ≡ hex_digits 4 y) × (y < cap 4)
hex_four zero m y e h i = let f : m ≡ 4 = omega (arith, e) in (ap (λ n. hex_digits n y) f, subst (λ n. y < cap n) f i)
hex_four (suc k) m y e h i =
    let (p, q) = hex_four k (suc m) y (omega (arith, e)) (omega arith) (wider m i) in
    (hex_wide m y h i ∙ p, q)
  where
    wider : (n : ℕ) → y < cap n → y < cap (suc n)
    wider n j = subst (λ z. y < z) (sym (cap_suc n)) (omega (arith, j))

-- ------------------------------------------------------------------ the mark behind a number

marks : (a : Address) (x : ℕ) → ends_number a x ≡ true
    → (0 < a.digits) × (((eqb x 60 ≡ true) × (is_last a.kind (length a.before) ≡ true)) ⊎ (((eqb x 46 ≡ true) × (can_be_dotted a.kind ≡ true) × (length a.before < 3)) ⊎ ((eqb x 58 ≡ true) × (can_be_grouped a.kind ≡ true) × (length a.before < 7))))
unfolding ends_number
marks a x e =
    let l = length a.before in
    let p = eqb x 60 && is_last a.kind l in
    let q = eqb x 46 && can_be_dotted a.kind && ltb l 3 in
    let r = eqb x 58 && can_be_grouped a.kind && ltb l 7 in
    let (h, i) = both_true (ltb 0 a.digits) (p || q || r) e in (
      ltb-true 0 a.digits h,
      by p q r i (both_true (eqb x 60) (is_last a.kind l))
          (λ z. let (b, c) = both_true (eqb x 46 && can_be_dotted a.kind) (ltb l 3) z in let (d, f) = both_true (eqb x 46) (can_be_dotted a.kind) b in (d, f, ltb-true l 3 c))
          (λ z. let (b, c) = both_true (eqb x 58 && can_be_grouped a.kind) (ltb l 7) z in let (d, f) = both_true (eqb x 58) (can_be_grouped a.kind) b in (d, f, ltb-true l 7 c)),
    )
  where
    by : {A B C : Type 0} (p q r : Bool) → (p || q || r) ≡ true → (p ≡ true → A) → (q ≡ true → B) → (r ≡ true → C) → A ⊎ (B ⊎ C)
    by true q r i f g h = inl (f refl)
    by false true r i f g h = inr (inl (g refl))
    by false false r i f g h = inr (inr (h i))

last_is : (k : Kind) (n : ℕ) → is_last k n ≡ true → ((k ≡ dotted) × (n ≡ 3)) ⊎ ((k ≡ grouped) × (n ≡ 7))
unfolding is_last last_number
last_is either n e = absurd (false≢true e)
last_is dotted n e = inl (refl, eqb-true n 3 e)
last_is grouped n e = inr (refl, eqb-true n 7 e)

-- ------------------------------------------------------------------ numbers to the end

pub record DottedEnd (k : Kind) (before : List ℕ) (s v : Octets) : Type 0 where
  pub can : can_be_dotted k ≡ true
  pub x : ℕ
  pub xs : List ℕ
  pub small : x ≤ 255
  pub smalls : AllSmall xs
  pub size : length before + suc (length xs) ≡ 4
  pub is : s ≡ decimal x ++ (dotted_text xs ++ (60 ∷ []))
  pub value : v ≡ mapped ++ (before ++ (x ∷ xs))

pub record GroupedEnd (k : Kind) (before : List ℕ) (s v : Octets) : Type 0 where
  pub can : can_be_grouped k ≡ true
  pub x : ℕ
  pub xs : List ℕ
  pub small : x < 65536
  pub smalls : AllWords xs
  pub clear : Unmapped before (x ∷ xs)
  pub size : length before + suc (length xs) ≡ 8
  pub is : s ≡ hex_digits 4 x ++ (grouped_text xs ++ (60 ∷ []))
  pub value : v ≡ group_octets (before ++ (x ∷ xs))

unfoldable pub End : Kind → List ℕ → Octets → List Said → Octets → Type 0
End k before s rs v = (rs ≡ []) × (DottedEnd k before s v ⊎ GroupedEnd k before s v)

no_dotted : (xs : List ℕ) → dotted_text [] ++ (60 ∷ []) ≡ 60 ∷ []
unfolding dotted_text after_mark flatten
no_dotted xs = refl

no_grouped : (xs : List ℕ) → grouped_text [] ++ (60 ∷ []) ≡ 60 ∷ []
unfolding grouped_text after_mark flatten
no_grouped xs = refl

eqb_at : (x m : ℕ) → eqb x m ≡ true → eqb m 60 ≡ false → eqb x 60 ≡ false
eqb_at x m e f = ap (λ z. eqb z 60) (eqb-true x m e) ∙ f

module _ (part : Address → ℕ → Reads Said Octets) (k : Kind) (before : List ℕ) (s : Octets) (rs : List Said) (v : Octets) (t : Stop part (next_number k before) [] s rs v) where
  b : Address
  b = t.final

  before_is : b.before ≡ before
  unfolding b
  before_is = t.before ∙ next_before k before

  some : ends_number b t.mark ≡ true → 0 < length t.more
  unfolding b
  some e = omega (arith, (marks t.final t.mark e).0, t.inv.count)

  ten_told : can_be_dotted b.kind ≡ true → (k ≡ b.kind) × (decimal b.ten ≡ t.more) × (b.ten ≤ 255)
  unfolding b
  ten_told c = let (p, q) = t.inv.tens c (some t.ended) in (sym (next_kind k before) ∙ t.turned.stays c, p, q)

  hex_told : can_be_grouped b.kind ≡ true → (can_be_grouped k ≡ true) × (hex_digits 4 b.sixteen ≡ t.more) × (b.sixteen < 65536) × (free before b.sixteen ≡ true)
  unfolding b
  hex_told c =
      let (p, q, f) = t.inv.hexes c (some t.ended) in
      let size = t.size in
      let (w, l) = hex_four (4 - length t.more) (length t.more) b.sixteen (omega (arith, size)) (some t.ended) q in
      (ap can_be_grouped (sym (next_kind k before)) ∙ t.turned.could c, sym w ∙ p, omega (arith, l, cap_4), ap (λ z. free z b.sixteen) (sym before_is) ∙ f)

  ended_dotted : b.kind ≡ dotted → length b.before ≡ 3 → t.mark ≡ 60 → v ≡ source_of b → t.back ≡ [] → DottedEnd k before s v
  unfolding b AllSmall can_be_dotted
  ended_dotted e l m w u =
      let (p, q, r) = ten_told (ap can_be_dotted e) in
      record {
        can = ap can_be_dotted (p ∙ e);
        x = b.ten;
        xs = [];
        small = r;
        smalls = tt;
        size = omega (arith, l, ap length before_is);
        is = t.is ∙ (λ i. sym q i ++ (m i ∷ u i)) ∙ ap (λ z. decimal b.ten ++ z) (sym (no_dotted []));
        value = w ∙ source_dotted b e ∙ ap (λ z. mapped ++ (z ++ (b.ten ∷ []))) before_is;
      }

  ended_grouped : b.kind ≡ grouped → length b.before ≡ 7 → t.mark ≡ 60 → v ≡ source_of b → t.back ≡ [] → GroupedEnd k before s v
  unfolding b AllWords Unmapped can_be_grouped
  ended_grouped e l m w u =
      let (p, q, r, f) = hex_told (ap can_be_grouped e) in
      record {
        can = p;
        x = b.sixteen;
        xs = [];
        small = r;
        smalls = tt;
        clear = (f, tt);
        size = omega (arith, l, ap length before_is);
        is = t.is ∙ (λ i. sym q i ++ (m i ∷ u i)) ∙ ap (λ z. hex_digits 4 b.sixteen ++ z) (sym (no_grouped []));
        value = w ∙ source_grouped b e ∙ ap (λ z. group_octets (z ++ (b.sixteen ∷ []))) before_is;
      }

  -- at `<`
  ended_here : t.mark ≡ 60 → v ≡ source_of b → t.back ≡ [] → rs ≡ [] → End k before s rs v
  unfolding b End
  ended_here m w u z = (z, at (marks b t.mark t.ended).1)
    where
      by_kind : ((b.kind ≡ dotted) × (length b.before ≡ 3)) ⊎ ((b.kind ≡ grouped) × (length b.before ≡ 7)) → DottedEnd k before s v ⊎ GroupedEnd k before s v
      by_kind (inl h) = inl (ended_dotted h.0 h.1 m w u)
      by_kind (inr h) = inr (ended_grouped h.0 h.1 m w u)

      at : ((eqb t.mark 60 ≡ true) × (is_last b.kind (length b.before) ≡ true)) ⊎ (((eqb t.mark 46 ≡ true) × (can_be_dotted b.kind ≡ true) × (length b.before < 3)) ⊎ ((eqb t.mark 58 ≡ true) × (can_be_grouped b.kind ≡ true) × (length b.before < 7)))
          → DottedEnd k before s v ⊎ GroupedEnd k before s v
      at (inl h) = by_kind (last_is b.kind (length b.before) h.1)
      at (inr (inl h)) = absurd (false≢true (sym (eqb_at t.mark 46 h.0 refl) ∙ eq-eqb t.mark 60 m))
      at (inr (inr h)) = absurd (false≢true (sym (eqb_at t.mark 58 h.0 refl) ∙ eq-eqb t.mark 60 m))

  -- behind a `.`
  then_dotted : t.mark ≡ 46 → can_be_dotted b.kind ≡ true → DottedEnd dotted (b.before ++ (b.ten ∷ [])) t.back v → DottedEnd k before s v
  unfolding b AllSmall
  then_dotted m c d =
      let (p, q, r) = ten_told c in
      record {
        can = ap can_be_dotted p ∙ c;
        x = b.ten;
        xs = d.x ∷ d.xs;
        small = r;
        smalls = (d.small, d.smalls);
        size = omega (arith, d.size, length-append b.before (b.ten ∷ []), ap length before_is);
        is = t.is ∙ (λ i. sym q i ++ (m i ∷ d.is i)) ∙ ap (λ z. decimal b.ten ++ z) (sym (dotted_more d.x d.xs));
        value = d.value ∙ ap (λ z. mapped ++ z) (append_assoc b.before (b.ten ∷ []) (d.x ∷ d.xs)) ∙ ap (λ z. mapped ++ (z ++ (b.ten ∷ d.x ∷ d.xs))) before_is;
      }

  -- behind a `:`
  then_grouped : t.mark ≡ 58 → can_be_grouped b.kind ≡ true → GroupedEnd grouped (b.before ++ (b.sixteen ∷ [])) t.back v → GroupedEnd k before s v
  unfolding b AllWords Unmapped
  then_grouped m c d =
      let (p, q, r, f) = hex_told c in
      record {
        can = p;
        x = b.sixteen;
        xs = d.x ∷ d.xs;
        small = r;
        smalls = (d.small, d.smalls);
        clear = (f, subst (λ z. Unmapped (z ++ (b.sixteen ∷ [])) (d.x ∷ d.xs)) before_is d.clear);
        size = omega (arith, d.size, length-append b.before (b.sixteen ∷ []), ap length before_is);
        is = t.is ∙ (λ i. sym q i ++ (m i ∷ d.is i)) ∙ ap (λ z. hex_digits 4 b.sixteen ++ z) (sym (grouped_more d.x d.xs));
        value = d.value ∙ ap group_octets (append_assoc b.before (b.sixteen ∷ []) (d.x ∷ d.xs)) ∙ ap (λ z. group_octets (z ++ (b.sixteen ∷ d.x ∷ d.xs))) before_is;
      }

only_dotted : (before : List ℕ) (s : Octets) (rs : List Said) (v : Octets) → End dotted before s rs v → (rs ≡ []) × DottedEnd dotted before s v
unfolding End can_be_grouped
only_dotted before s rs v (z, inl d) = (z, d)
only_dotted before s rs v (z, inr d) = absurd (false≢true d.can)

only_grouped : (before : List ℕ) (s : Octets) (rs : List Said) (v : Octets) → End grouped before s rs v → (rs ≡ []) × GroupedEnd grouped before s v
unfolding End can_be_dotted
only_grouped before s rs v (z, inl d) = absurd (false≢true d.can)
only_grouped before s rs v (z, inr d) = (z, d)

end_inl : (k : Kind) (before : List ℕ) (s : Octets) (rs : List Said) (v : Octets) → rs ≡ [] → DottedEnd k before s v → End k before s rs v
unfolding End
end_inl k before s rs v z d = (z, inl d)

end_inr : (k : Kind) (before : List ℕ) (s : Octets) (rs : List Said) (v : Octets) → rs ≡ [] → GroupedEnd k before s v → End k before s rs v
unfolding End
end_inr k before s rs v z d = (z, inr d)

abbrev IsEither : Kind → Type 0
IsEither either = Unit
IsEither dotted = ⊥
IsEither grouped = ⊥

follows_dot : (n : ℕ) (a : Address) (x : ℕ) → eqb x 46 ≡ true → follows n a x ≡ address_from n (next_number dotted (a.before ++ (a.ten ∷ [])))
unfolding follows
follows_dot n a x e = rw (e, follows)

follows_colon : (n : ℕ) (a : Address) (x : ℕ) → eqb x 46 ≡ false → follows n a x ≡ address_from n (next_number grouped (a.before ++ (a.sixteen ∷ [])))
unfolding follows
follows_colon n a x e = rw (e, follows)

pub address_back : (n : ℕ) (k : Kind) (before : List ℕ) (s : Octets) (rs : List Said) (v : Octets) → (k ≡ either → before ≡ []) → length before + n ≡ 7 → Whole {R = Said} (address_from n (next_number k before)) s rs v → End k before s rs v
unfolding b
address_back zero k before s rs v h l w = go t.goes_on
  where
    t : Stop (λ b x. done []) (next_number k before) [] s rs v
    t = digits_back (λ b x. done []) 4 (next_number k before) [] s rs v (inv_next k before h) refl (subst (λ z. Whole z s rs v) (address_zero (next_number k before)) w)

    full : length t.final.before ≡ 7
    full = omega (arith, ap length (before_is (λ b x. done []) k before s rs v t), l)

    none : ((eqb t.mark 60 ≡ true) × (is_last t.final.kind (length t.final.before) ≡ true)) ⊎ (((eqb t.mark 46 ≡ true) × (can_be_dotted t.final.kind ≡ true) × (length t.final.before < 3)) ⊎ ((eqb t.mark 58 ≡ true) × (can_be_grouped t.final.kind ≡ true) × (length t.final.before < 7)))
        → eqb t.mark 60 ≡ false → ⊥
    none (inl p) f = false≢true (sym f ∙ p.0)
    none (inr (inl p)) f = absurd (omega (arith, full, p.2))
    none (inr (inr p)) f = absurd (omega (arith, full, p.2))

    go : ((t.mark ≡ 60) × (v ≡ source_of t.final) × (t.back ≡ []) × (rs ≡ [])) ⊎ ((eqb t.mark 60 ≡ false) × Whole {R = Said} (done []) t.back rs v) → End k before s rs v
    go (inl p) = ended_here (λ b x. done []) k before s rs v t p.0 p.1 p.2 p.3
    go (inr p) = absurd (none (marks t.final t.mark t.ended).1 p.0)
address_back (suc n) k before s rs v h l w = go (λ j c u. address_back n j c u rs v) t.goes_on
  where
    t : Stop (follows n) (next_number k before) [] s rs v
    t = digits_back (follows n) 4 (next_number k before) [] s rs v (inv_next k before h) refl (subst (λ z. Whole z s rs v) (address_suc n (next_number k before)) w)

    c : Address
    c = t.final

    same : c.before ≡ before
    same = before_is (follows n) k before s rs v t

    Again : Type 0
    Again = (j : Kind) (d : List ℕ) (u : Octets) → (j ≡ either → d ≡ []) → length d + n ≡ 7 → Whole {R = Said} (address_from n (next_number j d)) u rs v → End j d u rs v

    at : Again → Whole {R = Said} (follows n c t.mark) t.back rs v → eqb t.mark 60 ≡ false
        → ((eqb t.mark 60 ≡ true) × (is_last c.kind (length c.before) ≡ true)) ⊎ (((eqb t.mark 46 ≡ true) × (can_be_dotted c.kind ≡ true) × (length c.before < 3)) ⊎ ((eqb t.mark 58 ≡ true) × (can_be_grouped c.kind ≡ true) × (length c.before < 7)))
        → End k before s rs v
    at again p f (inl q) = absurd (false≢true (sym f ∙ q.0))
    at again p f (inr (inl q)) =
        let (z, d) = only_dotted (c.before ++ (c.ten ∷ [])) t.back rs v (again dotted (c.before ++ (c.ten ∷ [])) t.back (λ e. absurd (subst IsEither (sym e) tt)) (omega (arith, l, ap length same, length-append c.before (c.ten ∷ [])))
        (subst (λ y. Whole y t.back rs v) (follows_dot n c t.mark q.0) p)) in
        end_inl k before s rs v z (then_dotted (follows n) k before s rs v t (eqb-true t.mark 46 q.0) q.1 d)
    at again p f (inr (inr q)) =
        let (z, d) = only_grouped (c.before ++ (c.sixteen ∷ [])) t.back rs v (again grouped (c.before ++ (c.sixteen ∷ [])) t.back (λ e. absurd (subst IsEither (sym e) tt)) (omega (arith, l, ap length same, length-append c.before (c.sixteen ∷ [])))
        (subst (λ y. Whole y t.back rs v) (follows_colon n c t.mark (ap (λ y. eqb y 46) (eqb-true t.mark 58 q.0))) p)) in
        end_inr k before s rs v z (then_grouped (follows n) k before s rs v t (eqb-true t.mark 58 q.0) q.1 d)

    go : Again → ((t.mark ≡ 60) × (v ≡ source_of c) × (t.back ≡ []) × (rs ≡ [])) ⊎ ((eqb t.mark 60 ≡ false) × Whole {R = Said} (follows n c t.mark) t.back rs v) → End k before s rs v
    go again (inl p) = ended_here (follows n) k before s rs v t p.0 p.1 p.2 p.3
    go again (inr p) = at again p.1 p.0 (marks c t.mark t.ended).1
