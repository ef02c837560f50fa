-- An address that is read is one that Ask 9 writes.
use mathlib.Core.Path.{◌≡◌, refl, sym, ap, ◌∙◌, subst}
use mathlib.Core.List.{List, [], ◌∷◌, ◌++◌, append_assoc, append-nil}
use mathlib.Core.Logic.{◌⊎◌, inl, inr}
use mathlib.Core.Bool.{Bool, true, false, ◌||◌, false≢true}
use Prim.Native.Nat.{ℕ, zero, suc, ◌+◌, ◌*◌, ◌/◌, ◌%◌, ◌≤◌, ◌<◌}
use native.Mathlib.Omega.{arith}
use lib.Dec.{eqb}
use lib.ListN.{length, length-append}
use borrow.Author.Tests.{eqb-true}
use Rattle.octets.specs.Octets.{Octets, same}
use Rattle.octets.specs.Decimal.{decimal}
use Rattle.octets.proofs.DecimalLaws.{decimal_one, decimal_more}
use Rattle.report.specs.Xml.{hex_octet, hex_digits}
use Rattle.parsing.specs.Reads.{Reads, done}
use Rattle.parsing.specs.code.Whole.{Whole}
use Rattle.report_form.specs.ReportForm.{Said}
use Rattle.report_form.specs.code.ReportReading.{Kind, either, dotted, grouped, can_be_dotted, can_be_grouped, Address, digit_value, lower_hex as hex_digit, only_zero, goes_on_dotted, goes_on_grouped, ends_number, with_digit, next_number, source_of, digits_from}
use Rattle.report_form.proofs.WholeLaws.{octet_whole}
use Rattle.report_form.proofs.Telling.{done_whole}
use Rattle.report_form.proofs.AddressLaws.{free, dotted_on, grouped_on, some_digit, hex_back, digit_back, digit_hex, mark_60}
use Rattle.report_form.proofs.AddressInto.{Zeros, zeros_more, zeros_sixteen, cap, with_before, with_digits, with_ten, with_sixteen, hex_one, hex_more}

-- ------------------------------------------------------------------ what is known of an open number

pub record Inv (a : Address) (ds : Octets) : Type 0 where
  pub count : a.digits ≡ length ds
  pub fresh : length ds ≡ 0 → (a.ten ≡ 0) × (a.sixteen ≡ 0)
  pub zeros : Zeros a
  pub start : a.kind ≡ either → a.before ≡ []
  pub tens : can_be_dotted a.kind ≡ true → 0 < length ds → (decimal a.ten ≡ ds) × (a.ten ≤ 255)
  pub hexes : can_be_grouped a.kind ≡ true → 0 < length ds → (hex_digits (length ds) a.sixteen ≡ ds) × (a.sixteen < cap (length ds)) × (free a.before a.sixteen ≡ true)

positive : (n : ℕ) → (n ≡ 0 → ⊥) → 0 < n
positive zero h = absurd (h refl)
positive (suc n) h = omega arith

nonzero : (a : Address) (ds : Octets) → Inv a ds → 0 < length ds → only_zero a ≡ false → (0 < a.ten) × (0 < a.sixteen)
nonzero a ds i h z =
    let s = some_digit a (omega (arith, i.count, h)) z in
    (positive a.ten (λ t. s (zeros_sixteen a i.zeros t)), positive a.sixteen s)

tens_more : (a : Address) (ds : Octets) (x : ℕ) → Inv a ds → goes_on_dotted a x ≡ true → (decimal (a.ten * 10 + digit_value x) ≡ ds ++ (x ∷ [])) × (a.ten * 10 + digit_value x ≤ 255)
tens_more a [] x i e =
    let (can, dig, oz, le) = dotted_on a x e in
    let (is, d) = digit_back x dig in
    let v : a.ten * 10 + digit_value x ≡ digit_value x = omega (arith, (i.fresh refl).0) in
    (ap decimal v ∙ decimal_one (digit_value x) d ∙ ap (λ z. z ∷ []) (sym is), le)
tens_more a (c ∷ cs) x i e =
    let (can, dig, oz, le) = dotted_on a x e in
    let (is, d) = digit_back x dig in
    let (p, q) = nonzero a (c ∷ cs) i (omega arith) oz in
    let v = a.ten * 10 + digit_value x in
    let j : v / 10 ≡ a.ten = omega (arith, d) in
    let k : v % 10 ≡ digit_value x = omega (arith, d) in
    (decimal_more v (omega (arith, p)) ∙ (λ m. (ap decimal j ∙ (i.tens can (omega arith)).0) m ++ ((ap (λ z. 48 + z) k ∙ sym is) m ∷ [])), le)

hexes_more : (a : Address) (ds : Octets) (x : ℕ) → Inv a ds → can_be_grouped a.kind ≡ true → hex_digit x ≡ true → only_zero a ≡ false
    → (hex_digits (suc (length ds)) (a.sixteen * 16 + digit_value x) ≡ ds ++ (x ∷ [])) × (a.sixteen * 16 + digit_value x < cap (suc (length ds)))
unfolding cap
hexes_more a [] x i can h oz =
    let (is, d) = hex_back x h in
    let v : a.sixteen * 16 + digit_value x ≡ digit_value x = omega (arith, (i.fresh refl).1) in
    (ap (hex_digits 1) v ∙ hex_one 0 (digit_value x) d ∙ ap (λ z. z ∷ []) is, omega (arith, v, d))
hexes_more a (c ∷ cs) x i can h oz =
    let (is, d) = hex_back x h in
    let (p, q) = nonzero a (c ∷ cs) i (omega arith) oz in
    let v = a.sixteen * 16 + digit_value x in
    let j : v / 16 ≡ a.sixteen = omega (arith, d) in
    let k : v % 16 ≡ digit_value x = omega (arith, d) in
    let (t, b, f) = i.hexes can (omega arith) in
    (hex_more (length (c ∷ cs)) v (omega (arith, q)) ∙ (λ m. (ap (hex_digits (length (c ∷ cs))) j ∙ t) m ++ ((ap hex_octet k ∙ is) m ∷ [])), omega (arith, b, d))

one_longer : (ds : Octets) (x : ℕ) → length (ds ++ (x ∷ [])) ≡ suc (length ds)
one_longer ds x = omega (arith, length-append ds (x ∷ []))

empty_free : (before : List ℕ) (g : ℕ) → before ≡ [] → free before g ≡ true
unfolding free same
empty_free before g e = ap (λ b. free b g) e

is_either : (k : Kind) → can_be_dotted k ≡ true → can_be_grouped k ≡ true → k ≡ either
unfolding can_be_dotted can_be_grouped
is_either either e f = refl
is_either dotted e f = absurd (false≢true f)
is_either grouped e f = absurd (false≢true e)

-- the kind behind a digit
with_kind_on : (a : Address) (x : ℕ) → goes_on_dotted a x ≡ true → (with_digit a x).kind ≡ a.kind
unfolding with_digit
with_kind_on a x e = rw e

with_kind_off : (a : Address) (x : ℕ) → goes_on_dotted a x ≡ false → (with_digit a x).kind ≡ grouped
unfolding with_digit
with_kind_off a x e = rw e

not_dotted : (k : Kind) → k ≡ grouped → can_be_dotted k ≡ true → ⊥
unfolding can_be_dotted
not_dotted k e f = false≢true (ap can_be_dotted (sym e) ∙ f)

abbrev IsEither : Kind → Type 0
IsEither either = Unit
IsEither dotted = ⊥
IsEither grouped = ⊥

grouped≢either : (k : Kind) → k ≡ grouped → k ≡ either → ⊥
grouped≢either k e f = subst IsEither (sym f ∙ e) tt

pub inv_more : (a : Address) (ds : Octets) (x : ℕ) → Inv a ds → (goes_on_dotted a x ≡ true) ⊎ (goes_on_grouped a x ≡ true) → Inv (with_digit a x) (ds ++ (x ∷ []))
inv_more a ds x i g = go (goes_on_dotted a x) refl g
  where
    b : Address
    b = with_digit a x

    hexes_of : can_be_grouped a.kind ≡ true → hex_digit x ≡ true → only_zero a ≡ false → free a.before (a.sixteen * 16 + digit_value x) ≡ true
        → (hex_digits (length (ds ++ (x ∷ []))) b.sixteen ≡ ds ++ (x ∷ [])) × (b.sixteen < cap (length (ds ++ (x ∷ [])))) × (free b.before b.sixteen ≡ true)
    hexes_of can h oz f =
        let (p, q) = hexes_more a ds x i can h oz in
        subst (λ n. (hex_digits n b.sixteen ≡ ds ++ (x ∷ [])) × (b.sixteen < cap n) × (free b.before b.sixteen ≡ true)) (sym (one_longer ds x))
        (subst (λ v. (hex_digits (suc (length ds)) v ≡ ds ++ (x ∷ [])) × (v < cap (suc (length ds))) × (free b.before v ≡ true)) (sym (with_sixteen a x))
        (p, q, ap (λ z. free z (a.sixteen * 16 + digit_value x)) (with_before a x) ∙ f))

    counted : b.digits ≡ length (ds ++ (x ∷ []))
    counted = omega (arith, with_digits a x, i.count, one_longer ds x)

    go : (c : Bool) → goes_on_dotted a x ≡ c → (goes_on_dotted a x ≡ true) ⊎ (goes_on_grouped a x ≡ true) → Inv b (ds ++ (x ∷ []))
    go true e h =
        let (can, dig, oz, le) = dotted_on a x e in
        let k = with_kind_on a x e in
        let (p, q) = tens_more a ds x i e in
        record {
          count = counted;
          fresh = λ z. absurd (omega (arith, z, one_longer ds x));
          zeros = zeros_more a x i.zeros;
          start = λ z. with_before a x ∙ i.start (sym k ∙ z);
          tens = λ _ _. subst (λ v. (decimal v ≡ ds ++ (x ∷ [])) × (v ≤ 255)) (sym (with_ten a x)) (p, q);
          hexes = λ c _.
              let cg : can_be_grouped a.kind ≡ true = ap can_be_grouped (sym k) ∙ c in
              hexes_of cg (digit_hex x dig) oz (empty_free a.before (a.sixteen * 16 + digit_value x) (i.start (is_either a.kind can cg)));
        }
    go false e (inl h) = absurd (false≢true (sym e ∙ h))
    go false e (inr h) =
        let (can, hex, oz, f) = grouped_on a x h in
        let k = with_kind_off a x e in
        record {
          count = counted;
          fresh = λ z. absurd (omega (arith, z, one_longer ds x));
          zeros = zeros_more a x i.zeros;
          start = λ z. absurd (grouped≢either b.kind k z);
          tens = λ c _. absurd (not_dotted b.kind k c);
          hexes = λ _ _. hexes_of can hex oz f;
        }

pub inv_next : (k : Kind) (before : List ℕ) → (k ≡ either → before ≡ []) → Inv (next_number k before) []
unfolding next_number Zeros
inv_next k before h = record {
  count = refl;
  fresh = λ _. (refl, refl);
  zeros = (λ e. e, λ e. e);
  start = h;
  tens = λ _ z. absurd (omega (arith, z));
  hexes = λ _ z. absurd (omega (arith, z));
}

-- ------------------------------------------------------------------ the digits of a number, and the mark after them

-- how the kind of an open address can turn out
pub record Turned (k l : Kind) : Type 0 where
  pub stays : can_be_dotted l ≡ true → k ≡ l
  pub could : can_be_grouped l ≡ true → can_be_grouped k ≡ true

turned_self : (k : Kind) → Turned k k
turned_self k = record { stays = λ _. refl; could = λ e. e }

turned_more : (a : Address) (x : ℕ) (l : Kind) → (goes_on_dotted a x ≡ true) ⊎ (goes_on_grouped a x ≡ true) → Turned (with_digit a x).kind l → Turned a.kind l
turned_more a x l g t = go (goes_on_dotted a x) refl g
  where
    go : (c : Bool) → goes_on_dotted a x ≡ c → (goes_on_dotted a x ≡ true) ⊎ (goes_on_grouped a x ≡ true) → Turned a.kind l
    go true e h = subst (λ z. Turned z l) (with_kind_on a x e) t
    go false e (inl h) = absurd (false≢true (sym e ∙ h))
    go false e (inr h) = record {
      stays = λ z. absurd (not_dotted l (sym (t.stays z) ∙ with_kind_off a x e) z);
      could = λ _. (grouped_on a x h).0;
    }

pub record Stop (part : Address → ℕ → Reads Said Octets) (a : Address) (ds s : Octets) (rs : List Said) (v : Octets) : Type 0 where
  pub final : Address
  pub more : Octets
  pub inv : Inv final (ds ++ more)
  pub size : length (ds ++ more) ≤ 4
  pub before : final.before ≡ a.before
  pub turned : Turned a.kind final.kind
  pub mark : ℕ
  pub back : Octets
  pub is : s ≡ more ++ (mark ∷ back)
  pub ended : ends_number final mark ≡ true
  pub goes_on : ((mark ≡ 60) × (v ≡ source_of final) × (back ≡ []) × (rs ≡ [])) ⊎ ((eqb mark 60 ≡ false) × Whole (part final mark) back rs v)

no_mark : (x : ℕ) → x ≡ 60 → hex_digit x ≡ true → ⊥
no_mark x e h = false≢true (sym mark_60 ∙ ap hex_digit (sym e) ∙ h)

or_split : (p q : Bool) → (p || q) ≡ true → (p ≡ true) ⊎ (q ≡ true)
or_split true q e = inl refl
or_split false q e = inr e

module _ (part : Address → ℕ → Reads Said Octets) where
  stop_here : (a : Address) (ds s u : Octets) (rs : List Said) (v : Octets) (x : ℕ) → Inv a ds → length ds ≤ 4 → s ≡ x ∷ u → ends_number a x ≡ true → (c : Bool) → eqb x 60 ≡ c
      → Whole (elim c as (λ _. Reads Said Octets) [ true ↦ done (source_of a) | false ↦ part a x ]) u rs v → Stop part a ds s rs v
  stop_here a ds s u rs v x i l e f true g w =
      let (h, j, k) = done_whole (source_of a) u rs v w in
      record {
        final = a;
        more = [];
        inv = subst (Inv a) (sym (append-nil ds)) i;
        size = omega (arith, l, ap length (append-nil ds));
        before = refl;
        turned = turned_self a.kind;
        mark = x;
        back = u;
        is = e;
        ended = f;
        goes_on = inl (eqb-true x 60 g, sym k, h, j);
      }
  stop_here a ds s u rs v x i l e f false g w = record {
    final = a;
    more = [];
    inv = subst (Inv a) (sym (append-nil ds)) i;
    size = omega (arith, l, ap length (append-nil ds));
    before = refl;
    turned = turned_self a.kind;
    mark = x;
    back = u;
    is = e;
    ended = f;
    goes_on = inr (g, w);
  }

  stop_later : (a : Address) (ds s u : Octets) (rs : List Said) (v : Octets) (x : ℕ) → s ≡ x ∷ u → (goes_on_dotted a x ≡ true) ⊎ (goes_on_grouped a x ≡ true) → Stop part (with_digit a x) (ds ++ (x ∷ [])) u rs v → Stop part a ds s rs v
  stop_later a ds s u rs v x e g t = record {
    final = t.final;
    more = x ∷ t.more;
    inv = subst (Inv t.final) (append_assoc ds (x ∷ []) t.more) t.inv;
    size = subst (λ z. length z ≤ 4) (append_assoc ds (x ∷ []) t.more) t.size;
    before = t.before ∙ with_before a x;
    turned = turned_more a x t.final.kind g t.turned;
    mark = t.mark;
    back = t.back;
    is = e ∙ ap (λ z. x ∷ z) t.is;
    ended = t.ended;
    goes_on = t.goes_on;
  }

  pub digits_back : (n : ℕ) (a : Address) (ds s : Octets) (rs : List Said) (v : Octets) → Inv a ds → n + length ds ≡ 4 → Whole (digits_from n part a) s rs v → Stop part a ds s rs v
  unfolding digits_from
  digits_back zero a ds s rs v i l w =
      let (x, u, e, f, r) = octet_whole (ends_number a) (λ x. elim (eqb x 60) as (λ _. Reads Said Octets) [ true ↦ done (source_of a) | false ↦ part a x ]) s rs v w in
      stop_here a ds s u rs v x i (omega (arith, l)) e f (eqb x 60) refl r
  digits_back (suc n) a ds s rs v i l w = go (λ b es u j m. digits_back n b es u rs v j m) (eqb x 60) refl (ends_number a x) refl
    where
      cut : (x : ℕ) × (u : Octets) × (s ≡ x ∷ u) × ((ends_number a x || goes_on_dotted a x || goes_on_grouped a x) ≡ true) × Whole {R = Said} (elim (eqb x 60) as (λ _. Reads Said Octets) [
        | true ↦ done (source_of a)
        | false ↦ elim (ends_number a x) as (λ _. Reads Said Octets) [ true ↦ part a x | false ↦ digits_from n part (with_digit a x) ]
      ]) u rs v
      cut = octet_whole (λ x. ends_number a x || goes_on_dotted a x || goes_on_grouped a x) _ s rs v w

      x : ℕ
      x = cut.0

      on : ends_number a x ≡ false → (goes_on_dotted a x ≡ true) ⊎ (goes_on_grouped a x ≡ true)
      on e = or_split (goes_on_dotted a x) (goes_on_grouped a x) (rw e at cut.3)

      More : Type 0
      More = (b : Address) (es u : Octets) → Inv b es → n + length es ≡ 4 → Whole (digits_from n part b) u rs v → Stop part b es u rs v

      go : More → (c : Bool) → eqb x 60 ≡ c → (d : Bool) → ends_number a x ≡ d → Stop part a ds s rs v
      go again c e true f = stop_here a ds s cut.1 rs v x i (omega (arith, l)) cut.2 f (eqb x 60) refl (subst (λ d. Whole {R = Said} (elim (eqb x 60) as (λ _. Reads Said Octets) [
        | true ↦ done (source_of a)
        | false ↦ elim d as (λ _. Reads Said Octets) [ true ↦ part a x | false ↦ digits_from n part (with_digit a x) ]
      ]) cut.1 rs v) f cut.4)
      go again false e false f =
          stop_later a ds s cut.1 rs v x cut.2 (on f) (again (with_digit a x) (ds ++ (x ∷ [])) cut.1 (inv_more a ds x i (on f)) (omega (arith, l, one_longer ds x)) (rw (e, f) at cut.4))
      go again true e false f = absurd (mark_none (on f))
        where
          mark_none : (goes_on_dotted a x ≡ true) ⊎ (goes_on_grouped a x ≡ true) → ⊥
          mark_none (inl h) = no_mark x (eqb-true x 60 e) (digit_hex x (dotted_on a x h).1)
          mark_none (inr h) = no_mark x (eqb-true x 60 e) (grouped_on a x h).1
