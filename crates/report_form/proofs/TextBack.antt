-- Texts with entities, and ids: what is read is what is written.
use mathlib.Core.Path.{◌≡◌, refl, sym, ap, ◌∙◌, subst}
use mathlib.Core.List.{List, [], ◌∷◌, ◌++◌, flatten, append_assoc}
use mathlib.Core.Logic.{inl, inr}
use mathlib.Core.Bool.{Bool, true, false, ◌&&◌, ◌||◌, not, false≢true, or-false}
use Prim.Native.Nat.{ℕ, zero, suc, ◌≤◌, ◌<◌}
use native.Mathlib.Omega.{arith}
use native.Mathlib.Nat.{le_of_suc-le-suc}
use lib.Dec.{eqb}
use lib.ListN.{length}
use borrow.Author.Tests.{eqb-true, le-leb}
use Rattle.octets.specs.Octets.{Octets, octets, is_empty, all, any, between, one_of, made_of, is_letter, is_digit}
use Rattle.reporting.specs.FileName.{alphanumeric, good_id}
use Rattle.report.specs.Xml
use Rattle.report.specs.Xml.{with_entities}
use Rattle.parsing.specs.Reads.{Reads, done, ◌>>◌}
use Rattle.parsing.specs.code.Whole.{Whole}
use Rattle.report_form.specs.ReportForm.{Said}
use Rattle.report_form.specs.code.ReportReading.{text_octet, reading_entity as entity, text_from, text, id_from, id}
use Rattle.report_form.proofs.WholeLaws.{whole_cut, octet_whole, whole_text}
use Rattle.report_form.proofs.NameLaws.{whole_id}
use Rattle.report_form.proofs.Telling.{Tells, done_whole, In, word_back}

pub both_true : (a b : Bool) → (a && b) ≡ true → (a ≡ true) × (b ≡ true)
both_true true b e = (refl, e)
both_true false b e = absurd (false≢true e)

pub not_false : (b : Bool) → not b ≡ true → b ≡ false
not_false true e = absurd (false≢true e)
not_false false e = refl

-- ------------------------------------------------------------------ a text

-- what was read of a text, and the `<` after it
pub record Read (n : ℕ) (some : Bool) (s : Octets) (rs : List Said) : Type 0 where
  pub written : Octets
  pub short : length written ≤ n
  pub fits : all (between 32 126) written ≡ true
  pub filled : some ≡ false → is_empty written ≡ false
  pub is : s ≡ with_entities written ++ (60 ∷ [])
  pub bare : rs ≡ []

ended_here : (n : ℕ) (s u : Octets) (rs : List Said) (x : ℕ) → s ≡ x ∷ u → x ≡ 60 → Whole {R = Said} {A = Unit {0}} (done tt) u rs tt → Read n true s rs
unfolding with_entities flatten all
ended_here n s u rs x e f w =
    let (g, h, i) = done_whole {A = Unit {0}} tt u rs tt w in
    record { written = []; short = omega arith; fits = refl; filled = λ p. absurd (false≢true (sym p)); is = e ∙ (λ m. f m ∷ g m); bare = h }

one_more : (n : ℕ) (some : Bool) (x : ℕ) (u : Octets) (rs : List Said) → between 32 126 x ≡ true → (r : Read n true u rs) → Read (suc n) some (Xml.entity x ++ u) rs
unfolding with_entities flatten all
one_more n some x u rs e r = record {
  written = x ∷ r.written;
  short = omega (arith, r.short);
  fits = rw e r.fits;
  filled = λ p. refl;
  is = ap (λ z. Xml.entity x ++ z) r.is ∙ sym (append_assoc (Xml.entity x) (with_entities r.written) (60 ∷ []));
  bare = r.bare;
}

read_as : (n : ℕ) (some : Bool) (s u : Octets) (rs : List Said) → s ≡ u → Read n some u rs → Read n some s rs
read_as n some s u rs e r = subst (λ z. Read n some z rs) (sym e) r

-- an entity, and what follows
entity_back : (n : ℕ) (some : Bool) (u : Octets) (rs : List Said) → ((v : Octets) (qs : List Said) → Whole {R = Said} (text_from n true) v qs tt → Read n true v qs)
    → Whole {R = Said} (entity >> text_from n true) u rs tt → Read (suc n) some (38 ∷ u) rs
unfolding entity ◌>>◌ In Xml.entity octets between
entity_back n some u rs more w =
    let c = whole_cut entity (λ _. text_from n true) u rs tt w in
    let (i, j) = word_back ("amp;", tt) (("lt;", tt) ∷ ("gt;", tt) ∷ []) c.front c.front_rows c.value c.reads_front in
    let r = more c.back c.back_rows c.reads_back in
    let same : rs ≡ c.back_rows = c.joined_rows ∙ ap (λ l. l ++ c.back_rows) j in
    subst (Read (suc n) some (38 ∷ u)) (sym same) (go c.front c.back c.back_rows c.value i (ap (λ z. 38 ∷ z) c.joined) r)
  where
    go : (a b : Octets) (qs : List Said) (v : Unit {0}) → In a v (("amp;", tt) ∷ ("lt;", tt) ∷ ("gt;", tt) ∷ []) → 38 ∷ u ≡ 38 ∷ (a ++ b) → Read n true b qs → Read (suc n) some (38 ∷ u) qs
    go a b qs v (inl h) e r = read_as (suc n) some (38 ∷ u) (Xml.entity 38 ++ b) qs (e ∙ ap (λ z. 38 ∷ (z ++ b)) h.0) (one_more n some 38 b qs refl r)
    go a b qs v (inr (inl h)) e r = read_as (suc n) some (38 ∷ u) (Xml.entity 60 ++ b) qs (e ∙ ap (λ z. 38 ∷ (z ++ b)) h.0) (one_more n some 60 b qs refl r)
    go a b qs v (inr (inr (inl h))) e r = read_as (suc n) some (38 ∷ u) (Xml.entity 62 ++ b) qs (e ∙ ap (λ z. 38 ∷ (z ++ b)) h.0) (one_more n some 62 b qs refl r)
    go a b qs v (inr (inr (inr h))) e r = absurd h

-- an octet that stands for itself
plain : (x : ℕ) → text_octet x ≡ true → (between 32 126 x ≡ true) × (eqb x 60 ≡ false) × (eqb x 62 ≡ false)
unfolding text_octet one_of any octets
plain x e =
    let (a, b) = both_true (between 32 126 x) (not (eqb x 60 || (eqb x 62 || false))) e in
    let c : (eqb x 60 || (eqb x 62 || false)) ≡ false = not_false (eqb x 60 || (eqb x 62 || false)) b in
    let (d, f) = first (eqb x 60) (eqb x 62) c in
    (a, d, f)
  where
    first : (p q : Bool) → (p || (q || false)) ≡ false → (p ≡ false) × (q ≡ false)
    first true q h = absurd (false≢true (sym h))
    first false true h = absurd (false≢true (sym h))
    first false false h = (refl, refl)

itself : (x : ℕ) → eqb x 38 ≡ false → eqb x 60 ≡ false → eqb x 62 ≡ false → Xml.entity x ≡ x ∷ []
unfolding Xml.entity
itself x e f g = rw (e, f, g)

pub or_left : (a b : Bool) → b ≡ false → (a || b) ≡ true → a ≡ true
or_left true b e f = refl
or_left false b e f = absurd (false≢true (sym e ∙ f))

text_octet_60 : text_octet 60 ≡ false
unfolding text_octet between one_of any octets
text_octet_60 = refl

pub text_back : (n : ℕ) (some : Bool) (s : Octets) (rs : List Said) → (some ≡ false → 0 < n) → Whole {R = Said} (text_from n some) s rs tt → Read n some s rs
unfolding text_from
text_back zero false s rs h w = absurd (omega (arith, h refl))
text_back zero true s rs h w =
    let (x, u, e, f, r) = octet_whole (eqb 60) (λ x. done tt) s rs tt w in
    ended_here zero s u rs x e (sym (eqb-true 60 x f)) r
text_back (suc n) some s rs h w = by (λ v qs. text_back n true v qs (λ z. absurd (false≢true (sym z)))) some refl (eqb x 60) refl (eqb x 38) refl
  where
    cut : (x : ℕ) × (u : Octets) × (s ≡ x ∷ u) × ((text_octet x || (some && eqb x 60)) ≡ true) × Whole {R = Said} (elim (eqb x 60) as (λ _. Reads Said (Unit {0})) [
      | true ↦ done tt
      | false ↦ elim (eqb x 38) as (λ _. Reads Said (Unit {0})) [ true ↦ entity >> text_from n true | false ↦ text_from n true ]
    ]) u rs tt
    cut = octet_whole (λ x. text_octet x || (some && eqb x 60)) _ s rs tt w

    x : ℕ
    x = cut.0

    u : Octets
    u = cut.1

    at_mark : (c : Bool) → some ≡ c → eqb x 60 ≡ true → Read (suc n) some s rs
    at_mark true p e = subst (λ b. Read (suc n) b s rs) (sym p) (ended_here (suc n) s u rs x cut.2 (eqb-true x 60 e) (rw e at cut.4))
    at_mark false p e =
        let g : (text_octet x || (false && eqb x 60)) ≡ true = subst (λ b. (text_octet x || (b && eqb x 60)) ≡ true) p cut.3 in
        absurd (false≢true (sym text_octet_60 ∙ ap text_octet (sym (eqb-true x 60 e)) ∙ sym (or-false (text_octet x)) ∙ g))

    More : Type 0
    More = (v : Octets) (qs : List Said) → Whole {R = Said} (text_from n true) v qs tt → Read n true v qs

    by : More → (c : Bool) → some ≡ c → (d : Bool) → eqb x 60 ≡ d → (e : Bool) → eqb x 38 ≡ e → Read (suc n) some s rs
    by more c p true e d f = at_mark c p e
    by more c p false e true f =
        let is : s ≡ 38 ∷ u = cut.2 ∙ ap (λ z. z ∷ u) (eqb-true x 38 f) in
        read_as (suc n) some s (38 ∷ u) rs is (entity_back n some u rs more (rw (e, f) at cut.4))
    by more c p false e false f =
        let g : text_octet x ≡ true = or_left (text_octet x) (some && eqb x 60) (ap (λ b. some && b) e ∙ none some) cut.3 in
        let (i, j, k) = plain x g in
        read_as (suc n) some s (Xml.entity x ++ u) rs (cut.2 ∙ ap (λ z. z ++ u) (sym (itself x f j k)))
        (one_more n some x u rs i (more u rs (rw (e, f) at cut.4)))
      where
        none : (b : Bool) → (b && false) ≡ false
        none true = refl
        none false = refl

unfoldable pub GoodText : Octets → Type 0
GoodText v = (length v ≤ 4096) × (all (between 32 126) v ≡ true) × (is_empty v ≡ false)

pub text_into : (v : Octets) → GoodText v → Whole {R = Said} text (with_entities v ++ (60 ∷ [])) [] tt
unfolding GoodText text
text_into [] g = absurd (false≢true (sym g.2))
text_into (x ∷ v) g = whole_text x v 4095 (le_of_suc-le-suc g.0) g.1

unfoldable pub tells_text : Tells text
unfolding text GoodText
tells_text = record {
  Data = Octets;
  text = λ v. with_entities v ++ (60 ∷ []);
  rows = λ _. [];
  value = λ _. tt;
  Good = GoodText;
  into = text_into;
  back = λ s rs a w. let r = text_back 4096 false s rs (λ _. omega arith) w in (r.written, (r.short, r.fits, r.filled refl), r.is, r.bare, refl);
}

-- ------------------------------------------------------------------ an id

-- what was read of an id, and the `<` after it
pub record ReadId (n : ℕ) (some : Bool) (s : Octets) (rs : List Said) : Type 0 where
  pub written : Octets
  pub short : length written ≤ n
  pub fits : all alphanumeric written ≡ true
  pub filled : some ≡ false → is_empty written ≡ false
  pub is : s ≡ written ++ (60 ∷ [])
  pub bare : rs ≡ []

id_ended : (n : ℕ) (s u : Octets) (rs : List Said) (x : ℕ) → s ≡ x ∷ u → x ≡ 60 → Whole {R = Said} {A = Unit {0}} (done tt) u rs tt → ReadId n true s rs
unfolding all
id_ended n s u rs x e f w =
    let (g, h, i) = done_whole {A = Unit {0}} tt u rs tt w in
    record { written = []; short = omega arith; fits = refl; filled = λ p. absurd (false≢true (sym p)); is = e ∙ (λ m. f m ∷ g m); bare = h }

alphanumeric_60 : alphanumeric 60 ≡ false
unfolding alphanumeric is_letter is_digit between
alphanumeric_60 = refl

all_more : (y : ℕ) (v : Octets) → alphanumeric y ≡ true → all alphanumeric v ≡ true → all alphanumeric (y ∷ v) ≡ true
unfolding all
all_more y v a b = rw a b

pub and_off : (b : Bool) → (b && false) ≡ false
and_off true = refl
and_off false = refl

pub id_back : (n : ℕ) (some : Bool) (s : Octets) (rs : List Said) → (some ≡ false → 0 < n) → Whole {R = Said} (id_from n some) s rs tt → ReadId n some s rs
unfolding id_from
id_back zero false s rs h w = absurd (omega (arith, h refl))
id_back zero true s rs h w =
    let (x, u, e, f, r) = octet_whole (eqb 60) (λ x. done tt) s rs tt w in
    id_ended zero s u rs x e (sym (eqb-true 60 x f)) r
id_back (suc n) some s rs h w = by (λ v. id_back n true v rs (λ z. absurd (false≢true (sym z)))) some refl (eqb x 60) refl
  where
    cut : (x : ℕ) × (u : Octets) × (s ≡ x ∷ u) × ((alphanumeric x || (some && eqb x 60)) ≡ true) × Whole {R = Said} (elim (eqb x 60) as (λ _. Reads Said (Unit {0})) [
      | true ↦ done tt
      | false ↦ id_from n true
    ]) u rs tt
    cut = octet_whole (λ x. alphanumeric x || (some && eqb x 60)) _ s rs tt w

    x : ℕ
    x = cut.0

    u : Octets
    u = cut.1

    by : ((v : Octets) → Whole {R = Said} (id_from n true) v rs tt → ReadId n true v rs) → (c : Bool) → some ≡ c → (d : Bool) → eqb x 60 ≡ d → ReadId (suc n) some s rs
    by more true p true e = subst (λ b. ReadId (suc n) b s rs) (sym p) (id_ended (suc n) s u rs x cut.2 (eqb-true x 60 e) (rw e at cut.4))
    by more false p true e =
        let g : (alphanumeric x || (false && eqb x 60)) ≡ true = subst (λ b. (alphanumeric x || (b && eqb x 60)) ≡ true) p cut.3 in
        absurd (false≢true (sym alphanumeric_60 ∙ ap alphanumeric (sym (eqb-true x 60 e)) ∙ sym (or-false (alphanumeric x)) ∙ g))
    by more c p false e =
        let g : alphanumeric x ≡ true = or_left (alphanumeric x) (some && eqb x 60) (ap (λ b. some && b) e ∙ and_off some) cut.3 in
        let r = more u (rw e at cut.4) in
        record {
          written = x ∷ r.written;
          short = omega (arith, r.short);
          fits = all_more x r.written g r.fits;
          filled = λ q. refl;
          is = cut.2 ∙ ap (λ z. x ∷ z) r.is;
          bare = r.bare;
        }

id_good : (v : Octets) → is_empty v ≡ false → length v ≤ 64 → all alphanumeric v ≡ true → good_id v ≡ true
unfolding good_id made_of
id_good v e f g = rw (e, le-leb (length v) 64 f, g)

pub id_into : (v : Octets) → good_id v ≡ true → Whole {R = Said} id (v ++ (60 ∷ [])) [] tt
unfolding good_id
id_into v e = whole_id v e

pub id_told : (s : Octets) (rs : List Said) → Whole {R = Said} id s rs tt → (v : Octets) × (good_id v ≡ true) × (s ≡ v ++ (60 ∷ [])) × (rs ≡ []) × (◌≡◌ {A = Unit {0}} tt tt)
unfolding id
id_told s rs w = let r = id_back 64 false s rs (λ _. omega arith) w in (r.written, id_good r.written (r.filled refl) r.short r.fits, r.is, r.bare, refl)

unfoldable pub tells_id : Tells id
tells_id = record {
  Data = Octets;
  text = λ v. v ++ (60 ∷ []);
  rows = λ _. [];
  value = λ _. tt;
  Good = λ v. good_id v ≡ true;
  into = id_into;
  back = λ s rs a w. id_told s rs w;
}
