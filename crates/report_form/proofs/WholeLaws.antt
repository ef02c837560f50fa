-- Which texts programs read whole: one program after another, fixed octets, texts with entities.
use Rattle.std.specs.Prelude.{Option, None, Some}
use mathlib.Core.Path.{◌≡◌, refl, sym, ap, ◌∙◌, subst}
use mathlib.Core.List.{List, [], ◌∷◌, ◌++◌, flatten, append_assoc}
use mathlib.Core.Bool.{Bool, true, false, ◌&&◌, false≢true}
use Prim.Native.Nat.{ℕ, zero, suc, ◌≤◌}
use native.Mathlib.Nat.{not-suc-le-zero, le_of_suc-le-suc}
use lib.Dec.{eqb}
use lib.ListN.{length}
use borrow.Author.Tests.{eq-eqb, eqb-true}
use Rattle.octets.specs.Octets.{Octets, octets, all, any, between, one_of}
use Rattle.report.specs.Xml
use Rattle.report.specs.Xml.{with_entities}
use Rattle.parsing.specs.Reads.{Reads, done, give, next, ◌>>=◌, ◌>>◌, octet_where, exactly, run, handing}
use Rattle.parsing.specs.code.Whole.{Whole}
use Rattle.report_form.specs.ReportForm.{Said}
use Rattle.report_form.specs.code.ReportReading.{first_is as starts, rest_of, among, chosen, one_word, text_octet, reading_entity as entity, text_from}
use Rattle.parsing.proofs.ReadsClaimed.{whole_run}
use Rattle.std.proofs.lemmas.Option.{none-some}

-- ------------------------------------------------------------------ one program after another

pub whole_bind : {R A B : Type 0} (t : Reads R A) (f : A → Reads R B) (u v : Octets) (rs qs : List R) (a : A) (b : B)
    → Whole t u rs a → Whole (f a) v qs b → Whole (t >>= f) (u ++ v) (rs ++ qs) b
unfolding Whole ◌>>=◌
whole_bind (done c) f u v rs qs a b w x =
    subst (λ s. Whole (f c) (s ++ v) (rs ++ qs) b) (sym w.0) (subst (λ l. Whole (f c) v (l ++ qs) b) (sym w.1) (subst (λ z. Whole (f z) v qs b) (sym w.2) x))
whole_bind (give r t) f u v rs qs a b w x = (w.0 ++ qs, ap (λ l. l ++ qs) w.1, whole_bind t f u v w.0 qs a b w.2 x)
whole_bind (next m k) f u v rs qs a b w x = (w.0, w.1 ++ v, ap (λ s. s ++ v) w.2, w.3, whole_bind (k w.0) f w.1 v rs qs a b w.4 x)

-- and back: a whole text of two is cut in one place
pub record Cut {R A B : Type 0} (t : Reads R A) (f : A → Reads R B) (s : Octets) (ps : List R) (b : B) : Type 0 where
  pub front : Octets
  pub back : Octets
  pub joined : s ≡ front ++ back
  pub front_rows : List R
  pub back_rows : List R
  pub joined_rows : ps ≡ front_rows ++ back_rows
  pub value : A
  pub reads_front : Whole t front front_rows value
  pub reads_back : Whole (f value) back back_rows b

pub whole_cut : {R A B : Type 0} (t : Reads R A) (f : A → Reads R B) (s : Octets) (ps : List R) (b : B) → Whole (t >>= f) s ps b → Cut t f s ps b
unfolding Whole ◌>>=◌
whole_cut (done c) f s ps b w = record { front = []; back = s; joined = refl; front_rows = []; back_rows = ps; joined_rows = refl; value = c; reads_front = (refl, refl, refl); reads_back = w }
whole_cut (give r t) f s ps b w =
    let c = whole_cut t f s w.0 b w.2 in
    record {
      front = c.front;
      back = c.back;
      joined = c.joined;
      front_rows = r ∷ c.front_rows;
      back_rows = c.back_rows;
      joined_rows = w.1 ∙ ap (λ l. r ∷ l) c.joined_rows;
      value = c.value;
      reads_front = (c.front_rows, refl, c.reads_front);
      reads_back = c.reads_back;
    }
whole_cut (next m k) f s ps b w =
    let c = whole_cut (k w.0) f w.1 ps b w.4 in
    record {
      front = w.0 ∷ c.front;
      back = c.back;
      joined = w.2 ∙ ap (λ l. w.0 ∷ l) c.joined;
      front_rows = c.front_rows;
      back_rows = c.back_rows;
      joined_rows = c.joined_rows;
      value = c.value;
      reads_front = (w.0, c.front, refl, w.3, c.reads_front);
      reads_back = c.reads_back;
    }

-- ------------------------------------------------------------------ an octet

pub whole_octet : {A : Type 0} (f : ℕ → Bool) (k : ℕ → Reads Said A) (x : ℕ) (u : Octets) (rs : List Said) (a : A) → f x ≡ true → Whole (k x) u rs a → Whole (octet_where f k) (x ∷ u) rs a
unfolding Whole octet_where
whole_octet f k x u rs a e w = (x, u, refl, rw e, w)

pub octet_whole : {A : Type 0} (f : ℕ → Bool) (k : ℕ → Reads Said A) (s : Octets) (rs : List Said) (a : A) → Whole (octet_where f k) s rs a → (x : ℕ) × (u : Octets) × (s ≡ x ∷ u) × (f x ≡ true) × Whole (k x) u rs a
unfolding Whole octet_where
octet_whole f k s rs a w = (w.0, w.1, w.2, passes (f w.0) refl, w.4)
  where
    passes : (c : Bool) → f w.0 ≡ c → f w.0 ≡ true
    passes true e = e
    passes false e = let j : ◌≡◌ {A = Option ℕ} (Some 20) None = rw e at w.3 in absurd (none-some 20 (sym j))

-- ------------------------------------------------------------------ fixed octets

pub whole_exactly : (s : Octets) → Whole {R = Said} (exactly s) s [] tt
unfolding exactly Whole
whole_exactly [] = (refl, refl, refl)
whole_exactly (c ∷ s) = whole_octet (eqb c) (λ x. exactly s) c s [] tt (eq-eqb c c refl) (whole_exactly s)

pub exactly_whole : (s u : Octets) (rs : List Said) → Whole (exactly s) u rs tt → (u ≡ s) × (rs ≡ [])
unfolding exactly Whole
exactly_whole [] u rs w = (w.0, w.1)
exactly_whole (c ∷ s) u rs w =
    let (x, v, e, f, r) = octet_whole (eqb c) (λ x. exactly s) u rs tt w in
    let (g, h) = exactly_whole s v rs r in
    (e ∙ (λ i. sym (eqb-true c x f) i ∷ g i), h)

-- ------------------------------------------------------------------ texts with entities

amp : Whole {R = Said} entity (octets "amp;") [] tt
unfolding run handing entity one_word octet_where among starts chosen rest_of exactly ◌>>=◌ ◌>>◌ octets
amp = whole_run entity 0 (octets "amp;") tt refl

lt : Whole {R = Said} entity (octets "lt;") [] tt
unfolding run handing entity one_word octet_where among starts chosen rest_of exactly ◌>>=◌ ◌>>◌ octets
lt = whole_run entity 0 (octets "lt;") tt refl

gt : Whole {R = Said} entity (octets "gt;") [] tt
unfolding run handing entity one_word octet_where among starts chosen rest_of exactly ◌>>=◌ ◌>>◌ octets
gt = whole_run entity 0 (octets "gt;") tt refl

entity_step : (n : ℕ) (some : Bool) (e rest : Octets) → Whole {R = Said} entity e [] tt → Whole {R = Said} (text_from n true) rest [] tt → Whole {R = Said} (text_from (suc n) some) (38 ∷ (e ++ rest)) [] tt
unfolding text_from text_octet between one_of any octets ◌>>◌
entity_step n some e rest w x = whole_octet _ _ 38 (e ++ rest) [] tt refl (whole_bind entity (λ _. text_from n true) e rest [] [] tt tt w x)

plain_step : (n : ℕ) (some : Bool) (x : ℕ) (rest : Octets) → text_octet x ≡ true → eqb x 60 ≡ false → eqb x 38 ≡ false → Whole {R = Said} (text_from n true) rest [] tt → Whole {R = Said} (text_from (suc n) some) (x ∷ rest) [] tt
unfolding text_from
plain_step n some x rest t e f w = whole_octet _ _ x rest [] tt (rw t) (rw (e, f) w)

text_end : (n : ℕ) → Whole {R = Said} (text_from n true) (60 ∷ []) [] tt
unfolding text_from text_octet between one_of any octets Whole
text_end zero = whole_octet (eqb 60) (λ x. done tt) 60 [] [] tt refl (refl, refl, refl)
text_end (suc n) = whole_octet _ _ 60 [] [] tt refl (refl, refl, refl)

plain_octet : (x : ℕ) → between 32 126 x ≡ true → eqb x 60 ≡ false → eqb x 62 ≡ false → text_octet x ≡ true
unfolding text_octet one_of any octets
plain_octet x e f g = rw (e, f, g)

both_true : (a b : Bool) → (a && b) ≡ true → (a ≡ true) × (b ≡ true)
both_true true b e = (refl, e)
both_true false b e = absurd (false≢true e)

-- how one octet is written
abbrev spelling : ℕ → Octets
spelling x = Xml.entity x

spelling_step : (n : ℕ) (some : Bool) (x : ℕ) (rest : Octets) → between 32 126 x ≡ true → Whole {R = Said} (text_from n true) rest [] tt → Whole {R = Said} (text_from (suc n) some) (spelling x ++ rest) [] tt
unfolding Xml.entity octets
spelling_step n some x rest b w = go (eqb x 38) refl (eqb x 60) refl (eqb x 62) refl
  where
    go : (c : Bool) → eqb x 38 ≡ c → (d : Bool) → eqb x 60 ≡ d → (e : Bool) → eqb x 62 ≡ e → Whole {R = Said} (text_from (suc n) some) (spelling x ++ rest) [] tt
    go true p d q e r = rw p (entity_step n some (octets "amp;") rest amp w)
    go false p true q e r = rw (p, q) (entity_step n some (octets "lt;") rest lt w)
    go false p false q true r = rw (p, q, r) (entity_step n some (octets "gt;") rest gt w)
    go false p false q false r = rw (p, q, r) (plain_step n some x rest (plain_octet x b q r) q p w)

-- an with-entities text, and the `<` after it
pub whole_text_more : (v : Octets) (n : ℕ) → length v ≤ n → all (between 32 126) v ≡ true → Whole {R = Said} (text_from n true) (with_entities v ++ (60 ∷ [])) [] tt
unfolding with_entities all flatten
whole_text_more [] n h a = text_end n
whole_text_more (x ∷ v) zero h a = absurd (not-suc-le-zero h)
whole_text_more (x ∷ v) (suc n) h a =
    let (b, c) = both_true (between 32 126 x) (all (between 32 126) v) a in
    subst (λ s. Whole {R = Said} (text_from (suc n) true) s [] tt) (sym (append_assoc (spelling x) (with_entities v) (60 ∷ []))) (spelling_step n true x (with_entities v ++ (60 ∷ [])) b (whole_text_more v n (le_of_suc-le-suc h) c))

pub whole_text : (x : ℕ) (v : Octets) (n : ℕ) → length v ≤ n → all (between 32 126) (x ∷ v) ≡ true → Whole {R = Said} (text_from (suc n) false) (with_entities (x ∷ v) ++ (60 ∷ [])) [] tt
unfolding with_entities all flatten
whole_text x v n h a =
    let (b, c) = both_true (between 32 126 x) (all (between 32 126) v) a in
    subst (λ s. Whole {R = Said} (text_from (suc n) false) s [] tt) (sym (append_assoc (spelling x) (with_entities v) (60 ∷ []))) (spelling_step n false x (with_entities v ++ (60 ∷ [])) b (whole_text_more v n h c))
