-- A name that is read keeps the rule of domains, and is in lower case.
use Rattle.std.specs.Prelude.{None}
use mathlib.Core.Path.{◌≡◌, refl, sym, ap, ◌∙◌, subst}
use mathlib.Core.List.{List, [], ◌∷◌, ◌++◌, map, append_assoc, append-nil}
use mathlib.Core.Bool.{Bool, true, false, ◌&&◌, ◌||◌, not, false≢true}
use Prim.Native.Nat.{ℕ, zero, suc, ◌+◌, ◌≤◌, ◌<◌}
use native.Mathlib.Omega.{arith}
use lib.Dec.{eqb, leb, ltb}
use lib.ListN.{length}
use borrow.Author.Tests.{eqb-true, ltb-true, leb-true, le-leb, ne_eqb}
use Rattle.octets.specs.Octets.{Octets, octets, all, between, is_letter, is_digit, one_of, made_of, lower, lower_octet, split, onto_first}
use Rattle.octets.proofs.TextLaws.{lower_length, lower_lower}
use Rattle.domain.specs.Domain.{Domain, domain_octet, labels, good_label, first_bad, domain_fault, is_domain}
use Rattle.parsing.specs.Reads.{Reads, done}
use Rattle.parsing.specs.code.Whole.{Whole}
use Rattle.report_form.specs.ReportForm.{Said}
use Rattle.report_form.specs.code.ReportReading.{spelled_octet, name_allows, name_from, name}
use Rattle.report_form.proofs.WholeLaws.{octet_whole}
use Rattle.report_form.proofs.NameLaws.{Rest, ends, dot, octet, AllGood, Good, domain_parts, whole_domain}
use Rattle.report_form.proofs.Telling.{Tells, done_whole}
use Rattle.report_form.proofs.TextBack.{both_true, not_false}

-- ------------------------------------------------------------------ octet by octet

-- what an allowed octet says
allowed_end : (room label x : ℕ) → eqb x 60 ≡ true → name_allows room label x ≡ true → 0 < label
unfolding name_allows
allowed_end room label x e f = ltb-true 0 label (rw e at f)

allowed_dot : (room label x : ℕ) → eqb x 60 ≡ false → eqb x 46 ≡ true → name_allows room label x ≡ true → (0 < label) × (1 < room)
unfolding name_allows
allowed_dot room label x e f g =
    let h : (ltb 0 label && ltb 1 room) ≡ true = rw (e, f) at g in
    let (a, b) = both_true (ltb 0 label) (ltb 1 room) h in
    (ltb-true 0 label a, ltb-true 1 room b)

allowed_octet : (room label x : ℕ) → eqb x 60 ≡ false → eqb x 46 ≡ false → name_allows room label x ≡ true → (spelled_octet x ≡ true) × (label < 63) × (0 < room)
unfolding name_allows
allowed_octet room label x e f g =
    let h : (spelled_octet x && ltb label 63 && ltb 0 room) ≡ true = rw (e, f) at g in
    let (i, c) = both_true (spelled_octet x && ltb label 63) (ltb 0 room) h in
    let (a, b) = both_true (spelled_octet x) (ltb label 63) i in
    (a, ltb-true label 63 b, ltb-true 0 room c)

pub record ReadName (room label : ℕ) (so_far s : Octets) (rs : List Said) (a : Domain) : Type 0 where
  pub written : Octets
  pub short : length written ≤ room
  pub rest : Rest label written
  pub is : s ≡ written ++ (60 ∷ [])
  pub value : a ≡ so_far ++ written
  pub bare : rs ≡ []

name_ended : (room label : ℕ) (so_far s u : Octets) (rs : List Said) (a : Domain) (x : ℕ) → s ≡ x ∷ u → x ≡ 60 → 0 < label → Whole {R = Said} (done so_far) u rs a → ReadName room label so_far s rs a
name_ended room label so_far s u rs a x e f h w =
    let (g, i, j) = done_whole so_far u rs a w in
    record { written = []; short = omega arith; rest = ends {label = label} h; is = e ∙ (λ m. f m ∷ g m); value = sym j ∙ sym (append-nil so_far); bare = i }

pub name_back : (room label : ℕ) (so_far s : Octets) (rs : List Said) (a : Domain) → Whole {R = Said} (name_from room label so_far) s rs a → ReadName room label so_far s rs a
unfolding name_from
name_back zero label so_far s rs a w = go (eqb x 60) refl (eqb x 46) refl
  where
    cut : (x : ℕ) × (u : Octets) × (s ≡ x ∷ u) × (name_allows 0 label x ≡ true) × Whole {R = Said} (done so_far) u rs a
    cut = octet_whole (name_allows 0 label) (λ x. done so_far) s rs a w

    x : ℕ
    x = cut.0

    go : (c : Bool) → eqb x 60 ≡ c → (d : Bool) → eqb x 46 ≡ d → ReadName 0 label so_far s rs a
    go true e d f = name_ended 0 label so_far s cut.1 rs a x cut.2 (eqb-true x 60 e) (allowed_end 0 label x e cut.3) cut.4
    go false e true f = let h = (allowed_dot 0 label x e f cut.3).1 in absurd (omega (arith, h))
    go false e false f = let h = (allowed_octet 0 label x e f cut.3).2 in absurd (omega (arith, h))
name_back (suc n) label so_far s rs a w = go (λ l z u. name_back n l z u rs a) (eqb x 60) refl (eqb x 46) refl
  where
    cut : (x : ℕ) × (u : Octets) × (s ≡ x ∷ u) × (name_allows (suc n) label x ≡ true) × Whole {R = Said} (elim (eqb x 60) as (λ _. Reads Said Domain) [
      | true ↦ done so_far
      | false ↦ elim (eqb x 46) as (λ _. Reads Said Domain) [ true ↦ name_from n 0 (so_far ++ (x ∷ [])) | false ↦ name_from n (suc label) (so_far ++ (x ∷ [])) ]
    ]) u rs a
    cut = octet_whole (name_allows (suc n) label) _ s rs a w

    x : ℕ
    x = cut.0

    go : ((l : ℕ) (z u : Octets) → Whole {R = Said} (name_from n l z) u rs a → ReadName n l z u rs a) → (c : Bool) → eqb x 60 ≡ c → (d : Bool) → eqb x 46 ≡ d → ReadName (suc n) label so_far s rs a
    go more true e d f = name_ended (suc n) label so_far s cut.1 rs a x cut.2 (eqb-true x 60 e) (allowed_end (suc n) label x e cut.3) (rw e at cut.4)
    go more false e true f =
        let (h, i) = allowed_dot (suc n) label x e f cut.3 in
        let r = more 0 (so_far ++ (x ∷ [])) cut.1 (rw (e, f) at cut.4) in
        let m : x ≡ 46 = eqb-true x 46 f in
        record {
          written = 46 ∷ r.written;
          short = omega (arith, r.short);
          rest = dot h (not_empty r.written r.rest) r.rest;
          is = cut.2 ∙ (λ k. m k ∷ r.is k);
          value = r.value ∙ append_assoc so_far (x ∷ []) r.written ∙ ap (λ z. so_far ++ (z ∷ r.written)) m;
          bare = r.bare;
        }
      where
        not_empty : (v : Octets) → Rest 0 v → 0 < length v
        not_empty [] (ends p) = absurd (omega (arith, p))
        not_empty (y ∷ v) p = omega arith
    go more false e false f =
        let (g, h, i) = allowed_octet (suc n) label x e f cut.3 in
        let r = more (suc label) (so_far ++ (x ∷ [])) cut.1 (rw (e, f) at cut.4) in
        record {
          written = x ∷ r.written;
          short = omega (arith, r.short);
          rest = octet e f g h r.rest;
          is = cut.2 ∙ ap (λ z. x ∷ z) r.is;
          value = r.value ∙ append_assoc so_far (x ∷ []) r.written;
          bare = r.bare;
        }

-- ------------------------------------------------------------------ so it is a domain

spelled_parts : (x : ℕ) → spelled_octet x ≡ true → (domain_octet x ≡ true) × (between 65 90 x ≡ false)
unfolding spelled_octet
spelled_parts x e = let (a, b) = both_true (domain_octet x) (not (between 65 90 x)) e in (a, not_false (between 65 90 x) b)

label_good : (p : Octets) → 0 < length p → length p ≤ 63 → all domain_octet p ≡ true → good_label p ≡ true
unfolding good_label made_of
label_good [] h l a = absurd (omega (arith, h))
label_good (x ∷ p) h l a = rw (le-leb (length (x ∷ p)) 63 l, a)

all_good : (ps : List Octets) → Good 0 ps → AllGood ps
unfolding Good AllGood
all_good [] g = absurd g
all_good (p ∷ ps) g = (label_good p (omega (arith, g.0)) (omega (arith, g.1)) g.2, g.3)

rest_good : (s : Octets) (l : ℕ) → l ≤ 63 → Rest l s → Good l (split 46 s)
unfolding Good AllGood split all onto_first
rest_good [] l m (ends h) = (omega (arith, h), omega (arith, m), refl, tt)
rest_good (x ∷ s) l m (dot h i r) = (omega (arith, h), omega (arith, m), refl, all_good (split 46 s) (rest_good s 0 (omega arith) r))
rest_good (x ∷ s) l m (octet e f g h r) = subst (λ c. Good l (elim c as (λ _. List Octets) [ true ↦ [] ∷ split 46 s | false ↦ onto_first x (split 46 s) ])) (sym f) (onto (split 46 s) (rest_good s (suc l) (omega (arith, h)) r))
  where
    onto : (ps : List Octets) → Good (suc l) ps → Good l (onto_first x ps)
    onto [] k = absurd k
    onto (p ∷ ps) k = (omega arith, omega (arith, k.1), both_all (spelled_parts x g).0 k.2, k.3)
      where
        both_all : domain_octet x ≡ true → all domain_octet p ≡ true → all domain_octet (x ∷ p) ≡ true
        both_all a b = rw a b

low_octet : (x : ℕ) → between 65 90 x ≡ false → lower_octet x ≡ x
unfolding lower_octet
low_octet x k = rw k

dot_low : between 65 90 46 ≡ false
unfolding between
dot_low = refl

rest_low : (s : Octets) (l : ℕ) → Rest l s → lower s ≡ s
unfolding lower
rest_low [] l r = refl
rest_low (x ∷ s) l (dot h i r) = λ m. low_octet 46 dot_low m ∷ rest_low s 0 r m
rest_low (x ∷ s) l (octet e f g h r) = λ m. low_octet x (spelled_parts x g).1 m ∷ rest_low s (suc l) r m

no_bad : (at : ℕ) (ps : List Octets) → AllGood ps → first_bad at ps ≡ None
unfolding first_bad AllGood
no_bad at [] g = refl
no_bad at (p ∷ ps) g = rw (g.0, first_bad) (no_bad (at + length p + 1) ps g.1)

no_fault : (d : Octets) → AllGood (split 46 d) → length d ≤ 253 → is_domain d ≡ true
unfolding is_domain domain_fault labels
no_fault d g l = rw (no_bad 0 (split 46 d) g, is_domain, domain_fault, le-leb (length d) 253 l)

-- in lower case
unfoldable pub GoodName : Domain → Type 0
GoodName d = (is_domain d ≡ true) × (lower d ≡ d)

pub name_into : (d : Domain) → GoodName d → Whole {R = Said} name (d ++ (60 ∷ [])) [] d
unfolding GoodName
name_into d g = whole_domain d g.0 g.1

pub name_told : (s : Octets) (rs : List Said) (a : Domain) → Whole {R = Said} name s rs a → (d : Domain) × GoodName d × (s ≡ d ++ (60 ∷ [])) × (rs ≡ []) × (a ≡ d)
unfolding name GoodName
name_told s rs a w =
    let r = name_back 253 0 [] s rs a w in
    (r.written, (no_fault r.written (all_good (split 46 r.written) (rest_good r.written 0 (omega arith) r.rest)) r.short, rest_low r.written 0 r.rest), r.is, r.bare, r.value)

unfoldable pub tells_name : Tells name
tells_name = record {
  Data = Domain;
  text = λ d. d ++ (60 ∷ []);
  rows = λ _. [];
  value = λ d. d;
  Good = GoodName;
  into = name_into;
  back = name_told;
}

-- ------------------------------------------------------------------ a domain in lower case is one

lower_octet_small : (x : ℕ) → between 65 90 x ≡ false → lower_octet x ≡ x
unfolding lower_octet
lower_octet_small x e = rw e

lower_octet_large : (x : ℕ) → between 65 90 x ≡ true → lower_octet x ≡ x + 32
unfolding lower_octet
lower_octet_large x e = rw e

capital : (x : ℕ) → between 65 90 x ≡ true → (65 ≤ x) × (x ≤ 90)
unfolding between
capital x e = let (a, b) = both_true (leb 65 x) (leb x 90) e in (leb-true 65 x a, leb-true x 90 b)

class_letter : (x : ℕ) → between 65 90 x ≡ true → domain_octet x ≡ true
unfolding domain_octet is_letter
class_letter x e = rw e

class_small : (x : ℕ) → 97 ≤ x → x ≤ 122 → domain_octet x ≡ true
unfolding domain_octet is_letter between
class_small x a b = go (leb 65 x && leb x 90) refl
  where
    go : (c : Bool) → (leb 65 x && leb x 90) ≡ c → ((((leb 65 x && leb x 90) || (leb 97 x && leb x 122)) || is_digit x) || one_of (octets "-_") x) ≡ true
    go true e = rw e
    go false e = rw (e, le-leb 97 x a, le-leb x 122 b)

same_class : (x : ℕ) → domain_octet x ≡ true → domain_octet (lower_octet x) ≡ true
same_class x h = go (between 65 90 x) refl
  where
    go : (c : Bool) → between 65 90 x ≡ c → domain_octet (lower_octet x) ≡ true
    go true e = let (a, b) = capital x e in ap domain_octet (lower_octet_large x e) ∙ class_small (x + 32) (omega (arith, a)) (omega (arith, b))
    go false e = ap domain_octet (lower_octet_small x e) ∙ h

all_lower : (p : Octets) → all domain_octet p ≡ true → all domain_octet (lower p) ≡ true
unfolding all lower
all_lower [] e = refl
all_lower (x ∷ p) e = let (a, b) = both_true (domain_octet x) (all domain_octet p) e in rw (same_class x a) (all_lower p b)

good_lower : (p : Octets) → good_label p ≡ true → good_label (lower p) ≡ true
unfolding good_label made_of
good_lower [] e = absurd (false≢true e)
good_lower (x ∷ p) e =
    let (a, b) = both_true (true && leb (length (x ∷ p)) 63) (all domain_octet (x ∷ p)) e in
    label_good (lower (x ∷ p)) (omega (arith, lower_length (x ∷ p))) (omega (arith, lower_length (x ∷ p), leb-true (length (x ∷ p)) 63 a)) (all_lower (x ∷ p) b)

-- every label in lower case
lower_all : List Octets → List Octets
lower_all ps = map lower ps

dot_stays : (x : ℕ) → eqb (lower_octet x) 46 ≡ eqb x 46
dot_stays x = go (between 65 90 x) refl
  where
    go : (c : Bool) → between 65 90 x ≡ c → eqb (lower_octet x) 46 ≡ eqb x 46
    go true e =
        let (a, b) = capital x e in
        ap (λ z. eqb z 46) (lower_octet_large x e) ∙ ne_eqb (x + 32) 46 (λ q. absurd (omega (arith, a, q))) ∙ sym (ne_eqb x 46 (λ q. absurd (omega (arith, a, q))))
    go false e = ap (λ z. eqb z 46) (lower_octet_small x e)

split_lower : (s : Octets) → split 46 (lower s) ≡ lower_all (split 46 s)
unfolding split lower lower_all onto_first
split_lower [] = refl
split_lower (x ∷ s) = go (eqb x 46) refl (split_lower s)
  where
    onto : (ps : List Octets) → onto_first (lower_octet x) (map lower ps) ≡ map lower (onto_first x ps)
    onto [] = refl
    onto (p ∷ ps) = refl

    go : (c : Bool) → eqb x 46 ≡ c → split 46 (lower s) ≡ map lower (split 46 s) → split 46 (lower_octet x ∷ lower s) ≡ map lower (split 46 (x ∷ s))
    go true e h = rw (dot_stays x ∙ e, e, split) (ap (λ z. [] ∷ z) h)
    go false e h = rw (dot_stays x ∙ e, e, split) (ap (onto_first (lower_octet x)) h ∙ onto (split 46 s))

good_all : (ps : List Octets) → AllGood ps → AllGood (lower_all ps)
unfolding AllGood lower_all
good_all [] g = tt
good_all (p ∷ ps) g = (good_lower p g.0, good_all ps g.1)

pub name_lower : (d : Domain) → is_domain d ≡ true → GoodName (lower d)
unfolding GoodName
name_lower d e =
    let (l, g) = domain_parts d e in
    (no_fault (lower d) (subst AllGood (sym (split_lower d)) (good_all (split 46 d) g)) (omega (arith, l, lower_length d)), lower_lower d)
