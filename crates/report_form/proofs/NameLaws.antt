-- A name that is read: octet by octet, its labels and its length within their limits.
use Rattle.std.specs.Prelude.{Option, None, Some}
use mathlib.Core.Path.{◌≡◌, refl, sym, ap, ◌∙◌, subst}
use mathlib.Core.List.{List, [], ◌∷◌, ◌++◌, append_assoc, append-nil, cons≢nil, head-eq_of_cons-eq, tail-eq_of_cons-eq}
use mathlib.Core.Bool.{Bool, true, false, ◌&&◌, false≢true}
use Prim.Native.Nat.{ℕ, zero, suc, ◌+◌, ◌≤◌, ◌<◌}
use native.Mathlib.Omega.{arith}
use native.Mathlib.Nat.{not-suc-le-zero, le_of_suc-le-suc}
use lib.Dec.{eqb, leb}
use lib.ListN.{length}
use borrow.Author.Tests.{lt-ltb, leb-true, eqb-true}
use Rattle.octets.specs.Octets.{Octets, octets, all, any, between, is_letter, is_digit, one_of, made_of, lower, lower_octet, split, onto_first}
use Rattle.domain.specs.Domain.{domain_octet, labels, good_label, first_bad, domain_fault, is_domain}
use Rattle.parsing.specs.Reads.{done}
use Rattle.parsing.specs.code.Whole.{Whole}
use Rattle.report_form.specs.ReportForm.{Said}
use Rattle.report_form.specs.code.ReportReading.{spelled_octet, name_allows, name_from, name, id_from, id}
use Rattle.reporting.specs.FileName.{alphanumeric}
use Rattle.report_form.proofs.WholeLaws.{whole_octet}
use Rattle.std.proofs.lemmas.Option.{none-some}

-- what is left of a name behind so many octets of its last label
pub data Rest : ℕ → Octets → Type 0 where
  ends : {label : ℕ} → 0 < label → Rest label []
  dot : {label : ℕ} {s : Octets} → 0 < label → 0 < length s → Rest 0 s → Rest label (46 ∷ s)
  octet : {label : ℕ} {x : ℕ} {s : Octets} → eqb x 60 ≡ false → eqb x 46 ≡ false → spelled_octet x ≡ true → label < 63 → Rest (suc label) s → Rest label (x ∷ s)

allows_end : (room label : ℕ) → 0 < label → name_allows room label 60 ≡ true
unfolding name_allows
allows_end room label h = lt-ltb 0 label h

allows_dot : (room label : ℕ) → 0 < label → 1 < room → name_allows room label 46 ≡ true
unfolding name_allows
allows_dot room label h i = rw (lt-ltb 0 label h, lt-ltb 1 room i)

allows_octet : (room label x : ℕ) → eqb x 60 ≡ false → eqb x 46 ≡ false → spelled_octet x ≡ true → label < 63 → 0 < room → name_allows room label x ≡ true
unfolding name_allows
allows_octet room label x e f g h i = rw (e, f, g, lt-ltb label 63 h, lt-ltb 0 room i)

name_end : (room label : ℕ) (so_far : Octets) → 0 < label → Whole {R = Said} (name_from room label so_far) (60 ∷ []) [] so_far
unfolding name_from Whole
name_end zero label so_far h = whole_octet (name_allows 0 label) (λ x. done so_far) 60 [] [] so_far (allows_end 0 label h) (refl, refl, refl)
name_end (suc n) label so_far h = whole_octet (name_allows (suc n) label) _ 60 [] [] so_far (allows_end (suc n) label h) (refl, refl, refl)

name_dot : (n label : ℕ) (so_far s : Octets) → 0 < label → 1 < suc n → Whole {R = Said} (name_from n 0 (so_far ++ (46 ∷ []))) (s ++ (60 ∷ [])) [] ((so_far ++ (46 ∷ [])) ++ s)
    → Whole {R = Said} (name_from (suc n) label so_far) (46 ∷ (s ++ (60 ∷ []))) [] (so_far ++ (46 ∷ s))
unfolding name_from
name_dot n label so_far s h i w =
    whole_octet (name_allows (suc n) label) _ 46 (s ++ (60 ∷ [])) [] (so_far ++ (46 ∷ s)) (allows_dot (suc n) label h i)
    (subst (Whole {R = Said} (name_from n 0 (so_far ++ (46 ∷ []))) (s ++ (60 ∷ [])) []) (append_assoc so_far (46 ∷ []) s) w)

name_octet : (n label x : ℕ) (so_far s : Octets) → eqb x 60 ≡ false → eqb x 46 ≡ false → spelled_octet x ≡ true → label < 63
    → Whole {R = Said} (name_from n (suc label) (so_far ++ (x ∷ []))) (s ++ (60 ∷ [])) [] ((so_far ++ (x ∷ [])) ++ s)
    → Whole {R = Said} (name_from (suc n) label so_far) (x ∷ (s ++ (60 ∷ []))) [] (so_far ++ (x ∷ s))
unfolding name_from
name_octet n label x so_far s e f g h w =
    whole_octet (name_allows (suc n) label) _ x (s ++ (60 ∷ [])) [] (so_far ++ (x ∷ s)) (allows_octet (suc n) label x e f g h (omega arith))
    (rw (e, f) (subst (Whole {R = Said} (name_from n (suc label) (so_far ++ (x ∷ []))) (s ++ (60 ∷ [])) []) (append_assoc so_far (x ∷ []) s) w))

-- a name with room for it, and the `<` after it
pub whole_name : (room : ℕ) (label : ℕ) (so_far s : Octets) → length s ≤ room → Rest label s → Whole {R = Said} (name_from room label so_far) (s ++ (60 ∷ [])) [] (so_far ++ s)
whole_name room label so_far [] l (ends h) = subst (Whole {R = Said} (name_from room label so_far) (60 ∷ []) []) (sym (append-nil so_far)) (name_end room label so_far h)
whole_name zero label so_far (x ∷ s) l r = absurd (not-suc-le-zero l)
whole_name (suc n) label so_far (x ∷ s) l (dot h i r) = name_dot n label so_far s h (omega (arith, i, l)) (whole_name n 0 (so_far ++ (46 ∷ [])) s (le_of_suc-le-suc l) r)
whole_name (suc n) label so_far (x ∷ s) l (octet e f g h r) = name_octet n label x so_far s e f g h (whole_name n (suc label) (so_far ++ (x ∷ [])) s (le_of_suc-le-suc l) r)

-- ------------------------------------------------------------------ a domain in lower case is such a name

both_true : (a b : Bool) → (a && b) ≡ true → (a ≡ true) × (b ≡ true)
both_true true b e = (refl, e)
both_true false b e = absurd (false≢true e)

-- every label of a list is good
unfoldable pub AllGood : List Octets → Type 0
AllGood [] = Unit
AllGood (p ∷ ps) = (good_label p ≡ true) × AllGood ps

-- so many octets before, and the labels of what is left
unfoldable pub Good : ℕ → List Octets → Type 0
Good l [] = ⊥
Good l (p ∷ ps) = (0 < l + length p) × (l + length p ≤ 63) × (all domain_octet p ≡ true) × AllGood ps

pub none_bad : (at : ℕ) (ps : List Octets) → first_bad at ps ≡ None → AllGood ps
unfolding first_bad AllGood
none_bad at [] e = tt
none_bad at (p ∷ ps) e = go (good_label p) refl (none_bad (at + length p + 1) ps)
  where
    go : (c : Bool) → good_label p ≡ c → (first_bad (at + length p + 1) ps ≡ None → AllGood ps) → (good_label p ≡ true) × AllGood ps
    go true f h = (f, h (rw (f, first_bad) at e))
    go false f h = absurd (none-some at (sym (rw (f, first_bad) at e)))

label_parts : (p : Octets) → good_label p ≡ true → (0 < length p) × (length p ≤ 63) × (all domain_octet p ≡ true)
unfolding good_label made_of
label_parts [] e = absurd (false≢true e)
label_parts (x ∷ p) e =
    let (a, b) = both_true (true && leb (length (x ∷ p)) 63) (all domain_octet (x ∷ p)) e in
    (omega arith, leb-true (length (x ∷ p)) 63 a, b)

pub good_first : (ps : List Octets) → (ps ≡ [] → ⊥) → AllGood ps → Good 0 ps
unfolding Good AllGood
good_first [] n h = n refl
good_first (p ∷ ps) n h = let (a, b, c) = label_parts p h.0 in (omega (arith, a), omega (arith, b), c, h.1)

pub split_some : (s : Octets) → split 46 s ≡ [] → ⊥
unfolding split onto_first
split_some [] e = cons≢nil e
split_some (x ∷ s) e = go (eqb x 46) refl (split 46 s) refl
  where
    go : (c : Bool) → eqb x 46 ≡ c → (ps : List Octets) → split 46 s ≡ ps → ⊥
    go true f ps g = cons≢nil (rw (f, split) at e)
    go false f [] g = cons≢nil (rw (g, onto_first) at (rw (f, split) at e))
    go false f (p ∷ ps) g = cons≢nil (rw (g, onto_first) at (rw (f, split) at e))

-- no octet is a capital letter
unfoldable pub Low : Octets → Type 0
Low [] = Unit
Low (x ∷ s) = (between 65 90 x ≡ false) × Low s

low_octet : (x : ℕ) → lower_octet x ≡ x → between 65 90 x ≡ false
unfolding lower_octet
low_octet x e = go (between 65 90 x) refl
  where
    go : (c : Bool) → between 65 90 x ≡ c → between 65 90 x ≡ false
    go true f = let g : x + 32 ≡ x = rw f at e in absurd (omega (arith, g))
    go false f = f

low : (s : Octets) → lower s ≡ s → Low s
unfolding Low lower
low [] e = tt
low (x ∷ s) e = (low_octet x (head-eq_of_cons-eq e), low s (tail-eq_of_cons-eq e))

pub not_mark : (x m : ℕ) → domain_octet x ≡ true → domain_octet m ≡ false → eqb x m ≡ false
not_mark x m e f = go (eqb x m) refl
  where
    go : (c : Bool) → eqb x m ≡ c → eqb x m ≡ false
    go true g = absurd (false≢true (sym f ∙ ap domain_octet (sym (eqb-true x m g)) ∙ e))
    go false g = g

pub mark_60 : domain_octet 60 ≡ false
unfolding domain_octet is_letter is_digit between one_of any octets
mark_60 = refl

is_spelled : (x : ℕ) → domain_octet x ≡ true → between 65 90 x ≡ false → spelled_octet x ≡ true
unfolding spelled_octet
is_spelled x e f = rw (e, f)

behind_dot : (s : Octets) → Good 0 (split 46 s) → 0 < length s
unfolding Good split
behind_dot [] h = h.0
behind_dot (x ∷ s) h = omega arith

dot_at : (l x : ℕ) (s : Octets) → eqb x 46 ≡ true → Good l (split 46 (x ∷ s)) → (0 < l) × AllGood (split 46 s)
unfolding Good split
dot_at l x s e h = let k : Good l ([] ∷ split 46 s) = rw (e, split) at h in (omega (arith, k.0), k.3)

octet_at : (l x : ℕ) (s : Octets) → eqb x 46 ≡ false → Good l (split 46 (x ∷ s)) → (l < 63) × (domain_octet x ≡ true) × Good (suc l) (split 46 s)
unfolding Good split onto_first all
octet_at l x s e h = go (split 46 s) refl
  where
    k : Good l (onto_first x (split 46 s))
    k = rw (e, split) at h

    go : (ps : List Octets) → split 46 s ≡ ps → (l < 63) × (domain_octet x ≡ true) × Good (suc l) (split 46 s)
    go [] f = absurd (split_some s f)
    go (p ∷ ps) f =
        let m : Good l ((x ∷ p) ∷ ps) = subst (λ z. Good l (onto_first x z)) f k in
        let (a, b) = both_true (domain_octet x) (all domain_octet p) m.2 in
        (omega (arith, m.1), a, subst (Good (suc l)) (sym f) (omega arith, omega (arith, m.1), b, m.3))

rest_of_good : (s : Octets) (l : ℕ) → Low s → Good l (split 46 s) → Rest l s
unfolding Low Good split
rest_of_good [] l w h = ends {label = l} (omega (arith, h.0))
rest_of_good (x ∷ s) l w h = go (eqb x 46) refl (λ m. rest_of_good s m w.1)
  where
    go : (c : Bool) → eqb x 46 ≡ c → ((m : ℕ) → Good m (split 46 s) → Rest m s) → Rest l (x ∷ s)
    go true e r =
        let (a, b) = dot_at l x s e h in
        let g = good_first (split 46 s) (split_some s) b in
        subst (λ z. Rest l (z ∷ s)) (sym (eqb-true x 46 e)) (dot a (behind_dot s g) (r 0 g))
    go false e r =
        let (a, b, g) = octet_at l x s e h in
        octet (not_mark x 60 b mark_60) e (is_spelled x b w.0) a (r (suc l) g)

-- ------------------------------------------------------------------ so each name that Ask 9 writes is read

pub domain_parts : (d : Octets) → is_domain d ≡ true → (length d ≤ 253) × AllGood (split 46 d)
unfolding is_domain domain_fault labels
domain_parts d e = go (first_bad 0 (split 46 d)) refl
  where
    go : (o : Option ℕ) → first_bad 0 (split 46 d) ≡ o → (length d ≤ 253) × AllGood (split 46 d)
    go (Some at) f = absurd (false≢true (rw (f, is_domain, domain_fault) at e))
    go None f = (short (leb (length d) 253) refl, none_bad 0 (split 46 d) f)
      where
        short : (c : Bool) → leb (length d) 253 ≡ c → length d ≤ 253
        short true g = leb-true (length d) 253 g
        short false g = absurd (false≢true (rw (f, g, is_domain, domain_fault) at e))

pub whole_domain : (d : Octets) → is_domain d ≡ true → lower d ≡ d → Whole {R = Said} name (d ++ (60 ∷ [])) [] d
unfolding name
whole_domain d a b =
    let (l, g) = domain_parts d a in
    whole_name 253 0 [] d l (rest_of_good d 0 (low d b) (good_first (split 46 d) (split_some d) g))

-- ------------------------------------------------------------------ ids

not_id : (x : ℕ) → alphanumeric x ≡ true → eqb x 60 ≡ false
unfolding alphanumeric is_letter is_digit between
not_id x e = go (eqb x 60) refl
  where
    go : (c : Bool) → eqb x 60 ≡ c → eqb x 60 ≡ false
    go true g = absurd (false≢true (ap alphanumeric (sym (eqb-true x 60 g)) ∙ e))
    go false g = g

id_step : (n : ℕ) (some : Bool) (x : ℕ) (rest : Octets) → alphanumeric x ≡ true → Whole {R = Said} (id_from n true) rest [] tt → Whole {R = Said} (id_from (suc n) some) (x ∷ rest) [] tt
unfolding id_from
id_step n some x rest e w = whole_octet _ _ x rest [] tt (rw e) (rw (not_id x e) w)

id_end : (n : ℕ) → Whole {R = Said} (id_from n true) (60 ∷ []) [] tt
unfolding id_from alphanumeric is_letter is_digit between Whole
id_end zero = whole_octet (eqb 60) (λ x. done tt) 60 [] [] tt refl (refl, refl, refl)
id_end (suc n) = whole_octet _ _ 60 [] [] tt refl (refl, refl, refl)

id_more : (s : Octets) (n : ℕ) → length s ≤ n → all alphanumeric s ≡ true → Whole {R = Said} (id_from n true) (s ++ (60 ∷ [])) [] tt
unfolding all
id_more [] n h e = id_end n
id_more (x ∷ s) zero h e = absurd (not-suc-le-zero h)
id_more (x ∷ s) (suc n) h e = let (a, b) = both_true (alphanumeric x) (all alphanumeric s) e in id_step n true x (s ++ (60 ∷ [])) a (id_more s n (le_of_suc-le-suc h) b)

pub whole_id : (s : Octets) → made_of 64 alphanumeric s ≡ true → Whole {R = Said} id (s ++ (60 ∷ [])) [] tt
unfolding id made_of all
whole_id [] e = absurd (false≢true e)
whole_id (x ∷ s) e =
    let (a, b) = both_true (leb (length (x ∷ s)) 64) (all alphanumeric (x ∷ s)) e in
    let (c, d) = both_true (alphanumeric x) (all alphanumeric s) b in
    id_step 63 false x (s ++ (60 ∷ [])) c (id_more s 63 (le_of_suc-le-suc (leb-true (length (x ∷ s)) 64 a)) d)
