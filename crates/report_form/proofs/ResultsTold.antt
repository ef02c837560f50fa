-- Identifiers: what is read whole is what Ask 9 writes.
use Rattle.std.specs.Prelude.{Option, None, Some}
use mathlib.Core.Path.{◌≡◌, refl, sym, ap, ◌∙◌, subst}
use mathlib.Core.List.{List, [], ◌∷◌, ◌++◌, map, flatten, append_assoc, append-nil}
use Prim.Native.Nat.{ℕ, zero, suc, ◌+◌, ◌≤◌, ◌<◌}
use native.Mathlib.Omega.{arith}
use lib.ListN.{length}
use Rattle.octets.specs.Octets.{Octets, octets}
use Rattle.domain.specs.Domain.{Domain}
use Rattle.rows.specs.Lists.{Reported}
use Rattle.report.specs.Xml.{element}
use Rattle.report.specs.Report.{outcome_word}
use Rattle.parsing.specs.Reads.{Reads, done, ◌>>=◌, ◌>>◌}
use Rattle.parsing.specs.code.Whole.{Whole}
use Rattle.report_form.specs.ReportForm.{Said}
use Rattle.report_form.specs.code.ReportReading.{reading_literal as literal, signature, sender, Item, dkim_item, spf_item, no_item, item, results_from}
use Rattle.report_form.proofs.WholeLaws.{Cut, whole_bind, whole_cut}
use Rattle.report_form.proofs.Telling.{Tells, whole_done, done_whole, tells_done, tells_literal, tells_bind, tells_then, tells_word}
use Rattle.report_form.proofs.NameBack.{GoodName, tells_name}
use Rattle.report_form.proofs.WordsTold.{tells_outcome, tells_item, item_text}
use Rattle.report.proofs.Regrouping.{leaf, ◌·◌, whole, along, regroup, lit, val, el}

-- ------------------------------------------------------------------ one identifier

-- its element, as Ask 9 writes it of names in lower case
unfoldable pub dkim_piece : Reported → Octets
dkim_piece i = element "dkim" (element "domain" i.domain ++ element "selector" i.selector ++ element "result" (outcome_word i.outcome))

unfoldable pub spf_piece : Reported → Octets
spf_piece i = element "spf" (element "domain" i.domain ++ element "result" (outcome_word i.outcome))

unfoldable pub tells_signature : Tells signature
unfolding signature tells_name tells_outcome
tells_signature =
    tells_then _ _ (tells_literal "<domain>") (tells_bind _ _ tells_name (λ d.
    tells_then _ _ (tells_literal "/domain><selector>") (tells_bind _ _ tells_name (λ s.
    tells_then _ _ (tells_literal "/selector><result>") (tells_bind _ _ tells_outcome (λ o.
    tells_then _ _ (tells_literal "</result></dkim>") (tells_done _)))))))

unfoldable pub tells_sender : Tells sender
unfolding sender tells_name tells_outcome
tells_sender =
    tells_then _ _ (tells_literal "<domain>") (tells_bind _ _ tells_name (λ d.
    tells_then _ _ (tells_literal "/domain><result>") (tells_bind _ _ tells_outcome (λ o.
    tells_then _ _ (tells_literal "</result></spf></auth_results>") (tells_done _)))))

unfoldable told_compute : Unit {0}
unfolding tells_signature tells_sender tells_then tells_bind tells_literal tells_done tells_name tells_outcome tells_item tells_word
told_compute = tt

unfoldable trees_compute : Unit {0}
unfolding whole along lit val el octets element
trees_compute = tt

-- the identifier of names and an outcome
pub record Sig : Type 0 where
  pub domain : Domain
  pub selector : Domain
  pub outcome : ℕ

pub record Snd : Type 0 where
  pub domain : Domain
  pub outcome : ℕ

unfoldable pub dkim_of : Sig → Reported
dkim_of i = record { kind = 1; outcome = i.outcome; selector = i.selector; domain = i.domain }

unfoldable pub spf_of : Snd → Reported
spf_of i = record { kind = 0; outcome = i.outcome; selector = []; domain = i.domain }

unfoldable pub GoodSig : Sig → Type 0
GoodSig i = GoodName i.domain × GoodName i.selector × (i.outcome < 3)

unfoldable pub GoodSnd : Snd → Type 0
GoodSnd i = GoodName i.domain × (i.outcome < 3)

dkim_text : (d s : Domain) (o : ℕ) → octets "<" ++ (octets "dkim>" ++ (octets "<domain>" ++ ((d ++ (60 ∷ [])) ++ (octets "/domain><selector>" ++ ((s ++ (60 ∷ [])) ++ (octets "/selector><result>" ++ (outcome_word o ++ (octets "</result></dkim>" ++ []))))))))
    ≡ dkim_piece (dkim_of (record { domain = d; selector = s; outcome = o }))
unfolding trees_compute dkim_piece dkim_of
dkim_text d s o = regroup
    (lit "<" · (lit "dkim>" · (lit "<domain>" · (val d · (lit "/domain><selector>" · (val s · (lit "/selector><result>" · (leaf (outcome_word o) · (lit "</result></dkim>" · leaf [])))))))))
    (el "dkim" (el "domain" (leaf d) · el "selector" (leaf s) · el "result" (leaf (outcome_word o))))
    refl

spf_text : (d : Domain) (o : ℕ) → octets "<" ++ (octets "spf>" ++ (octets "<domain>" ++ ((d ++ (60 ∷ [])) ++ (octets "/domain><result>" ++ (outcome_word o ++ (octets "</result></spf></auth_results>" ++ []))))))
    ≡ spf_piece (spf_of (record { domain = d; outcome = o })) ++ octets "</auth_results>"
unfolding trees_compute spf_piece spf_of
spf_text d o = regroup
    (lit "<" · (lit "spf>" · (lit "<domain>" · (val d · (lit "/domain><result>" · (leaf (outcome_word o) · (lit "</result></spf></auth_results>" · leaf [])))))))
    (el "spf" (el "domain" (leaf d) · el "result" (leaf (outcome_word o))) · lit "</auth_results>")
    refl

-- ------------------------------------------------------------------ all of a record

pub record Results : Type 0 where
  pub signatures : List Sig
  pub from : Option Snd

unfoldable pub listed : Option Snd → List Reported
listed None = []
listed (Some i) = spf_of i ∷ []

unfoldable pub from_text : Option Snd → Octets
from_text None = []
from_text (Some i) = spf_piece (spf_of i)

unfoldable pub results_text : Results → Octets
results_text r = flatten (map (λ i. dkim_piece (dkim_of i)) r.signatures) ++ (from_text r.from ++ octets "</auth_results>")

unfoldable pub results_list : Results → List Reported
results_list r = map dkim_of r.signatures ++ listed r.from

unfoldable pub AllSigs : List Sig → Type 0
AllSigs [] = Unit
AllSigs (i ∷ is) = GoodSig i × AllSigs is

unfoldable pub GoodFrom : Option Snd → Type 0
GoodFrom None = Unit
GoodFrom (Some i) = GoodSnd i

unfoldable pub one_if : Option Snd → ℕ
one_if None = 0
one_if (Some i) = 1

unfoldable pub GoodResults : ℕ → Results → Type 0
GoodResults n r = AllSigs r.signatures × GoodFrom r.from × (length r.signatures + one_if r.from ≤ n)

-- the octets behind `<dkim>` and `<spf>`
abbrev sig_text : Sig → Octets
sig_text i = octets "<domain>" ++ ((i.domain ++ (60 ∷ [])) ++ (octets "/domain><selector>" ++ ((i.selector ++ (60 ∷ [])) ++ (octets "/selector><result>" ++ (outcome_word i.outcome ++ (octets "</result></dkim>" ++ []))))))

abbrev snd_text : Snd → Octets
snd_text i = octets "<domain>" ++ ((i.domain ++ (60 ∷ [])) ++ (octets "/domain><result>" ++ (outcome_word i.outcome ++ (octets "</result></spf></auth_results>" ++ []))))

sig_into : (i : Sig) → GoodSig i → Whole {R = Said} signature (sig_text i) [] (dkim_of i)
unfolding told_compute GoodSig dkim_of
sig_into i g = tells_signature.into (tt, (i.domain, (tt, (i.selector, (tt, (i.outcome, (tt, tt))))))) (tt, (g.0, (tt, (g.1, (tt, (g.2, (tt, tt)))))))

sig_back : (s : Octets) (rs : List Said) (a : Reported) → Whole {R = Said} signature s rs a → (i : Sig) × GoodSig i × (s ≡ sig_text i) × (rs ≡ []) × (a ≡ dkim_of i)
unfolding told_compute GoodSig dkim_of
sig_back s rs a w =
    let (x, g, e, z, v) = tells_signature.back s rs a w in
    (record { domain = x.1.0; selector = x.1.1.1.0; outcome = x.1.1.1.1.1.0 }, (g.1.0, g.1.1.1.0, g.1.1.1.1.1.0), e, z, v)

snd_into : (i : Snd) → GoodSnd i → Whole {R = Said} sender (snd_text i) [] (spf_of i)
unfolding told_compute GoodSnd spf_of
snd_into i g = tells_sender.into (tt, (i.domain, (tt, (i.outcome, (tt, tt))))) (tt, (g.0, (tt, (g.1, (tt, tt)))))

snd_back : (s : Octets) (rs : List Said) (a : Reported) → Whole {R = Said} sender s rs a → (i : Snd) × GoodSnd i × (s ≡ snd_text i) × (rs ≡ []) × (a ≡ spf_of i)
unfolding told_compute GoodSnd spf_of
snd_back s rs a w =
    let (x, g, e, z, v) = tells_sender.back s rs a w in
    (record { domain = x.1.0; outcome = x.1.1.1.0 }, (g.1.0, g.1.1.1.0), e, z, v)

-- which comes
abbrev begin : Reads Said Item
begin = literal "<" >> item

begin_into : (i : Item) → Whole {R = Said} begin (octets "<" ++ item_text i) [] i
unfolding told_compute
begin_into i = (tells_then (literal "<") item (tells_literal "<") tells_item).into (tt, i) (tt, tt)

begin_back : (s : Octets) (rs : List Said) (i : Item) → Whole {R = Said} begin s rs i → (s ≡ octets "<" ++ item_text i) × (rs ≡ [])
unfolding told_compute
begin_back s rs i w =
    let (x, g, e, z, v) = (tells_then (literal "<") item (tells_literal "<") tells_item).back s rs i w in
    (e ∙ ap (λ j. octets "<" ++ item_text j) (sym v), z)

end_into : {A : Type 0} (a : A) → Whole {R = Said} (literal "</auth_results>" >> done a) (octets "</auth_results>") [] a
unfolding told_compute octets
end_into a = (tells_then (literal "</auth_results>") (done a) (tells_literal "</auth_results>") (tells_done a)).into (tt, tt) (tt, tt)

end_back : {A : Type 0} (a : A) (s : Octets) (rs : List Said) (b : A) → Whole {R = Said} (literal "</auth_results>" >> done a) s rs b → (s ≡ octets "</auth_results>") × (rs ≡ []) × (b ≡ a)
unfolding told_compute octets
end_back a s rs b w =
    let (x, g, e, z, v) = (tells_then (literal "</auth_results>") (done a) (tells_literal "</auth_results>") (tells_done a)).back s rs b w in (e, z, v)

-- what follows which
unfoldable branch : ℕ → List Reported → Item → Reads Said (List Reported)
branch n so_far dkim_item = signature >>= λ s. results_from n (so_far ++ (s ∷ []))
branch n so_far spf_item = sender >>= λ s. done (so_far ++ (s ∷ []))
branch n so_far no_item = done so_far

results_suc : (n : ℕ) (so_far : List Reported) → results_from {R = Said} (suc n) so_far ≡ (begin >>= branch n so_far)
unfolding results_from branch
results_suc n so_far = ap (λ f. begin >>= f) (λ j i. same i j)
  where
    same : (i : Item) → (elim i as (λ _. Reads Said (List Reported)) [
      | dkim_item ↦ signature >>= λ s. results_from n (so_far ++ (s ∷ []))
      | spf_item ↦ sender >>= λ s. done (so_far ++ (s ∷ []))
      | no_item ↦ done so_far
    ]) ≡ branch n so_far i
    same dkim_item = refl
    same spf_item = refl
    same no_item = refl

results_zero : (so_far : List Reported) → results_from {R = Said} zero so_far ≡ (literal "</auth_results>" >> done so_far)
unfolding results_from
results_zero so_far = refl

-- ------------------------------------------------------------------ into

abbrev of : List Sig → Option Snd → Results
of is o = record { signatures = is; from = o }

front_dkim : (i : Sig) (r : Octets) → (octets "<" ++ octets "dkim>") ++ (sig_text i ++ r) ≡ dkim_piece (dkim_of i) ++ r
front_dkim i r = sym (append_assoc (octets "<" ++ octets "dkim>") (sig_text i) r) ∙ ap (λ z. z ++ r) (append_assoc (octets "<") (octets "dkim>") (sig_text i) ∙ dkim_text i.domain i.selector i.outcome)

front_spf : (i : Snd) (r : Octets) → (octets "<" ++ octets "spf>") ++ (snd_text i ++ r) ≡ (spf_piece (spf_of i) ++ octets "</auth_results>") ++ r
front_spf i r = sym (append_assoc (octets "<" ++ octets "spf>") (snd_text i) r) ∙ ap (λ z. z ++ r) (append_assoc (octets "<") (octets "spf>") (snd_text i) ∙ spf_text i.domain i.outcome)

front_end : (octets "<" ++ octets "/auth_results>") ++ [] ≡ octets "</auth_results>"
unfolding octets
front_end = refl

text_dkim : (i : Sig) (is : List Sig) (o : Option Snd) → dkim_piece (dkim_of i) ++ results_text (of is o) ≡ results_text (of (i ∷ is) o)
unfolding results_text flatten
text_dkim i is o = sym (append_assoc (dkim_piece (dkim_of i)) (flatten (map (λ k. dkim_piece (dkim_of k)) is)) (from_text o ++ octets "</auth_results>"))

text_spf : (i : Snd) → (spf_piece (spf_of i) ++ octets "</auth_results>") ++ [] ≡ results_text (of [] (Some i))
unfolding results_text from_text flatten
text_spf i = append-nil (spf_piece (spf_of i) ++ octets "</auth_results>")

text_none : octets "</auth_results>" ≡ results_text (of [] None)
unfolding results_text from_text flatten
text_none = refl

list_dkim : (so_far : List Reported) (i : Sig) (is : List Sig) (o : Option Snd) → (so_far ++ (dkim_of i ∷ [])) ++ results_list (of is o) ≡ so_far ++ results_list (of (i ∷ is) o)
unfolding results_list
list_dkim so_far i is o = append_assoc so_far (dkim_of i ∷ []) (map dkim_of is ++ listed o)

list_spf : (so_far : List Reported) (i : Snd) → so_far ++ (spf_of i ∷ []) ≡ so_far ++ results_list (of [] (Some i))
unfolding results_list listed
list_spf so_far i = refl

list_none : (so_far : List Reported) → so_far ≡ so_far ++ results_list (of [] None)
unfolding results_list listed
list_none so_far = sym (append-nil so_far)

-- a whole text, seen otherwise
whole_as : {A : Type 0} (t u : Reads Said A) (s v : Octets) (a b : A) → t ≡ u → s ≡ v → a ≡ b → Whole t s [] a → Whole u v [] b
whole_as t u s v a b e f g w = subst (λ z. Whole z v [] b) e (subst (λ z. Whole t z [] b) f (subst (λ z. Whole t s [] z) g w))

pub results_into : (n : ℕ) (so_far : List Reported) (is : List Sig) (o : Option Snd) → AllSigs is → GoodFrom o → length is + one_if o ≤ n → Whole {R = Said} (results_from n so_far) (results_text (of is o)) [] (so_far ++ results_list (of is o))
unfolding AllSigs GoodFrom one_if branch item_text
results_into zero so_far [] None a g l = whole_as _ _ (octets "</auth_results>") _ so_far _ (sym (results_zero so_far)) text_none (list_none so_far) (end_into so_far)
results_into zero so_far [] (Some i) a g l = absurd (omega (arith, l))
results_into zero so_far (i ∷ is) o a g l = absurd (omega (arith, l))
results_into (suc n) so_far [] None a g l =
    whole_as _ _ ((octets "<" ++ octets "/auth_results>") ++ []) _ so_far _ (sym (results_suc n so_far)) (front_end ∙ text_none) (list_none so_far)
    (whole_bind begin (branch n so_far) (octets "<" ++ octets "/auth_results>") [] [] [] no_item so_far (begin_into no_item) (whole_done so_far))
results_into (suc n) so_far [] (Some i) a g l =
    whole_as _ _ ((octets "<" ++ octets "spf>") ++ (snd_text i ++ [])) _ (so_far ++ (spf_of i ∷ [])) _ (sym (results_suc n so_far)) (front_spf i [] ∙ text_spf i) (list_spf so_far i)
    (whole_bind begin (branch n so_far) (octets "<" ++ octets "spf>") (snd_text i ++ []) [] [] spf_item (so_far ++ (spf_of i ∷ [])) (begin_into spf_item)
    (whole_bind sender (λ s. done (so_far ++ (s ∷ []))) (snd_text i) [] [] [] (spf_of i) (so_far ++ (spf_of i ∷ [])) (snd_into i g) (whole_done (so_far ++ (spf_of i ∷ [])))))
results_into (suc n) so_far (i ∷ is) o a g l =
    let rest = results_into n (so_far ++ (dkim_of i ∷ [])) is o a.1 g (omega (arith, l)) in
    let v = (so_far ++ (dkim_of i ∷ [])) ++ results_list (of is o) in
    whole_as _ _ ((octets "<" ++ octets "dkim>") ++ (sig_text i ++ results_text (of is o))) _ v _ (sym (results_suc n so_far)) (front_dkim i (results_text (of is o)) ∙ text_dkim i is o) (list_dkim so_far i is o)
    (whole_bind begin (branch n so_far) (octets "<" ++ octets "dkim>") (sig_text i ++ results_text (of is o)) [] [] dkim_item v (begin_into dkim_item)
    (whole_bind signature (λ s. results_from n (so_far ++ (s ∷ []))) (sig_text i) (results_text (of is o)) [] [] (dkim_of i) v (sig_into i a.0) rest))

-- ------------------------------------------------------------------ and back

pub record ReadResults (n : ℕ) (so_far : List Reported) (s : Octets) (rs : List Said) (a : List Reported) : Type 0 where
  pub signatures : List Sig
  pub from : Option Snd
  pub good : AllSigs signatures
  pub good_from : GoodFrom from
  pub few : length signatures + one_if from ≤ n
  pub is : s ≡ results_text (of signatures from)
  pub bare : rs ≡ []
  pub value : a ≡ so_far ++ results_list (of signatures from)

pub results_back : (n : ℕ) (so_far : List Reported) (s : Octets) (rs : List Said) (a : List Reported) → Whole {R = Said} (results_from n so_far) s rs a → ReadResults n so_far s rs a
unfolding AllSigs GoodFrom one_if branch item_text
results_back zero so_far s rs a w =
    let (e, z, v) = end_back so_far s rs a (subst (λ t. Whole t s rs a) (results_zero so_far) w) in
    record { signatures = []; from = None; good = tt; good_from = tt; few = omega arith; is = e ∙ text_none; bare = z; value = v ∙ list_none so_far }
results_back (suc n) so_far s rs a w = go (λ l u qs. results_back n l u qs a) c.value c.reads_front c.reads_back
  where
    c : Cut begin (branch n so_far) s rs a
    c = whole_cut begin (branch n so_far) s rs a (subst (λ t. Whole t s rs a) (results_suc n so_far) w)

    Again : Type 0
    Again = (l : List Reported) (u : Octets) (qs : List Said) → Whole {R = Said} (results_from n l) u qs a → ReadResults n l u qs a

    go : Again → (i : Item) → Whole {R = Said} begin c.front c.front_rows i → Whole {R = Said} (branch n so_far i) c.back c.back_rows a → ReadResults (suc n) so_far s rs a
    go again dkim_item f g =
        let (e, z) = begin_back c.front c.front_rows dkim_item f in
        let d = whole_cut signature (λ s. results_from n (so_far ++ (s ∷ []))) c.back c.back_rows a g in
        let (i, good_i, ei, zi, vi) = sig_back d.front d.front_rows d.value d.reads_front in
        let r = again (so_far ++ (dkim_of i ∷ [])) d.back d.back_rows (subst (λ q. Whole {R = Said} (results_from n (so_far ++ (q ∷ []))) d.back d.back_rows a) vi d.reads_back) in
        record {
          signatures = i ∷ r.signatures;
          from = r.from;
          good = (good_i, r.good);
          good_from = r.good_from;
          few = omega (arith, r.few);
          is = c.joined ∙ (λ k. e k ++ (d.joined ∙ (λ m. ei m ++ r.is m)) k) ∙ front_dkim i (results_text (of r.signatures r.from)) ∙ text_dkim i r.signatures r.from;
          bare = c.joined_rows ∙ (λ k. z k ++ (d.joined_rows ∙ (λ m. zi m ++ r.bare m)) k);
          value = r.value ∙ list_dkim so_far i r.signatures r.from;
        }
    go again spf_item f g =
        let (e, z) = begin_back c.front c.front_rows spf_item f in
        let d = whole_cut sender (λ s. done (so_far ++ (s ∷ []))) c.back c.back_rows a g in
        let (i, good_i, ei, zi, vi) = snd_back d.front d.front_rows d.value d.reads_front in
        let (ed, zd, vd) = done_whole (so_far ++ (d.value ∷ [])) d.back d.back_rows a d.reads_back in
        record {
          signatures = [];
          from = Some i;
          good = tt;
          good_from = good_i;
          few = omega arith;
          is = c.joined ∙ (λ k. e k ++ (d.joined ∙ (λ m. ei m ++ ed m)) k) ∙ front_spf i [] ∙ text_spf i;
          bare = c.joined_rows ∙ (λ k. z k ++ (d.joined_rows ∙ (λ m. zi m ++ zd m)) k);
          value = sym vd ∙ ap (λ q. so_far ++ (q ∷ [])) vi ∙ list_spf so_far i;
        }
    go again no_item f g =
        let (e, z) = begin_back c.front c.front_rows no_item f in
        let (ed, zd, vd) = done_whole so_far c.back c.back_rows a g in
        record {
          signatures = [];
          from = None;
          good = tt;
          good_from = tt;
          few = omega arith;
          is = c.joined ∙ (λ k. e k ++ ed k) ∙ front_end ∙ text_none;
          bare = c.joined_rows ∙ (λ k. z k ++ zd k);
          value = sym vd ∙ list_none so_far;
        }

pub results_good_into : (r : Results) → GoodResults 16 r → Whole {R = Said} (results_from 16 []) (results_text r) [] (results_list r)
unfolding GoodResults
results_good_into r g = results_into 16 [] r.signatures r.from g.0 g.1 g.2

pub results_told : (s : Octets) (rs : List Said) (a : List Reported) → Whole {R = Said} (results_from 16 []) s rs a → (r : Results) × GoodResults 16 r × (s ≡ results_text r) × (rs ≡ []) × (a ≡ results_list r)
unfolding GoodResults
results_told s rs a w = let r = results_back 16 [] s rs a w in (of r.signatures r.from, (r.good, r.good_from, r.few), r.is, r.bare, r.value)

unfoldable pub tells_results : Tells (results_from 16 [])
tells_results = record {
  Data = Results;
  text = results_text;
  rows = λ _. [];
  value = results_list;
  Good = GoodResults 16;
  into = results_good_into;
  back = results_told;
}
