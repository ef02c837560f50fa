-- What stands before the records: what is read whole is what Ask 9 writes.
use Rattle.std.specs.Prelude.{Option, None, Some}
use mathlib.Core.Path.{◌≡◌, refl, sym, ap, ◌∙◌, subst}
use mathlib.Core.List.{List, [], ◌∷◌, ◌++◌, append_assoc, append-nil}
use mathlib.Core.Bool.{Bool, true, false, false≢true}
use Rattle.octets.specs.Octets.{Octets, octets}
use Rattle.policy.specs.declared.Policy.{Policy}
use Rattle.report.specs.Xml.{element, with_entities}
use Rattle.parsing.specs.Reads.{Reads, done, ◌>>=◌, ◌>>◌}
use Rattle.parsing.specs.code.Whole.{Whole}
use Rattle.report_form.specs.ReportForm.{Said}
use Rattle.report_form.specs.code.ReportReading.{reading_literal as literal, one_word, text, policy, extra_or_id, PolicyTag as Tag, sp_tag, np_tag, adkim_tag, np_then, policies}
use Rattle.report_form.proofs.WholeLaws.{Cut, whole_bind, whole_cut}
use Rattle.report_form.proofs.Telling.{Tells, whole_done, done_whole, tells_done, tells_literal, tells_bind, tells_then, tells_word}
use Rattle.report_form.proofs.TextBack.{GoodText, tells_text}
use Rattle.report_form.proofs.WordsTold.{policy_text, tells_policy, tells_extra, extra_text, tells_np, np_text, tells_tag, tag_text}
use Rattle.report.proofs.Regrouping.{leaf, ◌·◌, whole, along, regroup, lit, val, el}

unfoldable tells_compute : Unit {0}
unfolding tells_then tells_bind tells_literal tells_done tells_word tells_text tells_policy tells_extra tells_np tells_tag
tells_compute = tt

unfoldable trees_compute : Unit {0}
unfolding whole along lit val el octets element
trees_compute = tt

-- ------------------------------------------------------------------ the extra contact

unfoldable pub GoodExtra : Octets → Type 0
GoodExtra [] = Unit
GoodExtra (x ∷ v) = GoodText (x ∷ v)

unfoldable pub extra_raw : Octets → Octets
extra_raw [] = octets "report_id>"
extra_raw (x ∷ v) = octets "extra_contact_info>" ++ ((with_entities (x ∷ v) ++ (60 ∷ [])) ++ octets "/extra_contact_info><report_id>")

unfoldable pub extra_piece : Octets → Octets
extra_piece [] = []
extra_piece (x ∷ v) = element "extra_contact_info" (with_entities (x ∷ v))

pub extra_is : (v : Octets) → octets "<" ++ extra_raw v ≡ extra_piece v ++ octets "<report_id>"
unfolding extra_raw extra_piece trees_compute
extra_is [] = refl
extra_is (x ∷ v) = regroup
    (lit "<" · (lit "extra_contact_info>" · (val (with_entities (x ∷ v)) · lit "/extra_contact_info><report_id>")))
    (el "extra_contact_info" (leaf (with_entities (x ∷ v))) · lit "<report_id>")
    refl

unfoldable extra_branch : Bool → Reads Said (Unit {0})
extra_branch true = text >> literal "/extra_contact_info><report_id>"
extra_branch false = done tt

abbrev extra_word : Reads Said Bool
extra_word = one_word ("extra_contact_info>", true) (("report_id>", false) ∷ [])

extra_program : extra_or_id {R = Said} ≡ (extra_word >>= extra_branch)
unfolding extra_or_id extra_branch
extra_program = ap (λ f. extra_word >>= f) (λ j b. same b j)
  where
    same : (b : Bool) → (elim b as (λ _. Reads Said (Unit {0})) [ true ↦ text >> literal "/extra_contact_info><report_id>" | false ↦ done tt ]) ≡ extra_branch b
    same true = refl
    same false = refl

whole_as : {A : Type 0} (t u : Reads Said A) (s v : Octets) (a : A) → t ≡ u → s ≡ v → Whole t s [] a → Whole u v [] a
whole_as t u s v a e f w = subst (λ z. Whole z v [] a) e (subst (λ z. Whole t z [] a) f w)

pub extra_into : (v : Octets) → GoodExtra v → Whole {R = Said} extra_or_id (extra_raw v) [] tt
unfolding GoodExtra extra_raw extra_branch tells_compute extra_text
extra_into [] g = whole_as _ _ (octets "report_id>" ++ []) _ tt (sym extra_program) (append-nil (octets "report_id>"))
    (whole_bind extra_word extra_branch (octets "report_id>") [] [] [] false tt (tells_extra.into false tt) (whole_done tt))
extra_into (x ∷ v) g = whole_as _ _ (octets "extra_contact_info>" ++ ((with_entities (x ∷ v) ++ (60 ∷ [])) ++ octets "/extra_contact_info><report_id>")) _ tt (sym extra_program) refl
    (whole_bind extra_word extra_branch (octets "extra_contact_info>") ((with_entities (x ∷ v) ++ (60 ∷ [])) ++ octets "/extra_contact_info><report_id>") [] [] true tt (tells_extra.into true tt)
    ((tells_then text (literal "/extra_contact_info><report_id>") tells_text (tells_literal "/extra_contact_info><report_id>")).into (x ∷ v, tt) (g, tt)))

filled : (v : Octets) → GoodText v → GoodExtra v × (octets "extra_contact_info>" ++ ((with_entities v ++ (60 ∷ [])) ++ octets "/extra_contact_info><report_id>") ≡ extra_raw v)
unfolding GoodExtra GoodText extra_raw
filled [] g = absurd (false≢true (sym g.2))
filled (x ∷ v) g = (g, refl)

pub extra_told : (s : Octets) (rs : List Said) (a : Unit {0}) → Whole {R = Said} extra_or_id s rs a → (v : Octets) × GoodExtra v × (s ≡ extra_raw v) × (rs ≡ []) × (a ≡ tt)
unfolding GoodExtra extra_raw extra_branch tells_compute extra_text
extra_told s rs a w = go c.value c.reads_front c.reads_back
  where
    c : Cut extra_word extra_branch s rs a
    c = whole_cut extra_word extra_branch s rs a (subst (λ t. Whole t s rs a) extra_program w)

    go : (b : Bool) → Whole {R = Said} extra_word c.front c.front_rows b → Whole {R = Said} (extra_branch b) c.back c.back_rows a → (v : Octets) × GoodExtra v × (s ≡ extra_raw v) × (rs ≡ []) × (a ≡ tt)
    go false f g =
        let (y, h, e, z, i) = tells_extra.back c.front c.front_rows false f in
        let (ed, zd, vd) = done_whole {A = Unit {0}} tt c.back c.back_rows a g in
        ([], tt, c.joined ∙ (λ k. (e ∙ ap extra_text (sym i)) k ++ ed k) ∙ append-nil (octets "report_id>"), c.joined_rows ∙ (λ k. z k ++ zd k), refl)
    go true f g =
        let (y, h, e, z, i) = tells_extra.back c.front c.front_rows true f in
        let (x, gx, ex, zx, vx) = (tells_then text (literal "/extra_contact_info><report_id>") tells_text (tells_literal "/extra_contact_info><report_id>")).back c.back c.back_rows a g in
        let (good, is) = filled x.0 gx.0 in
        (x.0, good, c.joined ∙ (λ k. (e ∙ ap extra_text (sym i)) k ++ ex k) ∙ is, c.joined_rows ∙ (λ k. z k ++ zx k), refl)

unfoldable pub tells_extra_or_id : Tells extra_or_id
tells_extra_or_id = record {
  Data = Octets;
  text = extra_raw;
  rows = λ _. [];
  value = λ _. tt;
  Good = GoodExtra;
  into = extra_into;
  back = extra_told;
}

-- ------------------------------------------------------------------ `sp` and `np`

pub record Both : Type 0 where
  pub sp : Option Policy
  pub np : Option Policy

unfoldable pub np_raw : Option Policy → Octets
np_raw None = octets "adkim>"
np_raw (Some q) = octets "np>" ++ (policy_text q ++ octets "</np><adkim>")

unfoldable pub both_raw : Both → Octets
both_raw b = elim b.sp [ None ↦ np_raw b.np | Some p ↦ octets "sp>" ++ (((policy_text p ++ octets "</sp><") ++ np_raw b.np)) ]

unfoldable pub policy_piece_sp : Option Policy → Octets
policy_piece_sp None = []
policy_piece_sp (Some p) = element "sp" (policy_text p)

unfoldable pub policy_piece_np : Option Policy → Octets
policy_piece_np None = []
policy_piece_np (Some p) = element "np" (policy_text p)

pub both_is : (b : Both) → octets "<" ++ both_raw b ≡ (policy_piece_sp b.sp ++ policy_piece_np b.np) ++ octets "<adkim>"
unfolding both_raw np_raw policy_piece_sp policy_piece_np trees_compute
both_is b = go b.sp b.np
  where
    go : (s n : Option Policy) → octets "<" ++ (elim s as (λ _. Octets) [ None ↦ np_raw n | Some p ↦ octets "sp>" ++ (((policy_text p ++ octets "</sp><") ++ np_raw n)) ]) ≡ (policy_piece_sp s ++ policy_piece_np n) ++ octets "<adkim>"
    go None None = refl
    go None (Some q) = regroup (lit "<" · (lit "np>" · (leaf (policy_text q) · lit "</np><adkim>"))) (el "np" (leaf (policy_text q)) · lit "<adkim>") refl
    go (Some p) None = regroup (lit "<" · (lit "sp>" · ((leaf (policy_text p) · lit "</sp><") · lit "adkim>"))) (el "sp" (leaf (policy_text p)) · leaf [] · lit "<adkim>") refl
    go (Some p) (Some q) = regroup (lit "<" · (lit "sp>" · ((leaf (policy_text p) · lit "</sp><") · (lit "np>" · (leaf (policy_text q) · lit "</np><adkim>"))))) (el "sp" (leaf (policy_text p)) · el "np" (leaf (policy_text q)) · lit "<adkim>") refl

unfoldable tells_np_then : Tells np_then
unfolding np_then
tells_np_then = tells_then policy (literal "</np><adkim>") tells_policy (tells_literal "</np><adkim>")

-- behind `<`, or behind `sp`: np or adkim
unfoldable np_branch : Bool → Reads Said (Unit {0})
np_branch true = np_then
np_branch false = done tt

abbrev np_word : Reads Said Bool
np_word = one_word ("np>", true) (("adkim>", false) ∷ [])

np_into : (n : Option Policy) → Whole {R = Said} (np_word >>= np_branch) (np_raw n) [] tt
unfolding np_raw np_branch tells_compute tells_np_then np_text
np_into None = subst (λ s. Whole {R = Said} (np_word >>= np_branch) s [] tt) (append-nil (octets "adkim>")) (whole_bind np_word np_branch (octets "adkim>") [] [] [] false tt (tells_np.into false tt) (whole_done tt))
np_into (Some q) = whole_bind np_word np_branch (octets "np>") (policy_text q ++ octets "</np><adkim>") [] [] true tt (tells_np.into true tt) (tells_np_then.into (q, tt) (tt, tt))

np_told : (s : Octets) (rs : List Said) (a : Unit {0}) → Whole {R = Said} (np_word >>= np_branch) s rs a → (n : Option Policy) × (s ≡ np_raw n) × (rs ≡ [])
unfolding np_raw np_branch tells_compute tells_np_then np_text
np_told s rs a w = go c.value c.reads_front c.reads_back
  where
    c : Cut np_word np_branch s rs a
    c = whole_cut np_word np_branch s rs a w

    go : (b : Bool) → Whole {R = Said} np_word c.front c.front_rows b → Whole {R = Said} (np_branch b) c.back c.back_rows a → (n : Option Policy) × (s ≡ np_raw n) × (rs ≡ [])
    go false f g =
        let (y, h, e, z, i) = tells_np.back c.front c.front_rows false f in
        let (ed, zd, vd) = done_whole {A = Unit {0}} tt c.back c.back_rows a g in
        (None, c.joined ∙ (λ k. (e ∙ ap np_text (sym i)) k ++ ed k) ∙ append-nil (octets "adkim>"), c.joined_rows ∙ (λ k. z k ++ zd k))
    go true f g =
        let (y, h, e, z, i) = tells_np.back c.front c.front_rows true f in
        let (x, gx, ex, zx, vx) = tells_np_then.back c.back c.back_rows a g in
        (Some x.0, c.joined ∙ (λ k. (e ∙ ap np_text (sym i)) k ++ ex k), c.joined_rows ∙ (λ k. z k ++ zx k))

unfoldable tag_branch : Tag → Reads Said (Unit {0})
tag_branch sp_tag = (policy >> literal "</sp><" >> np_word) >>= np_branch
tag_branch np_tag = np_then
tag_branch adkim_tag = done tt

abbrev tag_word : Reads Said Tag
tag_word = one_word ("sp>", sp_tag) (("np>", np_tag) ∷ ("adkim>", adkim_tag) ∷ [])

np_same : (b : Bool) → (elim b as (λ _. Reads Said (Unit {0})) [ true ↦ np_then | false ↦ done tt ]) ≡ np_branch b
unfolding np_branch
np_same true = refl
np_same false = refl

policies_program : policies {R = Said} ≡ (tag_word >>= tag_branch)
unfolding policies tag_branch
policies_program = ap (λ f. tag_word >>= f) (λ j b. same b j)
  where
    same : (t : Tag) → (elim t as (λ _. Reads Said (Unit {0})) [
      | sp_tag ↦ policy >> literal "</sp><" >> np_word >>= (λ n. elim n as (λ _. Reads Said (Unit {0})) [ true ↦ np_then | false ↦ done tt ])
      | np_tag ↦ np_then
      | adkim_tag ↦ done tt
    ]) ≡ tag_branch t
    same sp_tag = ap (λ f. policy >> literal "</sp><" >> np_word >>= f) (λ j b. np_same b j)
    same np_tag = refl
    same adkim_tag = refl

-- behind `sp>`
abbrev sp_front : Reads Said (Unit {0})
sp_front = policy >> literal "</sp><"

sp_front_into : (p : Policy) → Whole {R = Said} sp_front (policy_text p ++ octets "</sp><") [] tt
unfolding tells_compute
sp_front_into p = (tells_then policy (literal "</sp><") tells_policy (tells_literal "</sp><")).into (p, tt) (tt, tt)

sp_front_back : (s : Octets) (rs : List Said) → Whole {R = Said} sp_front s rs tt → (p : Policy) × (s ≡ policy_text p ++ octets "</sp><") × (rs ≡ [])
unfolding tells_compute
sp_front_back s rs w = let (x, g, e, z, v) = (tells_then policy (literal "</sp><") tells_policy (tells_literal "</sp><")).back s rs tt w in (x.0, e, z)

sp_into : (p : Policy) (n : Option Policy) → Whole {R = Said} ((sp_front >> np_word) >>= np_branch) ((policy_text p ++ octets "</sp><") ++ np_raw n) [] tt
unfolding ◌>>◌
sp_into p n =
    let c = whole_cut np_word np_branch (np_raw n) [] tt (np_into n) in
    let front = whole_bind sp_front (λ _. np_word) (policy_text p ++ octets "</sp><") c.front [] c.front_rows tt c.value (sp_front_into p) c.reads_front in
    let all_of_it = whole_bind (sp_front >>= λ _. np_word) np_branch ((policy_text p ++ octets "</sp><") ++ c.front) c.back c.front_rows c.back_rows c.value tt front c.reads_back in
    subst (λ l. Whole {R = Said} ((sp_front >>= λ _. np_word) >>= np_branch) ((policy_text p ++ octets "</sp><") ++ np_raw n) l tt) (sym c.joined_rows)
    (subst (λ s. Whole {R = Said} ((sp_front >>= λ _. np_word) >>= np_branch) s (c.front_rows ++ c.back_rows) tt)
    (append_assoc (policy_text p ++ octets "</sp><") c.front c.back ∙ ap (λ z. (policy_text p ++ octets "</sp><") ++ z) (sym c.joined)) all_of_it)

sp_told : (s : Octets) (rs : List Said) (a : Unit {0}) → Whole {R = Said} ((sp_front >> np_word) >>= np_branch) s rs a → (p : Policy) × (n : Option Policy) × (s ≡ (policy_text p ++ octets "</sp><") ++ np_raw n) × (rs ≡ [])
unfolding ◌>>◌
sp_told s rs a w =
    let c = whole_cut (sp_front >>= λ _. np_word) np_branch s rs a w in
    let d = whole_cut sp_front (λ _. np_word) c.front c.front_rows c.value c.reads_front in
    let (p, ep, zp) = sp_front_back d.front d.front_rows d.reads_front in
    let later = whole_bind np_word np_branch d.back c.back d.back_rows c.back_rows c.value a d.reads_back c.reads_back in
    let (n, en, zn) = np_told (d.back ++ c.back) (d.back_rows ++ c.back_rows) a later in (
      p,
      n,
      c.joined ∙ ap (λ z. z ++ c.back) d.joined ∙ append_assoc d.front d.back c.back ∙ (λ k. ep k ++ en k),
      c.joined_rows ∙ ap (λ z. z ++ c.back_rows) d.joined_rows ∙ append_assoc d.front_rows d.back_rows c.back_rows ∙ (λ k. zp k ++ zn k),
    )

pub policies_into : (b : Both) → Whole {R = Said} policies (both_raw b) [] tt
unfolding both_raw np_raw tag_branch tells_compute tells_np_then tag_text
policies_into b = go b.sp b.np
  where
    go : (s n : Option Policy) → Whole {R = Said} policies (elim s as (λ _. Octets) [ None ↦ np_raw n | Some p ↦ octets "sp>" ++ (((policy_text p ++ octets "</sp><") ++ np_raw n)) ]) [] tt
    go None None = whole_as _ _ (octets "adkim>" ++ []) _ tt (sym policies_program) (append-nil (octets "adkim>")) (whole_bind tag_word tag_branch (octets "adkim>") [] [] [] adkim_tag tt (tells_tag.into adkim_tag tt) (whole_done tt))
    go None (Some q) = whole_as _ _ (octets "np>" ++ (policy_text q ++ octets "</np><adkim>")) _ tt (sym policies_program) refl
        (whole_bind tag_word tag_branch (octets "np>") (policy_text q ++ octets "</np><adkim>") [] [] np_tag tt (tells_tag.into np_tag tt) (tells_np_then.into (q, tt) (tt, tt)))
    go (Some p) n = whole_as _ _ (octets "sp>" ++ ((policy_text p ++ octets "</sp><") ++ np_raw n)) _ tt (sym policies_program) refl
        (whole_bind tag_word tag_branch (octets "sp>") ((policy_text p ++ octets "</sp><") ++ np_raw n) [] [] sp_tag tt (tells_tag.into sp_tag tt) (sp_into p n))

pub policies_told : (s : Octets) (rs : List Said) (a : Unit {0}) → Whole {R = Said} policies s rs a → (b : Both) × Unit {0} × (s ≡ both_raw b) × (rs ≡ []) × (a ≡ tt)
unfolding both_raw np_raw tag_branch tells_compute tells_np_then tag_text
policies_told s rs a w = go c.value c.reads_front c.reads_back
  where
    c : Cut tag_word tag_branch s rs a
    c = whole_cut tag_word tag_branch s rs a (subst (λ t. Whole t s rs a) policies_program w)

    go : (t : Tag) → Whole {R = Said} tag_word c.front c.front_rows t → Whole {R = Said} (tag_branch t) c.back c.back_rows a → (b : Both) × Unit {0} × (s ≡ both_raw b) × (rs ≡ []) × (a ≡ tt)
    go adkim_tag f g =
        let (y, h, e, z, i) = tells_tag.back c.front c.front_rows adkim_tag f in
        let (ed, zd, vd) = done_whole {A = Unit {0}} tt c.back c.back_rows a g in
        (record { sp = None; np = None }, tt, c.joined ∙ (λ k. (e ∙ ap tag_text (sym i)) k ++ ed k) ∙ append-nil (octets "adkim>"), c.joined_rows ∙ (λ k. z k ++ zd k), refl)
    go np_tag f g =
        let (y, h, e, z, i) = tells_tag.back c.front c.front_rows np_tag f in
        let (x, gx, ex, zx, vx) = tells_np_then.back c.back c.back_rows a g in
        (record { sp = None; np = Some x.0 }, tt, c.joined ∙ (λ k. (e ∙ ap tag_text (sym i)) k ++ ex k), c.joined_rows ∙ (λ k. z k ++ zx k), refl)
    go sp_tag f g =
        let (y, h, e, z, i) = tells_tag.back c.front c.front_rows sp_tag f in
        let (p, n, ep, zp) = sp_told c.back c.back_rows a g in
        (record { sp = Some p; np = n }, tt, c.joined ∙ (λ k. (e ∙ ap tag_text (sym i)) k ++ ep k), c.joined_rows ∙ (λ k. z k ++ zp k), refl)

unfoldable pub tells_policies : Tells policies
tells_policies = record {
  Data = Both;
  text = both_raw;
  rows = λ _. [];
  value = λ _. tt;
  Good = λ _. Unit {0};
  into = λ b _. policies_into b;
  back = policies_told;
}
