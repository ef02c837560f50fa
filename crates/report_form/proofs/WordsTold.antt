-- Words: what is read whole is what Ask 9 writes.
use mathlib.Core.Path.{◌≡◌, refl, sym, ap, ◌∙◌, subst}
use mathlib.Core.List.{List, [], ◌∷◌, ◌++◌, append-nil}
use mathlib.Core.Logic.{inl, inr}
use mathlib.Core.Bool.{Bool, true, false}
use Prim.Native.Nat.{ℕ, zero, suc, ◌<◌}
use Prim.Native.String.{String}
use native.Mathlib.Omega.{arith}
use Rattle.octets.specs.Octets.{Octets, octets}
use Rattle.policy.specs.declared.Policy.{Policy}
use Rattle.policy.specs.declared.Mode.{Mode}
use Rattle.policy.specs.declared.Setting.{Setting}
use Rattle.publishing.specs.Publishing.{setting_value}
use Rattle.report.specs.Report.{published_mode, published_testing}
use Rattle.report.specs.Report.{result_of_alignment, outcome_word}
use Rattle.parsing.specs.Reads.{done, ◌>>=◌, ◌>>◌, octet_where, exactly, run, handing}
use Rattle.parsing.specs.code.Whole.{Whole}
use Rattle.report_form.specs.ReportForm.{Said}
use Rattle.report_form.specs.code.ReportReading.{first_is as starts, rest_of, among, chosen, one_word, reading_literal as literal, policy, mode, outcome, Disposition, passed, applied, disposition, only, fail_or_pass, dkim_after, spf_after, Item, dkim_item, spf_item, no_item, item, PolicyTag as Tag, sp_tag, np_tag, adkim_tag}
use Rattle.parsing.proofs.ReadsClaimed.{whole_run}
use Rattle.report_form.proofs.WholeLaws.{whole_bind, whole_cut, whole_exactly, exactly_whole}
use Rattle.report_form.proofs.Telling.{Tells, In, Spelled, word_back, whole_done, done_whole, tells_word}

-- every word opened, for theorems that are closed by computation
unfoldable words_compute : Unit {0}
unfolding run handing one_word octet_where among starts chosen rest_of exactly ◌>>=◌ ◌>>◌ octets setting_value published_mode published_testing result_of_alignment Spelled
words_compute = tt

-- ------------------------------------------------------------------ policies and modes

unfoldable pub policy_text : Policy → Octets
policy_text Policy.None = octets "none"
policy_text Policy.Quarantine = octets "quarantine"
policy_text Policy.Reject = octets "reject"

pub setting_text : (p : Policy) → setting_value (Setting.Set p) ≡ policy_text p
unfolding words_compute policy_text
setting_text Policy.None = refl
setting_text Policy.Quarantine = refl
setting_text Policy.Reject = refl

pub policy_into : (p : Policy) → Whole {R = Said} (one_word ("none", Policy.None) (("quarantine", Policy.Quarantine) ∷ ("reject", Policy.Reject) ∷ [])) (policy_text p) [] p
unfolding words_compute policy_text
policy_into Policy.None = whole_run _ 0 (octets "none") Policy.None refl
policy_into Policy.Quarantine = whole_run _ 0 (octets "quarantine") Policy.Quarantine refl
policy_into Policy.Reject = whole_run _ 0 (octets "reject") Policy.Reject refl

pub policy_spelled : Spelled policy_text (("none", Policy.None) ∷ ("quarantine", Policy.Quarantine) ∷ ("reject", Policy.Reject) ∷ [])
unfolding words_compute policy_text
policy_spelled = (refl, (refl, (refl, tt)))

unfoldable pub tells_policy : Tells policy
unfolding policy tells_word
tells_policy = tells_word _ _ policy_text policy_spelled policy_into

pub mode_into : (m : Mode) → Whole {R = Said} (one_word ("r", Mode.Relaxed) (("s", Mode.Strict) ∷ [])) (published_mode m) [] m
unfolding words_compute
mode_into Mode.Relaxed = whole_run _ 0 (octets "r") Mode.Relaxed refl
mode_into Mode.Strict = whole_run _ 0 (octets "s") Mode.Strict refl

pub mode_spelled : Spelled published_mode (("r", Mode.Relaxed) ∷ ("s", Mode.Strict) ∷ [])
unfolding words_compute
mode_spelled = (refl, (refl, tt))

unfoldable pub tells_mode : Tells mode
unfolding mode tells_word
tells_mode = tells_word _ _ published_mode mode_spelled mode_into

pub testing_into : (b : Bool) → Whole {R = Said} (one_word ("n", false) (("y", true) ∷ [])) (published_testing b) [] b
unfolding words_compute
testing_into true = whole_run _ 0 (octets "y") true refl
testing_into false = whole_run _ 0 (octets "n") false refl

pub testing_spelled : Spelled published_testing (("n", false) ∷ ("y", true) ∷ [])
unfolding words_compute
testing_spelled = (refl, (refl, tt))

unfoldable pub tells_testing : Tells (one_word ("n", false) (("y", true) ∷ []))
unfolding tells_word
tells_testing = tells_word _ _ published_testing testing_spelled testing_into

-- ------------------------------------------------------------------ outcomes: 0, 1, 2

pub outcome_into : (o : ℕ) → o < 3 → Whole {R = Said} outcome (outcome_word o) [] o
unfolding words_compute outcome outcome_word
outcome_into zero h = whole_run _ 0 (octets "fail") 0 refl
outcome_into (suc zero) h = whole_run _ 0 (octets "pass") 1 refl
outcome_into (suc (suc zero)) h = whole_run _ 0 (octets "temperror") 2 refl
outcome_into (suc (suc (suc o))) h = absurd (omega (arith, h))

pub outcome_told : (s : Octets) (rs : List Said) (a : ℕ) → Whole {R = Said} outcome s rs a → (o : ℕ) × (o < 3) × (s ≡ outcome_word o) × (rs ≡ []) × (a ≡ o)
unfolding outcome In outcome_word
outcome_told s rs a w =
    let (i, z) = word_back ("fail", 0) (("pass", 1) ∷ ("temperror", 2) ∷ []) s rs a w in go z i
  where
    go : rs ≡ [] → In s a (("fail", 0) ∷ ("pass", 1) ∷ ("temperror", 2) ∷ []) → (o : ℕ) × (o < 3) × (s ≡ outcome_word o) × (rs ≡ []) × (a ≡ o)
    go z (inl h) = (0, omega arith, h.0, z, h.1)
    go z (inr (inl h)) = (1, omega arith, h.0, z, h.1)
    go z (inr (inr (inl h))) = (2, omega arith, h.0, z, h.1)
    go z (inr (inr (inr h))) = absurd h

unfoldable pub tells_outcome : Tells outcome
tells_outcome = record {
  Data = ℕ;
  text = outcome_word;
  rows = λ _. [];
  value = λ o. o;
  Good = λ o. o < 3;
  into = outcome_into;
  back = outcome_told;
}

-- ------------------------------------------------------------------ disposition and alignment

unfoldable pub written_as : Disposition → Octets
written_as passed = octets "pass"
written_as (applied Policy.None) = octets "none"
written_as (applied Policy.Quarantine) = octets "quarantine"
written_as (applied Policy.Reject) = octets "reject"

pub disposition_into : (d : Disposition) → Whole {R = Said} (one_word ("pass", passed) (("none", applied Policy.None) ∷ ("quarantine", applied Policy.Quarantine) ∷ ("reject", applied Policy.Reject) ∷ [])) (written_as d) [] d
unfolding words_compute written_as
disposition_into passed = whole_run _ 0 (octets "pass") passed refl
disposition_into (applied Policy.None) = whole_run _ 0 (octets "none") (applied Policy.None) refl
disposition_into (applied Policy.Quarantine) = whole_run _ 0 (octets "quarantine") (applied Policy.Quarantine) refl
disposition_into (applied Policy.Reject) = whole_run _ 0 (octets "reject") (applied Policy.Reject) refl

pub disposition_spelled : Spelled written_as (("pass", passed) ∷ ("none", applied Policy.None) ∷ ("quarantine", applied Policy.Quarantine) ∷ ("reject", applied Policy.Reject) ∷ [])
unfolding words_compute written_as
disposition_spelled = (refl, (refl, (refl, (refl, tt))))

unfoldable pub tells_disposition : Tells disposition
unfolding disposition tells_word
tells_disposition = tells_word _ _ written_as disposition_spelled disposition_into

alignment_into : (b : Bool) → Whole {R = Said} (one_word ("fail", false) (("pass", true) ∷ [])) (result_of_alignment b) [] b
unfolding words_compute
alignment_into true = whole_run _ 0 (octets "pass") true refl
alignment_into false = whole_run _ 0 (octets "fail") false refl

alignment_back : (s : Octets) (rs : List Said) (b : Bool) → Whole {R = Said} (one_word ("fail", false) (("pass", true) ∷ [])) s rs b → (s ≡ result_of_alignment b) × (rs ≡ [])
unfolding In result_of_alignment
alignment_back s rs b w = let (i, z) = word_back ("fail", false) (("pass", true) ∷ []) s rs b w in (go i, z)
  where
    go : In s b (("fail", false) ∷ ("pass", true) ∷ []) → s ≡ result_of_alignment b
    go (inl h) = h.0 ∙ ap result_of_alignment (sym h.1)
    go (inr (inl h)) = h.0 ∙ ap result_of_alignment (sym h.1)
    go (inr (inr h)) = absurd h

only_into : (word : String) (a : Bool) → octets word ≡ result_of_alignment a → Whole {R = Said} (only word a) (result_of_alignment a) [] a
unfolding only literal ◌>>◌
only_into word a e = subst (λ s. Whole {R = Said} (exactly (octets word) >>= λ _. done a) s [] a) (append-nil (octets word) ∙ e) (whole_bind (exactly (octets word)) (λ _. done a) (octets word) [] [] [] tt a (whole_exactly (octets word)) (whole_done a))

only_back : (word : String) (a : Bool) → octets word ≡ result_of_alignment a → (s : Octets) (rs : List Said) (b : Bool) → Whole {R = Said} (only word a) s rs b → (b ≡ a) × (s ≡ result_of_alignment b) × (rs ≡ [])
unfolding only literal ◌>>◌
only_back word a e s rs b w =
    let c = whole_cut (exactly (octets word)) (λ _. done a) s rs b w in
    let (f, g) = exactly_whole (octets word) c.front c.front_rows c.reads_front in
    let (h, i, j) = done_whole a c.back c.back_rows b c.reads_back in
    (sym j, c.joined ∙ (λ k. f k ++ h k) ∙ append-nil (octets word) ∙ e ∙ ap result_of_alignment j, c.joined_rows ∙ (λ k. g k ++ i k))

fail_word : octets "fail" ≡ result_of_alignment false
unfolding result_of_alignment
fail_word = refl

pass_word : octets "pass" ≡ result_of_alignment true
unfolding result_of_alignment
pass_word = refl

-- "disposition none with a method aligned `pass`"
unfoldable pub dkim_allowed : Disposition → Bool → Type 0
dkim_allowed passed b = Unit
dkim_allowed (applied Policy.None) b = b ≡ false
dkim_allowed (applied Policy.Quarantine) b = Unit
dkim_allowed (applied Policy.Reject) b = Unit

pub dkim_into : (d : Disposition) (b : Bool) → dkim_allowed d b → Whole {R = Said} (dkim_after d) (result_of_alignment b) [] b
unfolding dkim_after dkim_allowed fail_or_pass
dkim_into passed b g = alignment_into b
dkim_into (applied Policy.None) b g = subst (λ c. Whole {R = Said} (only "fail" false) (result_of_alignment c) [] c) (sym g) (only_into "fail" false fail_word)
dkim_into (applied Policy.Quarantine) b g = alignment_into b
dkim_into (applied Policy.Reject) b g = alignment_into b

pub dkim_told : (d : Disposition) (s : Octets) (rs : List Said) (a : Bool) → Whole {R = Said} (dkim_after d) s rs a → (b : Bool) × dkim_allowed d b × (s ≡ result_of_alignment b) × (rs ≡ []) × (a ≡ b)
unfolding dkim_after dkim_allowed fail_or_pass
dkim_told passed s rs a w = let (p, q) = alignment_back s rs a w in (a, tt, p, q, refl)
dkim_told (applied Policy.None) s rs a w = let (p, q, r) = only_back "fail" false fail_word s rs a w in (a, p, q, r, refl)
dkim_told (applied Policy.Quarantine) s rs a w = let (p, q) = alignment_back s rs a w in (a, tt, p, q, refl)
dkim_told (applied Policy.Reject) s rs a w = let (p, q) = alignment_back s rs a w in (a, tt, p, q, refl)

unfoldable pub tells_dkim : (d : Disposition) → Tells (dkim_after d)
tells_dkim d = record {
  Data = Bool;
  text = result_of_alignment;
  rows = λ _. [];
  value = λ b. b;
  Good = dkim_allowed d;
  into = dkim_into d;
  back = dkim_told d;
}

unfoldable pub spf_allowed : Disposition → Bool → Bool → Type 0
spf_allowed passed true b = Unit
spf_allowed passed false b = b ≡ true
spf_allowed (applied Policy.None) k b = b ≡ false
spf_allowed (applied Policy.Quarantine) k b = Unit
spf_allowed (applied Policy.Reject) k b = Unit

pub spf_into : (d : Disposition) (k b : Bool) → spf_allowed d k b → Whole {R = Said} (spf_after d k) (result_of_alignment b) [] b
unfolding spf_after spf_allowed fail_or_pass
spf_into passed true b g = alignment_into b
spf_into passed false b g = subst (λ c. Whole {R = Said} (only "pass" true) (result_of_alignment c) [] c) (sym g) (only_into "pass" true pass_word)
spf_into (applied Policy.None) k b g = subst (λ c. Whole {R = Said} (only "fail" false) (result_of_alignment c) [] c) (sym g) (only_into "fail" false fail_word)
spf_into (applied Policy.Quarantine) k b g = alignment_into b
spf_into (applied Policy.Reject) k b g = alignment_into b

pub spf_told : (d : Disposition) (k : Bool) (s : Octets) (rs : List Said) (a : Bool) → Whole {R = Said} (spf_after d k) s rs a → (b : Bool) × spf_allowed d k b × (s ≡ result_of_alignment b) × (rs ≡ []) × (a ≡ b)
unfolding spf_after spf_allowed fail_or_pass
spf_told passed true s rs a w = let (p, q) = alignment_back s rs a w in (a, tt, p, q, refl)
spf_told passed false s rs a w = let (p, q, r) = only_back "pass" true pass_word s rs a w in (a, p, q, r, refl)
spf_told (applied Policy.None) k s rs a w = let (p, q, r) = only_back "fail" false fail_word s rs a w in (a, p, q, r, refl)
spf_told (applied Policy.Quarantine) k s rs a w = let (p, q) = alignment_back s rs a w in (a, tt, p, q, refl)
spf_told (applied Policy.Reject) k s rs a w = let (p, q) = alignment_back s rs a w in (a, tt, p, q, refl)

unfoldable pub tells_spf : (d : Disposition) (k : Bool) → Tells (spf_after d k)
tells_spf d k = record {
  Data = Bool;
  text = result_of_alignment;
  rows = λ _. [];
  value = λ b. b;
  Good = spf_allowed d k;
  into = spf_into d k;
  back = spf_told d k;
}

-- ------------------------------------------------------------------ which element comes

unfoldable pub item_text : Item → Octets
item_text dkim_item = octets "dkim>"
item_text spf_item = octets "spf>"
item_text no_item = octets "/auth_results>"

pub item_into : (i : Item) → Whole {R = Said} (one_word ("dkim>", dkim_item) (("spf>", spf_item) ∷ ("/auth_results>", no_item) ∷ [])) (item_text i) [] i
unfolding words_compute item_text
item_into dkim_item = whole_run _ 0 (octets "dkim>") dkim_item refl
item_into spf_item = whole_run _ 0 (octets "spf>") spf_item refl
item_into no_item = whole_run _ 0 (octets "/auth_results>") no_item refl

pub item_spelled : Spelled item_text (("dkim>", dkim_item) ∷ ("spf>", spf_item) ∷ ("/auth_results>", no_item) ∷ [])
unfolding words_compute item_text
item_spelled = (refl, (refl, (refl, tt)))

unfoldable pub tells_item : Tells item
unfolding item tells_word
tells_item = tells_word _ _ item_text item_spelled item_into

unfoldable pub more_text : Bool → Octets
more_text true = octets "record>"
more_text false = octets "/feedback>"

pub more_into : (b : Bool) → Whole {R = Said} (one_word ("record>", true) (("/feedback>", false) ∷ [])) (more_text b) [] b
unfolding words_compute more_text
more_into true = whole_run _ 0 (octets "record>") true refl
more_into false = whole_run _ 0 (octets "/feedback>") false refl

pub more_spelled : Spelled more_text (("record>", true) ∷ ("/feedback>", false) ∷ [])
unfolding words_compute more_text
more_spelled = (refl, (refl, tt))

unfoldable pub tells_more : Tells (one_word ("record>", true) (("/feedback>", false) ∷ []))
unfolding tells_word
tells_more = tells_word _ _ more_text more_spelled more_into

unfoldable pub extra_text : Bool → Octets
extra_text true = octets "extra_contact_info>"
extra_text false = octets "report_id>"

pub extra_into : (b : Bool) → Whole {R = Said} (one_word ("extra_contact_info>", true) (("report_id>", false) ∷ [])) (extra_text b) [] b
unfolding words_compute extra_text
extra_into true = whole_run _ 0 (octets "extra_contact_info>") true refl
extra_into false = whole_run _ 0 (octets "report_id>") false refl

pub extra_spelled : Spelled extra_text (("extra_contact_info>", true) ∷ ("report_id>", false) ∷ [])
unfolding words_compute extra_text
extra_spelled = (refl, (refl, tt))

unfoldable pub tells_extra : Tells (one_word ("extra_contact_info>", true) (("report_id>", false) ∷ []))
unfolding tells_word
tells_extra = tells_word _ _ extra_text extra_spelled extra_into

unfoldable pub np_text : Bool → Octets
np_text true = octets "np>"
np_text false = octets "adkim>"

pub np_into : (b : Bool) → Whole {R = Said} (one_word ("np>", true) (("adkim>", false) ∷ [])) (np_text b) [] b
unfolding words_compute np_text
np_into true = whole_run _ 0 (octets "np>") true refl
np_into false = whole_run _ 0 (octets "adkim>") false refl

pub np_spelled : Spelled np_text (("np>", true) ∷ ("adkim>", false) ∷ [])
unfolding words_compute np_text
np_spelled = (refl, (refl, tt))

unfoldable pub tells_np : Tells (one_word ("np>", true) (("adkim>", false) ∷ []))
unfolding tells_word
tells_np = tells_word _ _ np_text np_spelled np_into

unfoldable pub tag_text : Tag → Octets
tag_text sp_tag = octets "sp>"
tag_text np_tag = octets "np>"
tag_text adkim_tag = octets "adkim>"

pub tag_into : (t : Tag) → Whole {R = Said} (one_word ("sp>", sp_tag) (("np>", np_tag) ∷ ("adkim>", adkim_tag) ∷ [])) (tag_text t) [] t
unfolding words_compute tag_text
tag_into sp_tag = whole_run _ 0 (octets "sp>") sp_tag refl
tag_into np_tag = whole_run _ 0 (octets "np>") np_tag refl
tag_into adkim_tag = whole_run _ 0 (octets "adkim>") adkim_tag refl

pub tag_spelled : Spelled tag_text (("sp>", sp_tag) ∷ ("np>", np_tag) ∷ ("adkim>", adkim_tag) ∷ [])
unfolding words_compute tag_text
tag_spelled = (refl, (refl, (refl, tt)))

unfoldable pub tells_tag : Tells (one_word ("sp>", sp_tag) (("np>", np_tag) ∷ ("adkim>", adkim_tag) ∷ []))
unfolding tells_word
tells_tag = tells_word _ _ tag_text tag_spelled tag_into
