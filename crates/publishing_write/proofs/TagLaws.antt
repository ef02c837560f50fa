-- The tags by the numbers of their words are those of the record's text.
use mathlib.Core.Path.{◌≡◌, refl, ap, sym, ◌∙◌}
use mathlib.Core.List.{List, [], ◌∷◌, ◌++◌, flatten, append_assoc, append-nil}
use mathlib.Core.Bool.{Bool, true, false}
use Prim.Native.Nat.{ℕ, suc, ◌+◌, ◌≤◌, ◌<◌}
use Prim.Native.String.{String}
use native.Mathlib.Omega.{arith}
use native.Mathlib.Numerals.{add-one}
use native.Mathlib.Nat.{add-zero}
use lib.ListN.{length, take, get_or}
use lib.Seq.{take-suc, take_all, length-take-le}
use Rattle.octets.specs.Octets.{Octets, octets}
use Rattle.policy.specs.declared.Policy.{Policy}
use Rattle.policy.specs.declared.Setting.{Setting}
use Rattle.policy.specs.declared.Mode.{Mode}
use Rattle.policy.specs.declared.Psd.{Psd}
use Rattle.policy.specs.declared.Settings.{Settings}
use Rattle.publishing.specs.Publishing.{setting_value, mode_value, psd_value, testing_value, tag_values, tag_text, record_octets}
use Rattle.policy_words.specs.code.Rows.{tag_names, record_words, words_of}
use Rattle.publishing_write.specs.code.TagWords.{setting_word, mode_word, psd_word, testing_word, value_words, tag_words, tags_from}

-- ------------------------------------------------------------------ one tag

four_parts : (m n q v : Octets) → m ++ (n ++ (q ++ (v ++ []))) ≡ m ++ n ++ q ++ v
four_parts m n q v = simp (append_assoc, append-nil)

module _ (k : ℕ) (name : String) (e : get_or record_words k [] ≡ octets name) where
  -- a tag that is not left out
  there : (v : ℕ) → words_of (23 ∷ k ∷ 24 ∷ v ∷ []) ≡ octets "; " ++ octets name ++ octets "=" ++ get_or record_words v []
  unfolding words_of record_words tag_names flatten octets
  there v = rw e (four_parts (octets "; ") (octets name) (octets "=") (get_or record_words v []))

  setting_tag : (s : Setting) → tag_words k (setting_word s) ≡ tag_text (name, setting_value s)
  unfolding tag_words setting_word tag_text setting_value record_words tag_names octets
  setting_tag Setting.Absent = refl
  setting_tag Setting.Invalid = refl
  setting_tag (Setting.Set Policy.None) = there 14
  setting_tag (Setting.Set Policy.Quarantine) = there 15
  setting_tag (Setting.Set Policy.Reject) = there 16

  mode_tag : (m : Mode) → tag_words k (mode_word m) ≡ tag_text (name, mode_value m)
  unfolding tag_words mode_word tag_text mode_value record_words tag_names octets
  mode_tag Mode.Relaxed = refl
  mode_tag Mode.Strict = there 18

  psd_tag : (p : Psd) → tag_words k (psd_word p) ≡ tag_text (name, psd_value p)
  unfolding tag_words psd_word tag_text psd_value record_words tag_names octets
  psd_tag Psd.Unset = refl
  psd_tag Psd.Yes = there 19
  psd_tag Psd.No = there 20

  testing_tag : (t : Bool) → tag_words k (testing_word t) ≡ tag_text (name, testing_value t)
  unfolding tag_words testing_word tag_text testing_value record_words tag_names octets
  testing_tag false = refl
  testing_tag true = there 19

-- ------------------------------------------------------------------ one tag more

tags_snoc : (k : ℕ) (vs : List ℕ) (v : ℕ) → tags_from k (vs ++ (v ∷ [])) ≡ tags_from k vs ++ tag_words (k + length vs) v
unfolding tags_from
tags_snoc k [] v = rw (add-zero k) (append-nil (tag_words k v))
tags_snoc k (u ∷ vs) v =
    let next : suc k + length vs ≡ k + suc (length vs) = omega arith in
    ap (λ (t : Octets). tag_words k u ++ t) (rw next at (tags_snoc (suc k) vs v)) ∙ sym (append_assoc (tag_words k u) (tags_from (suc k) vs) (tag_words (k + suc (length vs)) v))

pub one_more : (vs : List ℕ) (i : ℕ) → i < length vs → tags_from 0 (take (i + 1) vs) ≡ tags_from 0 (take i vs) ++ tag_words i (get_or vs i 0)
one_more vs i h =
    let size : 0 + length (take i vs) ≡ i = omega (arith, length-take-le i vs (omega (arith, h))) in
    rw (add-one i, take-suc vs i 0 h) (rw size at (tags_snoc 0 (take i vs) (get_or vs i 0)))

pub all_tags : (vs : List ℕ) (i : ℕ) → length vs ≤ i → tags_from 0 (take i vs) ≡ tags_from 0 vs
all_tags vs i h = rw (take_all i vs h)

-- ------------------------------------------------------------------ the whole text

together : (v a b c d e f g h : Octets) → ((v ++ []) ++ (a ++ (b ++ (c ++ (d ++ (e ++ (f ++ (g ++ [])))))))) ++ h ≡ v ++ (a ++ (b ++ (c ++ (d ++ (e ++ (f ++ (g ++ (h ++ []))))))))
together v a b c d e f g h = simp (append_assoc, append-nil)

-- the first word, the seven tags, and rua
pub record_parts : (s : Settings) (rua : Octets) → (words_of (22 ∷ []) ++ tags_from 0 (value_words s)) ++ tag_text ("rua", rua) ≡ record_octets s rua
unfolding record_octets tag_values flatten tags_from value_words words_of record_words tag_names octets
record_parts s rua =
    rw (setting_tag 0 "p" refl s.p, setting_tag 1 "sp" refl s.sp, setting_tag 2 "np" refl s.np, mode_tag 3 "adkim" refl s.adkim, mode_tag 4 "aspf" refl s.aspf, psd_tag 5 "psd" refl s.psd, testing_tag 6 "t" refl s.t)
    (together (octets "v=DMARC1") (tag_text ("p", setting_value s.p)) (tag_text ("sp", setting_value s.sp)) (tag_text ("np", setting_value s.np))
    (tag_text ("adkim", mode_value s.adkim)) (tag_text ("aspf", mode_value s.aspf)) (tag_text ("psd", psd_value s.psd)) (tag_text ("t", testing_value s.t)) (tag_text ("rua", rua)))

-- rua, in two steps
pub rua_parts : (rua : Octets) → (length rua ≡ 0 → ⊥) → words_of (23 ∷ 7 ∷ 24 ∷ []) ++ rua ≡ tag_text ("rua", rua)
unfolding words_of record_words tag_names flatten octets tag_text
rua_parts [] h = absurd (h refl)
rua_parts (x ∷ rua) h = refl

pub rua_none : (rua : Octets) → length rua ≡ 0 → tag_text ("rua", rua) ≡ []
unfolding tag_text
rua_none [] h = refl
rua_none (x ∷ rua) h = absurd (omega arith)
