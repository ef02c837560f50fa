-- Laws of the values of a record's tags: each is one that reads back, and says its setting.
use mathlib.Core.Path.{◌≡◌, refl}
use mathlib.Core.List.{[], ◌∷◌}
use mathlib.Core.Bool.{Bool, true, false, ◌&&◌, ◌||◌, not}
use lib.Dec.{T, leb}
use lib.ListN.{length}
use Rattle.std.specs.Prelude.{if◌then◌else◌}
use Rattle.octets.specs.Octets.{Octets, is_empty, all, one_of, same, between, split, trim}
use Rattle.octets.proofs.Computing.{octets_computes}
use Rattle.octets.proofs.TextLaws.{true→T}
use Rattle.policy.specs.Reports.{valid_entry, has_valid_entry}
use Rattle.policy.specs.Records.{word, policy_words, mode_words, psd_words, testing_words}
use Rattle.policy.specs.declared.Policy.{Policy}
use Rattle.policy.specs.declared.Setting.{Setting}
use Rattle.policy.specs.declared.Mode.{Mode}
use Rattle.policy.specs.declared.Psd.{Psd}
use Rattle.policy.specs.declared.Settings.{Settings}
use Rattle.policy.proofs.Computing.{policy_computes}
use Rattle.force.specs.InForce.{is_set, is_absent}
use Rattle.publishing.specs.Publishing.{setting_value, mode_value, psd_value, testing_value, tag_values, good_entries, good_rua}
use Rattle.publishing.proofs.TagLaws.{good_name, good_value, good_tag}

-- ------------------------------------------------------------------ every tag is good

setting_good : (x : Setting) → good_value (setting_value x) ≡ true
unfolding octets_computes good_value setting_value
setting_good Setting.Absent = refl
setting_good Setting.Invalid = refl
setting_good (Setting.Set Policy.None) = refl
setting_good (Setting.Set Policy.Quarantine) = refl
setting_good (Setting.Set Policy.Reject) = refl

mode_good : (x : Mode) → good_value (mode_value x) ≡ true
unfolding octets_computes good_value mode_value
mode_good Mode.Relaxed = refl
mode_good Mode.Strict = refl

psd_good : (x : Psd) → good_value (psd_value x) ≡ true
unfolding octets_computes good_value psd_value
psd_good Psd.Yes = refl
psd_good Psd.No = refl
psd_good Psd.Unset = refl

testing_good : (x : Bool) → good_value (testing_value x) ≡ true
unfolding octets_computes good_value testing_value
testing_good true = refl
testing_good false = refl

rua_good : (rua : Octets) → good_rua rua ≡ true → good_value rua ≡ true
unfolding octets_computes good_rua good_entries good_value
rua_good [] h = refl
rua_good (x ∷ s) h =
    go (all (λ e. valid_entry (trim e)) (split 44 (x ∷ s))) (not (one_of (x ∷ s) 59)) (all (between 32 126) (x ∷ s)) (same (trim (x ∷ s)) (x ∷ s)) (leb (length (x ∷ s)) 4096) (true→T h)
  where
    go : (a b c d e : Bool) → T (a && b && c && d && e) → (b && c && d) ≡ true
    go true true true true e t = refl
    go false b c d e t = absurd t
    go true false c d e t = absurd t
    go true true false d e t = absurd t
    go true true true false e t = absurd t

pub all_good : (s : Settings) (rua : Octets) → good_rua rua ≡ true → all good_tag (tag_values s rua) ≡ true
unfolding octets_computes tag_values good_tag good_name good_value
all_good s rua h = simp (setting_good, mode_good, psd_good, testing_good, rua_good rua h)

-- ------------------------------------------------------------------ each value says its setting

unfoldable pub valid : Setting → Bool
valid x = is_absent x || is_set x

pub setting_back : (x : Setting) → T (valid x) → (if not (is_empty (setting_value x)) then word policy_words Setting.Invalid (setting_value x) else Setting.Absent) ≡ x
unfolding policy_computes valid is_absent is_set setting_value
setting_back Setting.Absent t = refl
setting_back Setting.Invalid t = absurd t
setting_back (Setting.Set Policy.None) t = refl
setting_back (Setting.Set Policy.Quarantine) t = refl
setting_back (Setting.Set Policy.Reject) t = refl

pub mode_back : (x : Mode) → (if not (is_empty (mode_value x)) then word mode_words Mode.Relaxed (mode_value x) else Mode.Relaxed) ≡ x
unfolding policy_computes mode_value
mode_back Mode.Relaxed = refl
mode_back Mode.Strict = refl

pub psd_back : (x : Psd) → (if not (is_empty (psd_value x)) then word psd_words Psd.Unset (psd_value x) else Psd.Unset) ≡ x
unfolding policy_computes psd_value
psd_back Psd.Yes = refl
psd_back Psd.No = refl
psd_back Psd.Unset = refl

pub testing_back : (x : Bool) → (if not (is_empty (testing_value x)) then word testing_words false (testing_value x) else false) ≡ x
unfolding policy_computes testing_value
testing_back true = refl
testing_back false = refl

pub reports_back : (rua : Octets) → (if not (is_empty rua) then has_valid_entry rua else false) ≡ has_valid_entry rua
unfolding policy_computes
reports_back [] = refl
reports_back (x ∷ rua) = refl

pub rua_back : (rua : Octets) → (if not (is_empty rua) then rua else []) ≡ rua
rua_back [] = refl
rua_back (x ∷ rua) = refl
