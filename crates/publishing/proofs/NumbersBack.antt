-- What is claimed of settings by numbers.
use mathlib.Core.Path.{◌≡◌, refl}
use mathlib.Core.Bool.{Bool, true, false}
use Rattle.policy.specs.declared.Policy.{Policy}
use Rattle.policy.specs.declared.Setting.{Setting}
use Rattle.policy.specs.declared.Mode.{Mode}
use Rattle.policy.specs.declared.Psd.{Psd}
use Rattle.policy.proofs.Computing.{policy_computes}
use Rattle.publishing.specs.Claims.{beside}
use Rattle.publishing.specs.Numbers.{setting_in, mode_in, psd_in, testing_in, settings_in, setting_number, mode_number, psd_number, testing_number, numbers_of, NumbersClaims}

setting_back : (x : Setting) → setting_in (setting_number x) ≡ x
unfolding setting_in setting_number
setting_back (Setting.Set Policy.None) = refl
setting_back (Setting.Set Policy.Quarantine) = refl
setting_back (Setting.Set Policy.Reject) = refl
setting_back Setting.Absent = refl
setting_back Setting.Invalid = refl

mode_back : (x : Mode) → mode_in (mode_number x) ≡ x
unfolding mode_in mode_number
mode_back Mode.Relaxed = refl
mode_back Mode.Strict = refl

psd_back : (x : Psd) → psd_in (psd_number x) ≡ x
unfolding psd_in psd_number
psd_back Psd.Unset = refl
psd_back Psd.Yes = refl
psd_back Psd.No = refl

testing_back : (x : Bool) → testing_in (testing_number x) ≡ x
unfolding testing_in testing_number
testing_back false = refl
testing_back true = refl

pub numbers_claims : NumbersClaims
unfolding policy_computes settings_in numbers_of beside
numbers_claims = record { back = λ s. simp (setting_back, mode_back, psd_back, testing_back) }
