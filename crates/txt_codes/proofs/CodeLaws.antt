-- A reply that is kept as a number is read back as it was.
use mathlib.Core.Path.{◌≡◌, refl, ap, ◌∙◌}
use mathlib.Core.Bool.{Bool, true, false}
use Prim.Native.Nat.{◌+◌, ◌-◌, ◌/◌, ◌%◌, ◌<◌}
use native.Mathlib.Omega.{arith}
use borrow.Author.Tests.{ne_eqb}
use Rattle.policy.specs.declared.Policy.{Policy}
use Rattle.policy.specs.declared.Setting.{Setting}
use Rattle.policy.specs.declared.Mode.{Mode}
use Rattle.policy.specs.declared.Psd.{Psd}
use Rattle.policy.specs.declared.Settings.{Settings}
use Rattle.txt.specs.declared.Reply.{Reply}
use Rattle.txt_codes.specs.code.Codes.{setting_code, mode_code, psd_code, flag_code, settings_code, reply_code, setting_of, mode_of_code, psd_of, flag_of, settings_of, reply_of}

-- ------------------------------------------------------------------ one digit

setting_back : (x : Setting) → setting_of (setting_code x) ≡ x
unfolding setting_of
setting_back Setting.Absent = refl
setting_back Setting.Invalid = refl
setting_back (Setting.Set Policy.None) = refl
setting_back (Setting.Set Policy.Quarantine) = refl
setting_back (Setting.Set Policy.Reject) = refl

setting_small : (x : Setting) → setting_code x < 5
setting_small Setting.Absent = omega arith
setting_small Setting.Invalid = omega arith
setting_small (Setting.Set Policy.None) = omega arith
setting_small (Setting.Set Policy.Quarantine) = omega arith
setting_small (Setting.Set Policy.Reject) = omega arith

mode_back : (x : Mode) → mode_of_code (mode_code x) ≡ x
unfolding mode_of_code
mode_back Mode.Relaxed = refl
mode_back Mode.Strict = refl

mode_small : (x : Mode) → mode_code x < 2
mode_small Mode.Relaxed = omega arith
mode_small Mode.Strict = omega arith

psd_back : (x : Psd) → psd_of (psd_code x) ≡ x
unfolding psd_of
psd_back Psd.Yes = refl
psd_back Psd.No = refl
psd_back Psd.Unset = refl

psd_small : (x : Psd) → psd_code x < 3
psd_small Psd.Yes = omega arith
psd_small Psd.No = omega arith
psd_small Psd.Unset = omega arith

flag_back : (x : Bool) → flag_of (flag_code x) ≡ x
flag_back true = refl
flag_back false = refl

flag_small : (x : Bool) → flag_code x < 2
flag_small true = omega arith
flag_small false = omega arith

-- ------------------------------------------------------------------ all digits

module _ (s : Settings) where
  settings_digits : (settings_code s % 5 ≡ setting_code s.p)
      × (settings_code s / 5 % 5 ≡ setting_code s.sp)
      × (settings_code s / 25 % 5 ≡ setting_code s.np)
      × (settings_code s / 125 % 2 ≡ mode_code s.adkim)
      × (settings_code s / 250 % 2 ≡ mode_code s.aspf)
      × (settings_code s / 500 % 3 ≡ psd_code s.psd)
      × (settings_code s / 1500 % 2 ≡ flag_code s.t)
      × (settings_code s / 3000 % 2 ≡ flag_code s.reports)
      × (settings_code s < 6000)
  settings_digits = omega (
    arith,
    setting_small s.p,
    setting_small s.sp,
    setting_small s.np,
    mode_small s.adkim,
    mode_small s.aspf,
    psd_small s.psd,
    flag_small s.t,
    flag_small s.reports,
  )

  pub settings_back : settings_of (settings_code s) ≡ s
  unfolding settings_of
  settings_back =
      let d = settings_digits in
      λ i. record {
        p = (ap setting_of d.0 ∙ setting_back s.p) i;
        sp = (ap setting_of d.1 ∙ setting_back s.sp) i;
        np = (ap setting_of d.2 ∙ setting_back s.np) i;
        adkim = (ap mode_of_code d.3 ∙ mode_back s.adkim) i;
        aspf = (ap mode_of_code d.4 ∙ mode_back s.aspf) i;
        psd = (ap psd_of d.5 ∙ psd_back s.psd) i;
        t = (ap flag_of d.6 ∙ flag_back s.t) i;
        reports = (ap flag_of d.7 ∙ flag_back s.reports) i;
      }

-- ------------------------------------------------------------------ a reply

pub reply_back : (r : Reply) → reply_of (reply_code r) ≡ r
unfolding reply_code reply_of
reply_back Reply.Error = refl
reply_back Reply.NoRecord = refl
reply_back (Reply.Record s) =
    let n = settings_code s in
    let same : 2 + n - 2 ≡ n = omega arith in
    rw (ne_eqb (2 + n) 0 (omega arith), ne_eqb (2 + n) 1 (omega arith), same) (ap Reply.Record (settings_back s))

pub reply_small : (r : Reply) → reply_code r < 6002
unfolding reply_code
reply_small Reply.Error = omega arith
reply_small Reply.NoRecord = omega arith
reply_small (Reply.Record s) = omega (arith, (settings_digits s).8)
