-- Settings by numbers, as programs in other languages hand them over and get them.
use Rattle.std.specs.Prelude.{◌≡◌, [], ◌∷◌, Bool, true, false, ℕ, get_or, Option, Some, None}
use Rattle.policy.specs.declared.Policy.{Policy}
use Rattle.policy.specs.declared.Setting.{Setting}
use Rattle.policy.specs.declared.Mode.{Mode}
use Rattle.policy.specs.declared.Psd.{Psd}
use Rattle.policy.specs.declared.Settings.{Settings}
use Rattle.policy.specs.declared.Bounds.{Bounds}
use Rattle.publishing.specs.declared.RecordNumbers.{RecordNumbers}
use Rattle.publishing.specs.declared.RecordRead.{RecordRead}
use Rattle.publishing.specs.Claims.{beside}

-- ------------------------------------------------------------------ from numbers

-- "Any other value of `p`, `sp`, `np` is remembered as invalid; of the others, the default holds": so with numbers
unfoldable pub setting_in : ℕ → Setting
setting_in n = get_or (Setting.Set Policy.None ∷ Setting.Set Policy.Quarantine ∷ Setting.Set Policy.Reject ∷ Setting.Absent ∷ []) n Setting.Invalid

unfoldable pub mode_in : ℕ → Mode
mode_in n = get_or (Mode.Relaxed ∷ Mode.Strict ∷ []) n Mode.Relaxed

unfoldable pub psd_in : ℕ → Psd
psd_in n = get_or (Psd.Unset ∷ Psd.Yes ∷ Psd.No ∷ []) n Psd.Unset

unfoldable pub testing_in : ℕ → Bool
testing_in n = get_or (false ∷ true ∷ []) n false

-- whether rua has a valid entry is not handed over
unfoldable pub settings_in : RecordNumbers → Settings
settings_in n = record {
  p = setting_in n.p;
  sp = setting_in n.sp;
  np = setting_in n.np;
  adkim = mode_in n.adkim;
  aspf = mode_in n.aspf;
  psd = psd_in n.psd;
  t = testing_in n.t;
  reports = false;
}

-- ------------------------------------------------------------------ to numbers

unfoldable pub setting_number : Setting → ℕ
setting_number (Setting.Set Policy.None) = 0
setting_number (Setting.Set Policy.Quarantine) = 1
setting_number (Setting.Set Policy.Reject) = 2
setting_number Setting.Absent = 3
setting_number Setting.Invalid = 4

unfoldable pub mode_number : Mode → ℕ
mode_number Mode.Relaxed = 0
mode_number Mode.Strict = 1

unfoldable pub psd_number : Psd → ℕ
psd_number Psd.Unset = 0
psd_number Psd.Yes = 1
psd_number Psd.No = 2

unfoldable pub testing_number : Bool → ℕ
testing_number false = 0
testing_number true = 1

unfoldable pub numbers_of : Settings → RecordNumbers
numbers_of s = record {
  p = setting_number s.p;
  sp = setting_number s.sp;
  np = setting_number s.np;
  adkim = mode_number s.adkim;
  aspf = mode_number s.aspf;
  psd = psd_number s.psd;
  t = testing_number s.t;
}

-- ------------------------------------------------------------------ answers

-- all 0 where a text is no policy record
unfoldable pub read_numbers : Option Settings → Bounds → RecordRead
read_numbers None b = record {
  is_record = false;
  numbers = record { p = 0; sp = 0; np = 0; adkim = 0; aspf = 0; psd = 0; t = 0 };
  reports = false;
  rua_begin = 0;
  rua_length = 0;
}
read_numbers (Some s) b = record {
  is_record = true;
  numbers = numbers_of s;
  reports = s.reports;
  rua_begin = b.begin;
  rua_length = b.length;
}

-- ------------------------------------------------------------------ claimed of them

pub record NumbersClaims : Type 0 where
  -- settings handed out and handed in again are the same; whether rua has a valid entry is not handed in
  pub back : (s : Settings) → settings_in (numbers_of s) ≡ beside [] s
