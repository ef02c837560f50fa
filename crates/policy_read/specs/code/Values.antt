-- The values of the tags that were gathered, and what they set.
use Rattle.std.specs.Prelude.{false, ℕ, take, drop, get_or, if◌then◌else◌}
use Rattle.octets.specs.Octets.{Octets, is_empty}
use Rattle.policy.specs.declared.Mode.{Mode}
use Rattle.policy.specs.declared.Psd.{Psd}
use Rattle.policy.specs.declared.Setting.{Setting}
use Rattle.policy.specs.declared.Settings.{Settings}
use Rattle.policy.specs.Records.{word, policy_words, mode_words, psd_words, testing_words}
use Rattle.policy.specs.Reports.{has_valid_entry}
use Rattle.policy_gather.specs.declared.Gathered.{Gathered}

-- the value of a tag, by its number
unfoldable pub value_at : Octets → Gathered → ℕ → Octets
value_at s g k = take (get_or g.lengths k 0) (drop (get_or g.begins k 0) s)

-- the setting of `p`, `sp` or `np`, absent where the value is empty
unfoldable pub policy_setting : Octets → Setting
policy_setting v = if is_empty v then Setting.Absent else word policy_words Setting.Invalid v

-- what the values of the tags set, by their numbers
unfoldable pub settings_from : (ℕ → Octets) → Settings
settings_from value = record {
  p = policy_setting (value 0);
  sp = policy_setting (value 1);
  np = policy_setting (value 2);
  adkim = word mode_words Mode.Relaxed (value 3);
  aspf = word mode_words Mode.Relaxed (value 4);
  psd = word psd_words Psd.Unset (value 5);
  t = word testing_words false (value 6);
  reports = has_valid_entry (value 7);
}
