-- `policy_read::read_settings` meets its contract: each setting is read from the value of its tag.
use mathlib.Core.Bool.{false}
use mathlib.Core.Path.{ap, ◌∙◌}
use Rattle.policy.specs.declared.Mode.{Mode}
use Rattle.policy.specs.declared.Psd.{Psd}
use Rattle.policy.specs.Records.{word, mode_words, psd_words, testing_words}
use Rattle.policy.specs.Reports.{has_valid_entry}
use Rattle.policy_read.specs.code.Values.{policy_setting, settings_from}
use Rattle.policy_read.proofs.read_settings.Goals as goal

pub returns : goal.returns
unfolding settings_from
returns c =
    rw (
      c.read_policy.ensures ∙ ap policy_setting c.value_at.ensures,
      c.read_policy-2.ensures ∙ ap policy_setting c.value_at-2.ensures,
      c.read_policy-3.ensures ∙ ap policy_setting c.value_at-3.ensures,
      c.read_mode.ensures ∙ ap (word mode_words Mode.Relaxed) c.value_at-4.ensures,
      c.read_mode-2.ensures ∙ ap (word mode_words Mode.Relaxed) c.value_at-5.ensures,
      c.read_psd.ensures ∙ ap (word psd_words Psd.Unset) c.value_at-6.ensures,
      c.read_testing.ensures ∙ ap (word testing_words false) c.value_at-7.ensures,
      c.has_valid_entry.ensures ∙ ap has_valid_entry c.value_at-8.ensures,
    )
