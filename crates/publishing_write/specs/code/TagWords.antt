-- A record's tags by the numbers of their words (`policy_words`). 25 is past the table: no word.
use Rattle.std.specs.Prelude.{List, [], ◌∷◌, ◌++◌, Bool, true, false, ℕ, suc, leb, if◌then◌else◌}
use Rattle.octets.specs.Octets.{Octets}
use Rattle.policy.specs.declared.Policy.{Policy}
use Rattle.policy.specs.declared.Setting.{Setting}
use Rattle.policy.specs.declared.Mode.{Mode}
use Rattle.policy.specs.declared.Psd.{Psd}
use Rattle.policy.specs.declared.Settings.{Settings}
use Rattle.policy_words.specs.code.Rows.{words_of}

unfoldable pub setting_word : Setting → ℕ
setting_word Setting.Absent = 25
setting_word Setting.Invalid = 25
setting_word (Setting.Set Policy.None) = 14
setting_word (Setting.Set Policy.Quarantine) = 15
setting_word (Setting.Set Policy.Reject) = 16

unfoldable pub mode_word : Mode → ℕ
mode_word Mode.Relaxed = 25
mode_word Mode.Strict = 18

unfoldable pub psd_word : Psd → ℕ
psd_word Psd.Unset = 25
psd_word Psd.Yes = 19
psd_word Psd.No = 20

unfoldable pub testing_word : Bool → ℕ
testing_word false = 25
testing_word true = 19

-- in the order of the tags' numbers
unfoldable pub value_words : Settings → List ℕ
value_words s =
    setting_word s.p
    ∷ setting_word s.sp
    ∷ setting_word s.np
    ∷ mode_word s.adkim
    ∷ mode_word s.aspf
    ∷ psd_word s.psd
    ∷ testing_word s.t
    ∷ []

-- a tag by the numbers of its name and of its value's word
unfoldable pub tag_words : (name value : ℕ) → Octets
tag_words name value = if leb 25 value then [] else words_of (23 ∷ name ∷ 24 ∷ value ∷ [])

-- the tags from a number on, by their values' words
unfoldable pub tags_from : ℕ → List ℕ → Octets
tags_from name [] = []
tags_from name (value ∷ values) = tag_words name value ++ tags_from (suc name) values
