-- A policy record written from its settings and a rua text (document 02, Ask 4).
use mathlib.Core.List.{List, [], ◌∷◌, ◌++◌, map, flatten}
use Rattle.std.specs.Prelude.{Bool, true, false, ◌&&◌, ◌||◌, not, leb, length, if◌then◌else◌}
use Prim.Native.String.{String}
use Rattle.octets.specs.Octets.{Octets, octets, is_empty, all, same, between, one_of, split, trim}
use Rattle.octets.specs.Refusing.{◌>>=◌, OrRefused, ok, refusal, refuse_if}
use Rattle.policy.specs.Reports.{valid_entry}
use Rattle.policy.specs.declared.Policy.{Policy}
use Rattle.policy.specs.declared.Setting.{Setting}
use Rattle.policy.specs.declared.Mode.{Mode}
use Rattle.policy.specs.declared.Psd.{Psd}
use Rattle.policy.specs.declared.Settings.{Settings}
use Rattle.force.specs.InForce.{usable}

-- ------------------------------------------------------------------ values

-- a tag's value; empty where the tag is "left out when it is absent or at its default" (an invalid one is refused)
unfoldable pub setting_value : Setting → Octets
setting_value Setting.Absent = []
setting_value Setting.Invalid = []
setting_value (Setting.Set Policy.None) = octets "none"
setting_value (Setting.Set Policy.Quarantine) = octets "quarantine"
setting_value (Setting.Set Policy.Reject) = octets "reject"

unfoldable pub mode_value : Mode → Octets
mode_value Mode.Relaxed = []
mode_value Mode.Strict = octets "s"

unfoldable pub psd_value : Psd → Octets
psd_value Psd.Unset = []
psd_value Psd.Yes = octets "y"
psd_value Psd.No = octets "n"

unfoldable pub testing_value : Bool → Octets
testing_value false = []
testing_value true = octets "y"

-- ------------------------------------------------------------------ the text

-- "p, sp, np, adkim, aspf, psd, t, rua in that order"
unfoldable pub tag_values : Settings → (rua : Octets) → List (String × Octets)
tag_values s rua =
    ("p", setting_value s.p)
    ∷ ("sp", setting_value s.sp)
    ∷ ("np", setting_value s.np)
    ∷ ("adkim", mode_value s.adkim)
    ∷ ("aspf", mode_value s.aspf)
    ∷ ("psd", psd_value s.psd)
    ∷ ("t", testing_value s.t)
    ∷ ("rua", rua)
    ∷ []

-- a tag, "parted by `; `" from what stands before it
unfoldable pub tag_text : String × Octets → Octets
tag_text t = if is_empty t.1 then [] else octets "; " ++ octets t.0 ++ octets "=" ++ t.1

-- "From the chosen policies, modes, psd, t and a rua text, write the record: `v=DMARC1`, then .."
unfoldable pub record_octets : Settings → (rua : Octets) → Octets
record_octets s rua = octets "v=DMARC1" ++ flatten (map tag_text (tag_values s rua))

-- ------------------------------------------------------------------ refusals

-- neither "an entry that is not valid, a `;`, an octet outside 32 to 126, a blank at either end" nor "over 4,096 octets"
unfoldable pub good_entries : Octets → Bool
good_entries rua =
    all (λ e. valid_entry (trim e)) (split 44 rua)
    && not (one_of rua 59)
    && all (between 32 126) rua
    && same (trim rua) rua
    && leb (length rua) 4096

-- refusal 16 is of "a rua text that is not empty and has .."
unfoldable pub good_rua : Octets → Bool
good_rua rua = is_empty rua || good_entries rua

-- 15 "`p` absent or a policy setting invalid", which is not usable; "order 15, 16, 10"; "A later number's place is 0"
unfoldable pub written_record : Settings → (rua : Octets) → OrRefused Octets
written_record s rua = do
  _ ← refuse_if (not (usable s)) (refusal 15 0)
  _ ← refuse_if (not (good_rua rua)) (refusal 16 0)
  ok (record_octets s rua)
