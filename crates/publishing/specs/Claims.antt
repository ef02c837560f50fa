-- What is claimed of written policy records (document 02, Ask 4).
use Rattle.std.specs.Prelude.{◌≡◌, true, Some}
use Rattle.octets.specs.Octets.{Octets}
use Rattle.octets.specs.Refusing.{ok}
use Rattle.policy.specs.Reports.{has_valid_entry}
use Rattle.policy.specs.Records.{read_policy, rua_text}
use Rattle.policy.specs.declared.Settings.{Settings}
use Rattle.force.specs.InForce.{usable}
use Rattle.publishing.specs.Publishing.{good_rua, written_record}

-- settings beside a rua text: whether it has a valid entry is what the text says
unfoldable pub beside : Octets → Settings → Settings
beside rua s = record {
  p = s.p;
  sp = s.sp;
  np = s.np;
  adkim = s.adkim;
  aspf = s.aspf;
  psd = s.psd;
  t = s.t;
  reports = has_valid_entry rua;
}

-- a text is a policy record with these settings and this rua text
pub record Reads (text : Octets) (s : Settings) (rua : Octets) : Type 0 where
  pub settings : read_policy text ≡ Some s
  pub addresses : rua_text text ≡ rua

pub record PublishingClaims : Type 0 where
  -- "Reading what was written gives back the same settings"
  pub reads_back : (s : Settings) (rua text : Octets) → written_record s rua ≡ ok text → Reads text (beside rua s) rua
  -- "Reading any usable record whose rua refusal 16 allows, and writing it, gives a text with the same settings"
  pub same_settings : (old : Octets) (s : Settings) → read_policy old ≡ Some s → usable s ≡ true → good_rua (rua_text old) ≡ true
      → (new : Octets) × (written_record s (rua_text old) ≡ ok new) × Reads new s (rua_text old)
  -- "and doing so again changes no octet"
  pub no_octet : (old new : Octets) (s again : Settings) → read_policy old ≡ Some s → written_record s (rua_text old) ≡ ok new
      → read_policy new ≡ Some again → written_record again (rua_text new) ≡ ok new
