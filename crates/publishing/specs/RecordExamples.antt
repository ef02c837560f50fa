-- Policy records as they are written (document 02, Ask 4): "`v=DMARC1`, then p, sp, np, adkim, aspf, psd, t, rua in that order, parted by `; `, a tag
-- left out when it is absent or at its default, p always written".
use Rattle.std.specs.Prelude.{◌≡◌, List, [], ◌∷◌, map, Bool, true, false, ℕ}
use Prim.Native.String.{String}
use Rattle.octets.specs.Octets.{Octets, octets}
use Rattle.octets.specs.Refusing.{OrRefused, ok, not_ok, refusal}
use Rattle.policy.specs.declared.Policy.{Policy}
use Rattle.policy.specs.declared.Setting.{Setting}
use Rattle.policy.specs.declared.Mode.{Mode}
use Rattle.policy.specs.declared.Psd.{Psd}
use Rattle.policy.specs.declared.Settings.{Settings}
use Rattle.publishing.specs.Publishing.{written_record}

-- settings and a rua text, and what is written for them
pub record RecordRow : Type 0 where
  pub settings : Settings
  pub rua : String
  pub text : OrRefused Octets

abbrev of_tags : (p sp np : Setting) → (adkim aspf : Mode) → Psd → (t : Bool) → Settings
of_tags p sp np adkim aspf psd t = record { p = p; sp = sp; np = np; adkim = adkim; aspf = aspf; psd = psd; t = t; reports = false }

-- the three policies, the other tags at their defaults
abbrev policies : (p sp np : Setting) → Settings
policies p sp np = of_tags p sp np Mode.Relaxed Mode.Relaxed Psd.Unset false

abbrev absent : Setting
absent = Setting.Absent

abbrev invalid : Setting
invalid = Setting.Invalid

abbrev none : Setting
none = Setting.Set Policy.None

abbrev quarantine : Setting
quarantine = Setting.Set Policy.Quarantine

abbrev reject : Setting
reject = Setting.Set Policy.Reject

abbrev writes : Settings → (rua text : String) → RecordRow
writes s rua text = record { settings = s; rua = rua; text = ok (octets text) }

abbrev not_written : Settings → (rua : String) → (number : ℕ) → RecordRow
not_written s rua n = record { settings = s; rua = rua; text = not_ok (refusal n 0) }

unfoldable pub record_table : List RecordRow
record_table =
    -- "p always written"
    writes (policies none absent absent) "" "v=DMARC1; p=none"
    ∷ writes (policies quarantine absent absent) "" "v=DMARC1; p=quarantine"
    -- sp and np have no default: one that equals p is written
    ∷ writes (policies reject reject absent) "" "v=DMARC1; p=reject; sp=reject"
    ∷ writes (policies reject absent none) "" "v=DMARC1; p=reject; np=none"
    -- each tag that is not "at its default"
    ∷ writes (of_tags none absent absent Mode.Strict Mode.Relaxed Psd.Unset false) "" "v=DMARC1; p=none; adkim=s"
    ∷ writes (of_tags none absent absent Mode.Relaxed Mode.Strict Psd.Unset false) "" "v=DMARC1; p=none; aspf=s"
    ∷ writes (of_tags none absent absent Mode.Relaxed Mode.Relaxed Psd.Yes false) "" "v=DMARC1; p=none; psd=y"
    ∷ writes (of_tags none absent absent Mode.Relaxed Mode.Relaxed Psd.No false) "" "v=DMARC1; p=none; psd=n"
    ∷ writes (of_tags none absent absent Mode.Relaxed Mode.Relaxed Psd.Unset true) "" "v=DMARC1; p=none; t=y"
    ∷ writes (policies none absent absent) "mailto:a@b.example, mailto:c@d.example" "v=DMARC1; p=none; rua=mailto:a@b.example, mailto:c@d.example"
    -- "in that order, parted by `; `"
    ∷ writes (of_tags reject quarantine none Mode.Strict Mode.Strict Psd.No true) "mailto:a@b.example"
    "v=DMARC1; p=reject; sp=quarantine; np=none; adkim=s; aspf=s; psd=n; t=y; rua=mailto:a@b.example"
    -- "15 `p` absent or a policy setting invalid"; "order 15, 16"
    ∷ not_written (policies absent none none) "" 15
    ∷ not_written (policies none invalid absent) "x" 15
    -- "16 a rua text that .. has an entry that is not valid, .. a blank at either end"
    ∷ not_written (policies none absent absent) "mailto:a@b.example,x" 16
    ∷ not_written (policies none absent absent) "mailto:a@b.example " 16
    ∷ []

unfoldable pub RecordsWritten : Type 0
RecordsWritten = map (λ w. written_record w.settings (octets w.rua)) record_table ≡ map (λ w. w.text) record_table
