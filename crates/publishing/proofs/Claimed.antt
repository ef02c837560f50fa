-- What is claimed of written policy records.
use Rattle.std.specs.Prelude.{Some, Option, None}
use mathlib.Core.Path.{◌≡◌, refl, ap, sym, ◌∙◌}
use mathlib.Core.List.{List, []}
use mathlib.Core.Bool.{Bool, true, false, ◌&&◌, not}
use lib.Dec.{T}
use borrow.Author.Tests.{not-false}
use Rattle.octets.specs.Octets.{Octets, octets, all, same}
use Rattle.octets.specs.Refusing.{◌>>=◌, ok, refusal, refuse_if}
use Rattle.octets.proofs.RefusingLaws.{refuse_if_ok}
use Rattle.octets.proofs.TextLaws.{true→T}
use Rattle.policy.specs.Tags.{Tag, tags, tags_from, tag_named}
use Rattle.policy.specs.Reports.{has_valid_entry}
use Rattle.policy.specs.Records.{read, settings, record_of, read_policy, rua_of, rua_text}
use Rattle.policy.specs.declared.Setting.{Setting}
use Rattle.policy.specs.declared.Settings.{Settings}
use Rattle.policy.proofs.Computing.{policy_computes}
use Rattle.force.specs.InForce.{is_set, is_absent, usable}
use Rattle.publishing.specs.Publishing.{tag_values, record_octets, good_rua, written_record}
use Rattle.publishing.specs.Claims.{beside, Reads, PublishingClaims}
use Rattle.publishing.proofs.TagLaws.{good_tag, tag_parts, parts_of, said, said_back, names, names_once}
use Rattle.publishing.proofs.ValueLaws.{all_good, valid, setting_back, mode_back, psd_back, testing_back, reports_back, rua_back}

-- ------------------------------------------------------------------ reading what was written

three : (a b c : Bool) → T (a && b && c) → T a × T b × T c
three true true c t = (tt, tt, t)
three false b c t = absurd t
three true false c t = absurd t

set_valid : (x : Setting) → T (is_set x) → T (valid x)
unfolding valid is_set is_absent
set_valid Setting.Absent t = absurd t
set_valid Setting.Invalid t = absurd t
set_valid (Setting.Set p) t = tt

module _ (s : Settings) (rua : Octets) (g : good_rua rua ≡ true) where
  -- the tags after `v=DMARC1;`
  later : List Tag
  later = tags_from 9 (tag_parts (tag_values s rua))

  good : T (all good_tag (tag_values s rua))
  good = true→T (all_good s rua g)

  tags_written : tags (record_octets s rua) ≡ Some later
  unfolding policy_computes later tag_values names record_octets
  tags_written = rw (parts_of (tag_values s rua) _ good refl, names_once 9 (tag_values s rua) good refl)

  settings_written : usable s ≡ true → settings later ≡ beside rua s
  unfolding settings later beside usable valid said tag_values octets same
  settings_written u =
      let (p, sp, np) = three (is_set s.p) (valid s.sp) (valid s.np) (true→T u) in
      simp (said_back 9 (tag_values s rua) good, setting_back s.p (set_valid s.p p), setting_back s.sp sp, setting_back s.np np, mode_back, psd_back, testing_back, reports_back)

  reads_written : usable s ≡ true → Reads (record_octets s rua) (beside rua s) rua
  unfolding read_policy record_of rua_text rua_of later said tag_values octets same
  reads_written u = record {
    settings = rw tags_written (ap Some (settings_written u));
    addresses = rw tags_written (said_back 9 (tag_values s rua) good [] (λ v. v) (octets "rua") ∙ rua_back rua);
  }

-- ------------------------------------------------------------------ the claims

-- where a text is written, nothing was refused
wrote : (s : Settings) (rua text : Octets) → written_record s rua ≡ ok text → (usable s ≡ true) × (good_rua rua ≡ true) × (record_octets s rua ≡ text)
unfolding written_record
wrote s rua text h =
    let (u, h₁) = refuse_if_ok (not (usable s)) (refusal 15 0) _ text h in
    let (g, h₂) = refuse_if_ok (not (good_rua rua)) (refusal 16 0) _ text h₁ in
    (not-false (usable s) u, not-false (good_rua rua) g, cc h₂)

reads_back : (s : Settings) (rua text : Octets) → written_record s rua ≡ ok text → Reads text (beside rua s) rua
reads_back s rua text h =
    let (u, g, e) = wrote s rua text h in
    rw (← e) (reads_written s rua g u)

-- a record's settings agree with its rua text on whether there is a valid entry
beside_own : (old : Octets) (s : Settings) → read_policy old ≡ Some s → beside (rua_text old) s ≡ s
unfolding policy_computes beside
beside_own old s h = go (tags old) h
  where
    agree : (o : Option Tag) → has_valid_entry (read [] (λ v. v) o) ≡ read false has_valid_entry o
    agree None = refl
    agree (Some t) = refl

    go : (o : Option (List Tag)) → record_of o ≡ Some s → beside (read [] (λ v. v) (rua_of o)) s ≡ s
    go None e = absurd (true→T {b = false} (cc e))
    go (Some ts) e =
        let own : settings ts ≡ s = cc e in
        rw (← own, agree (tag_named (octets "rua") ts))

same_settings : (old : Octets) (s : Settings) → read_policy old ≡ Some s → usable s ≡ true → good_rua (rua_text old) ≡ true
    → (new : Octets) × (written_record s (rua_text old) ≡ ok new) × Reads new s (rua_text old)
unfolding written_record refuse_if ◌>>=◌
same_settings old s r u g =
    let back = reads_written s (rua_text old) g u in
    (record_octets s (rua_text old), rw (u, g), record { settings = back.settings ∙ ap Some (beside_own old s r); addresses = back.addresses })

no_octet : (old new : Octets) (s again : Settings) → read_policy old ≡ Some s → written_record s (rua_text old) ≡ ok new
    → read_policy new ≡ Some again → written_record again (rua_text new) ≡ ok new
unfolding written_record beside usable record_octets tag_values
no_octet old new s again _ h r =
    let back = reads_back s (rua_text old) new h in
    let own : beside (rua_text old) s ≡ again = cc (sym back.settings ∙ r) in
    rw (← own, back.addresses) h

pub publishing_claims : PublishingClaims
publishing_claims = record { reads_back = reads_back; same_settings = same_settings; no_octet = no_octet }
