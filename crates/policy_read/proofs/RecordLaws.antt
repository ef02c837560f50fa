-- Laws of what a text sets.
use mathlib.Core.Bool.{true, false, not}
use mathlib.Core.List.{List, [], ◌∷◌}
use mathlib.Core.Path.{◌≡◌, refl, ap, sym, ◌∙◌}
use Prim.Native.Nat.{ℕ, ◌+◌, ◌-◌, ◌≤◌, ◌<◌}
use native.Mathlib.Omega.{arith}
use lib.Dec.{eqb}
use lib.ListN.{length, take, drop}
use Rattle.std.specs.Prelude.{if◌then◌else◌, Some, None, Option}
use Rattle.octets.specs.Octets.{Octets, octets, any, same, lower, split, front, after, trim_end, trim}
use Rattle.policy.specs.declared.Bounds.{Bounds}
use Rattle.policy.specs.declared.Mode.{Mode}
use Rattle.policy.specs.declared.Psd.{Psd}
use Rattle.policy.specs.declared.Setting.{Setting}
use Rattle.policy.specs.Records.{word, policy_words, mode_words, psd_words, testing_words, read, settings, record_of, read_policy, rua_of, rua_text, rua_begin, rua_length, rua_bounds}
use Rattle.policy.specs.Reports.{valid_entry, has_valid_entry}
use Rattle.policy.specs.Tags.{Tag, later_tags, parts, is_record, tags, tag_named}
use Rattle.policy_words.specs.code.Rows.{tag_names, tag_name}
use Rattle.policy_gather.specs.declared.Gathered.{Gathered}
use Rattle.policy_gather.specs.code.Gathering.{bounds_of, bounds_at, Gathers}
use Rattle.policy_gather.proofs.StartLaws.{later}
use Rattle.policy_read.specs.code.Values.{value_at, policy_setting, settings_from}
use Rattle.policy_read.proofs.PlaceLaws.{Held, held_none, held, held_fits, held_cut, read_none, read_some, read_either}

-- ------------------------------------------------------------------ the setting of p, sp or np

pub empty_value : (v : Octets) → length v ≡ 0 → Setting.Absent ≡ policy_setting v
unfolding policy_setting
empty_value [] h = refl
empty_value (x ∷ v) h = absurd (omega arith)

pub some_value : (v : Octets) → (length v ≡ 0 → ⊥) → word policy_words Setting.Invalid v ≡ policy_setting v
unfolding policy_setting
some_value [] h = absurd (h refl)
some_value (x ∷ v) h = refl

-- ------------------------------------------------------------------ values that set what holds where they are absent

module _ (o : Option Tag) (v : Octets) (e : v ≡ read [] (λ l. l) o) where
  policy_value : (s : Octets) → Held s o → policy_setting v ≡ read Setting.Absent (word policy_words Setting.Invalid) o
  policy_value s h = go v refl
    where
      go : (l : Octets) → v ≡ l → policy_setting v ≡ read Setting.Absent (word policy_words Setting.Invalid) o
      go [] q = sym (empty_value v (ap length q)) ∙ read_none Setting.Absent (word policy_words Setting.Invalid) s o h v e (ap length q)
      go (x ∷ l) q =
          let some : length v ≡ 0 → ⊥ = λ z. omega (arith, ap length q, z) in
          sym (some_value v some) ∙ read_some Setting.Absent (word policy_words Setting.Invalid) o v e some

  mode_value : word mode_words Mode.Relaxed v ≡ read Mode.Relaxed (word mode_words Mode.Relaxed) o
  unfolding word mode_words octets same lower
  mode_value = read_either Mode.Relaxed (word mode_words Mode.Relaxed) refl o v e

  psd_value : word psd_words Psd.Unset v ≡ read Psd.Unset (word psd_words Psd.Unset) o
  unfolding word psd_words octets same lower
  psd_value = read_either Psd.Unset (word psd_words Psd.Unset) refl o v e

  testing_value : word testing_words false v ≡ read false (word testing_words false) o
  unfolding word testing_words octets same lower
  testing_value = read_either false (word testing_words false) refl o v e

  reports_value : has_valid_entry v ≡ read false has_valid_entry o
  unfolding has_valid_entry valid_entry any split after trim_end trim
  reports_value = read_either false has_valid_entry refl o v e

settings_values : (s : Octets) (ts : List Tag) (value : ℕ → Octets) → ((n : Octets) → Held s (tag_named n ts)) → ((k : ℕ) → k < 8 → value k ≡ read [] (λ l. l) (tag_named (tag_name k) ts)) → settings_from value ≡ settings ts
unfolding settings_from settings tag_name tag_names
settings_values s ts value h e = rw (
  policy_value (tag_named (octets "p") ts) (value 0) (e 0 (omega arith)) s (h (octets "p")),
  policy_value (tag_named (octets "sp") ts) (value 1) (e 1 (omega arith)) s (h (octets "sp")),
  policy_value (tag_named (octets "np") ts) (value 2) (e 2 (omega arith)) s (h (octets "np")),
  mode_value (tag_named (octets "adkim") ts) (value 3) (e 3 (omega arith)),
  mode_value (tag_named (octets "aspf") ts) (value 4) (e 4 (omega arith)),
  psd_value (tag_named (octets "psd") ts) (value 5) (e 5 (omega arith)),
  testing_value (tag_named (octets "t") ts) (value 6) (e 6 (omega arith)),
  reports_value (tag_named (octets "rua") ts) (value 7) (e 7 (omega arith)),
)

-- ------------------------------------------------------------------ the tags of a text

module _ (s : Octets) where
  later_held : (n : Octets) → Held s (tag_named n (later_tags (parts s)))
  later_held n = rw (later s) (held s n (length (front (λ x. not (eqb x 59)) s) + 1))

  -- its rua text
  rua_found : bounds_of (rua_of (tags s)) ≡ rua_bounds s
  unfolding rua_bounds rua_begin rua_length rua_text bounds_of read
  rua_found = go (rua_of (tags s))
    where
      go : (o : Option Tag) → bounds_of o ≡ record { begin = elim o as (λ _. ℕ) [ None ↦ 0 | Some t ↦ t.place ]; length = length (read [] (λ v. v) o) }
      go None = refl
      go (Some t) = refl

  rua_held : Held s (rua_of (tags s))
  unfolding tags rua_of
  rua_held =
      elim (is_record (parts s)) as (λ b. Held s (rua_of (if b then Some (later_tags (parts s)) else None))) [
        | true ↦ later_held (octets "rua")
        | false ↦ held_none s
      ]

  pub rua_fits : (b : Bounds) → b ≡ rua_bounds s → b.begin + b.length ≤ length s
  rua_fits b e = held_fits s (rua_of (tags s)) rua_held b (e ∙ sym rua_found)

  -- as code cuts it out
  pub rua_cut : (b : Bounds) → b ≡ rua_bounds s → take (b.begin + b.length - b.begin) (drop b.begin s) ≡ take (rua_length s) (drop (rua_begin s) s)
  unfolding rua_bounds
  rua_cut b e =
      let size : b.begin + b.length - b.begin ≡ b.length = omega arith in
      rw (size, e)

  -- ------------------------------------------------------------------ what a text is

  pub no_record : Gathers s None → None ≡ read_policy s
  unfolding read_policy record_of tags
  no_record w = rw (sym w.judged)

  pub no_rua : Gathers s None → bounds_of None ≡ rua_bounds s
  unfolding tags rua_of
  no_rua w = rw (sym w.judged) at rua_found

  module _ (g : Gathered) (w : Gathers s (Some g)) where
    valued : (k : ℕ) → k < 8 → value_at s g k ≡ read [] (λ l. l) (tag_named (tag_name k) (later_tags (parts s)))
    unfolding value_at bounds_at
    valued k h = held_cut s (tag_named (tag_name k) (later_tags (parts s))) (later_held (tag_name k)) (bounds_at g k) (w.placed g refl k h)

    pub one_record : Some (settings_from (value_at s g)) ≡ read_policy s
    unfolding read_policy record_of tags
    one_record = rw (sym w.judged) (ap Some (settings_values s (later_tags (parts s)) (value_at s g) later_held valued))

    pub one_rua : bounds_at g 7 ≡ rua_bounds s
    unfolding tags rua_of tag_name tag_names
    one_rua = w.placed g refl 7 (omega arith) ∙ (rw (sym w.judged) at rua_found)
