-- What is claimed of names, answers, walks and sheets: document 01's rules, and the readings "that look right and aren't".
use Rattle.std.specs.Prelude.{◌≡◌, List, [], ◌∷◌, ◌++◌, true, false, ℕ, ◌-◌, ◌≤◌, ◌<◌, min, length, drop, get_or, Some}
use Rattle.octets.specs.Octets.{Octets, all, is_nothing, same_text}
use Rattle.octets.specs.Refusing.{ok}
use Rattle.lookup.specs.Lookup.{Name, value, list}
use Rattle.domain.specs.Domain.{Domain, is_domain, label_count, begin_of, targets, can_ask, asked_name}
use Rattle.policy.specs.declared.Psd.{Psd}
use Rattle.policy.specs.declared.Settings.{Settings}
use Rattle.txt.specs.declared.Reply.{Reply}
use Rattle.txt.specs.declared.Status.{Status}
use Rattle.txt.specs.Answers.{records, no_records, lookup_error, texts, texts_read, policy_records, reply}
use Rattle.walk.specs.Walk.{record_at, Found, organizational, organizational_domain}
use Rattle.walk.specs.Claims.{holds_error, is_unset}
use Rattle.records.specs.Sheet.{Entry, answer_entry, entries}

pub record RulesHold : Type 0 where
  -- ---------------------------------------------------------------- a walk's targets, whatever the number of labels
  -- "looks at the domain"
  pub first_target : (d : Domain) → get_or (targets d) 0 [] ≡ d
  -- as many as it has labels, at most eight
  pub target_count : (d : Domain) → length (targets d) ≡ min 8 (label_count d)
  -- "its last x-1 labels, or its last 7 if x is over 8, then one label fewer each time down to one"
  pub labels_left : (d : Domain) (k : ℕ) → 0 < k → k < length (targets d) → label_count (get_or (targets d) k []) ≡ length (targets d) - k
  -- each is an end of the domain, so its place in the domain marks it
  pub marked_by_place : (d : Domain) (k : ℕ) → get_or (targets d) k [] ≡ drop (begin_of (get_or (targets d) k []) d) d
  -- "A target over 246 octets is not asked": every name that is asked keeps the domain rule
  pub names_keep_the_rule : (d : Domain) → is_domain d ≡ true
      → (k : ℕ) → k < length (targets d) → can_ask (get_or (targets d) k []) ≡ true → is_domain (asked_name (get_or (targets d) k [])) ≡ true
  -- ---------------------------------------------------------------- answers
  -- not "Reading two records as the first": there is none
  pub two_records : (bytes : Octets) (ts : List Octets) (s r : Settings) (more : List Settings)
      → texts_read bytes ≡ Some ts → policy_records ts ≡ s ∷ r ∷ more → reply (records bytes) ≡ Reply.NoRecord
  -- not "a timeout as none": it is an error
  pub timeout : reply lookup_error ≡ Reply.Error
  pub none : reply no_records ≡ Reply.NoRecord
  -- "Zero bytes is the same as none": it says the same of its name, and is accepted with the same texts
  pub zero_bytes : (reply (records []) ≡ reply no_records) × (texts (records []) ≡ texts no_records)
  -- ---------------------------------------------------------------- walks
  -- "After an error it is unknown", and only then
  pub unknown_exactly : (α : Name → Reply) (d : Domain) → is_nothing (value α (organizational_domain d)) ≡ holds_error α (list α (organizational_domain d))
  -- a walk asks at most eight names, whatever the number of labels
  pub eight_names : (α : Name → Reply) (d : Domain) → length (list α (organizational_domain d)) ≤ 8
  -- not "Letting psd=y at the starting name put the organizational domain below it": it is the start
  pub psd_at_start : (α : Name → Reply) (d : Domain) (s : Settings)
      → value α (record_at d) ≡ Reply.Record s → s.psd ≡ Psd.Yes → value α (organizational_domain d) ≡ Some d
  -- not "Taking the nearest record as the organizational one without psd=n": it is the farthest
  pub farthest : (start : Domain) (nearer : List Found) (f : Found)
      → all (λ g. is_unset g.settings.psd) (nearer ++ (f ∷ [])) ≡ true → organizational start (nearer ++ (f ∷ [])) ≡ f.domain
  -- ---------------------------------------------------------------- sheets that are not broken
  -- "over 65,536 octets" is broken, whatever its records
  pub sheet_limit : (sheet : Octets) (rs : List Entry) → entries sheet ≡ ok rs → length sheet ≤ 65536
  -- "one name answered twice" is broken, also where it is written in another case
  pub answered_once : (sheet : Octets) (a b c : List Entry) (m n : Octets) (s u : Status) (x y : Octets)
      → entries sheet ≡ ok (a ++ answer_entry m s x ∷ (b ++ answer_entry n u y ∷ c)) → same_text m n ≡ false
