-- What is gathered of a text in one pass.
use Rattle.std.specs.Option.{is_some}
use Rattle.std.specs.Prelude.{not, ◌∷◌, ◌≡◌, ℕ, ◌<◌, length, drop, get_or, Option, None, Some}
use Rattle.octets.specs.Octets.{Octets, octets, split}
use Rattle.policy.specs.declared.Bounds.{Bounds}
use Rattle.policy.specs.Tags.{Tag, later_tags, parts, repeats, is_record, tag_named}
use Rattle.policy_words.specs.code.Rows.{tag_name}
use Rattle.policy_tags.specs.code.TagNames.{names_of, known_names, unknown_names}
use Rattle.policy_tags.specs.code.TagValues.{tags_at}
use Rattle.policy_gather.specs.declared.Gathered.{Gathered}

-- where a tag's value stands; 0 and 0 where there is no tag
unfoldable pub bounds_of : Option Tag → Bounds
bounds_of None = record { begin = 0; length = 0 }
bounds_of (Some t) = record { begin = t.place; length = length t.value }

-- where the value of a tag stands, by its number
unfoldable pub bounds_at : Gathered → ℕ → Bounds
bounds_at g k = record { begin = get_or g.begins k 0; length = get_or g.lengths k 0 }

-- what is known of the tags from a place of the text on, before the names that are not known are compared
pub record Knows (s : Octets) (from : ℕ) (o : Option Gathered) : Type 0 where
  pub judged : is_some o ≡ not (repeats (octets "v" ∷ known_names (names_of (split 59 (drop from s)))))
  pub counted : (g : Gathered) → o ≡ Some g → g.others ≡ length (unknown_names (names_of (split 59 (drop from s))))
  pub placed : (g : Gathered) → o ≡ Some g → (k : ℕ) → k < 8 → bounds_at g k ≡ bounds_of (tag_named (tag_name k) (tags_at from s))

-- whether the text is a policy record; and if it is one, where the values of its tags stand
pub record Gathers (s : Octets) (o : Option Gathered) : Type 0 where
  pub judged : is_some o ≡ is_record (parts s)
  pub placed : (g : Gathered) → o ≡ Some g → (k : ℕ) → k < 8 → bounds_at g k ≡ bounds_of (tag_named (tag_name k) (later_tags (parts s)))
