-- The small tables, as code finds their rows.
use mathlib.Core.List.{List, [], ◌∷◌, ◌++◌, map, flatten}
use Rattle.std.specs.Prelude.{true, false, ℕ, zero, suc, ◌-◌, get_or}
use Prim.Native.String.{String}
use Rattle.octets.specs.Octets.{Octets, octets, same, lower}
use Rattle.policy.specs.declared.Policy.{Policy}

-- none 0, quarantine 1, reject 2
unfoldable pub policy_number : Policy → ℕ
policy_number Policy.None = 0
policy_number Policy.Quarantine = 1
policy_number Policy.Reject = 2

-- and back
unfoldable pub policy_at : ℕ → Policy
policy_at n = get_or (Policy.None ∷ Policy.Quarantine ∷ Policy.Reject ∷ []) n Policy.None

-- the known tag names: "`p`, `sp`, `np` .. `adkim`, `aspf` .. `psd` .. `t` .. `rua`", and `v`; then the others of RFC 9989's registry, which set nothing
unfoldable pub tag_names : List String
tag_names = "p" ∷ "sp" ∷ "np" ∷ "adkim" ∷ "aspf" ∷ "psd" ∷ "t" ∷ "rua" ∷ "v" ∷ "ruf" ∷ "fo" ∷ "pct" ∷ "rf" ∷ "ri" ∷ []

-- the name of a number
unfoldable pub tag_name : ℕ → Octets
tag_name k = get_or (map octets tag_names) k []

-- the words of a policy record by their numbers: tag names, the words of values, and what else is written
unfoldable pub record_words : List Octets
record_words = map octets (tag_names ++ ("none" ∷ "quarantine" ∷ "reject" ∷ "r" ∷ "s" ∷ "y" ∷ "n" ∷ "u" ∷ "v=DMARC1" ∷ "; " ∷ "=" ∷ []))

-- the words of a list of numbers, one after the other; a number past the last is nothing
unfoldable pub words_of : List ℕ → Octets
words_of ns = flatten (map (λ n. get_or record_words n []) ns)

-- the words of as many numbers from one on
unfoldable pub words_from : (first count : ℕ) → List Octets
words_from first zero = []
words_from first (suc count) = get_or record_words first [] ∷ words_from (suc first) count

-- the place of a text in a list of texts; the list's length where it is none of them
unfoldable pub position : Octets → List Octets → ℕ
position s [] = 0
position s (w ∷ ws) = elim (same s w) [ true ↦ 0 | false ↦ suc (position s ws) ]

-- the number of a tag name in lower case; 14 where it is not known
unfoldable pub tag_number : Octets → ℕ
tag_number n = position n (map octets tag_names)

-- the place of a text, in either case, among the words from one number to before another
unfoldable pub word_place : Octets → (first last : ℕ) → ℕ
word_place s first last = position (lower s) (map lower (words_from first (last - first)))
