-- Grammars as ABNF builds them (RFC 5234), the texts of each, and the first octet that none of its texts can have.
use Rattle.std.specs.Prelude.{◌≡◌, ◌⊎◌, ℕ, suc, ◌≤◌, ◌<◌, length, take}
use mathlib.Core.List.{List, [], ◌∷◌, ◌++◌, flatten}
use Rattle.octets.specs.Octets.{Octets}

pub data Grammar : Type 0 where
  -- no text at all; the empty text
  none empty : Grammar
  -- one octet of a range, `%d33-39`
  range : (low high : ℕ) → Grammar
  -- one after the other; `/`; `*`
  ◌then◌ ◌or◌ : Grammar → Grammar → Grammar
  many : Grammar → Grammar

infixr 30 ◌then◌
infixr 25 ◌or◌
-- ------------------------------------------------------------------ the texts of a grammar

unfoldable pub Each : (Octets → Type 0) → List Octets → Type 0
Each P [] = Unit
Each P (t ∷ ts) = P t × Each P ts

-- whether a text is one of a grammar
unfoldable pub Text : Grammar → Octets → Type 0
Text none s = ⊥
Text empty s = s ≡ []
Text (range low high) s = (x : ℕ) × (s ≡ x ∷ []) × (low ≤ x) × (x ≤ high)
Text (a then b) s = (u v : Octets) × (s ≡ u ++ v) × Text a u × Text b v
Text (a or b) s = Text a s ⊎ Text b s
Text (many a) s = (ts : List Octets) × (s ≡ flatten ts) × Each (Text a) ts

-- a viable prefix: some text of the grammar begins so
abbrev pub Viable : Grammar → Octets → Type 0
Viable g s = (rest : Octets) × Text g (s ++ rest)

-- a place in a text: what stands before it begins a text of the grammar; with the octet there it does not, or the text ends there and is none
pub record Fault (g : Grammar) (s : Octets) (place : ℕ) : Type 0 where
  pub before : Viable g (take place s)
  pub there : ((place < length s) × (Viable g (take (suc place) s) → ⊥)) ⊎ ((place ≡ length s) × (Text g s → ⊥))
