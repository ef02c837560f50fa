-- Texts of a grammar, and the first octet that none of its texts can have, found octet by octet.
use Rattle.std.specs.Prelude.{◌≡◌, [], ◌∷◌, Bool, true, false, ℕ, suc, ◌≤◌, ◌<◌, leb, length, take, if◌then◌else◌, Option, None, Some}
use Rattle.octets.specs.Octets.{Octets, between}
use Rattle.grammar.specs.Grammar.{Grammar, none, empty, range, ◌then◌, ◌or◌, many, Text, Viable, Fault}

unfoldable pub has_empty : Grammar → Bool
has_empty none = false
has_empty empty = true
has_empty (range low high) = false
has_empty (a then b) = elim (has_empty a) [ true ↦ has_empty b | false ↦ false ]
has_empty (a or b) = elim (has_empty a) [ true ↦ true | false ↦ has_empty b ]
has_empty (many a) = true

-- whether there is a text at all
unfoldable pub has_text : Grammar → Bool
has_text none = false
has_text empty = true
has_text (range low high) = leb low high
has_text (a then b) = elim (has_text a) [ true ↦ has_text b | false ↦ false ]
has_text (a or b) = elim (has_text a) [ true ↦ true | false ↦ has_text b ]
has_text (many a) = true

-- `then` and `or`, kept short
infixr 30 ◌and_then◌
unfoldable pub ◌and_then◌ : Grammar → Grammar → Grammar
none and_then b = none
empty and_then b = b
range low high and_then b = range low high then b
(a then c) and_then b = (a then c) then b
(a or c) and_then b = (a or c) then b
many a and_then b = many a then b

infixr 25 ◌or_else◌
unfoldable pub ◌or_else◌ : Grammar → Grammar → Grammar
none or_else b = b
empty or_else b = empty or b
range low high or_else b = range low high or b
(a then c) or_else b = (a then c) or b
(a or c) or_else b = (a or c) or b
many a or_else b = many a or b

-- what can follow an octet in the texts of a grammar
unfoldable pub following : ℕ → Grammar → Grammar
following x none = none
following x empty = none
following x (range low high) = if between low high x then empty else none
following x (a then b) = elim (has_empty a) [
  | true ↦ (following x a and_then b) or_else following x b
  | false ↦ following x a and_then b
]
following x (a or b) = following x a or_else following x b
following x (many a) = following x a and_then many a

-- the first octet that no text of a grammar can have there, "the length if the text ends early"; nothing for a text of it
unfoldable pub fault_from : ℕ → Grammar → Octets → Option ℕ
fault_from at g [] = if has_empty g then None else Some at
fault_from at g (x ∷ s) = elim (has_text (following x g)) [ true ↦ fault_from (suc at) (following x g) s | false ↦ Some at ]

unfoldable pub fault : Grammar → Octets → Option ℕ
fault g s = fault_from 0 g s

-- how long the shortest-text front part is that is a text of a grammar
unfoldable pub shortest_text_from : ℕ → Grammar → Octets → Option ℕ
shortest_text_from at g [] = if has_empty g then Some at else None
shortest_text_from at g (x ∷ s) = elim (has_empty g) [ true ↦ Some at | false ↦ shortest_text_from (suc at) (following x g) s ]

unfoldable pub shortest_text : Grammar → Octets → Option ℕ
shortest_text g s = shortest_text_from 0 g s

-- ------------------------------------------------------------------ what is found

-- the first octet that no text of a grammar can have there
pub record Faults (g : Grammar) (s : Octets) : Type 0 where
  pub without : fault g s ≡ None → Text g s
  pub none : Text g s → fault g s ≡ None
  -- where the grammar has a text at all
  pub place : Viable g [] → (p : ℕ) → fault g s ≡ Some p → Fault g s p

-- of the shortest-text front part that is a text of a grammar
pub record ShortestFound (g : Grammar) (s : Octets) : Type 0 where
  pub is : (n : ℕ) → shortest_text g s ≡ Some n → (n ≤ length s) × Text g (take n s)
  pub not_before : (n : ℕ) → shortest_text g s ≡ Some n → (m : ℕ) → m < n → Text g (take m s) → ⊥
  pub none : shortest_text g s ≡ None → (m : ℕ) → m ≤ length s → Text g (take m s) → ⊥
