-- What is read of an Identity-Alignment field, by its grammar. What it finds is claimed of every text, so nobody has to believe this.
use Rattle.std.specs.Prelude.{List, [], ◌∷◌, ◌++◌, ℕ, ◌-◌, ltb, if◌then◌else◌, Option, None, Some}
use Rattle.octets.specs.Octets.{Octets, is_nothing}
use Rattle.octets.specs.Refusing.{OrRefused, ok, not_ok, refusal}
use Rattle.octets.specs.declared.Refusal.{Refusal}
use Rattle.grammar.specs.Grammar.{Grammar, ◌then◌, many}
use Rattle.grammar.specs.code.Finding.{fault, shortest_text}
use Rattle.field.specs.declared.NamedMethods.{NamedMethods}
use Rattle.field.specs.Field.{heading, dkim, spf, dmarc_method, comma, closing, id_align, repeating, any_depth}

-- a field that names a method
unfoldable pub naming : ℕ → Grammar → Grammar
naming n m = heading n then many (dmarc_method then comma n) then m then many (comma n then dmarc_method) then closing n

-- a refusal, where there is a place
unfoldable pub at_place : (number : ℕ) → Option ℕ → List Refusal
at_place number None = []
at_place number (Some place) = refusal number place ∷ []

-- where a word of n octets begins, by where it ends
unfoldable pub begin_of_word : ℕ → Option ℕ → Option ℕ
begin_of_word n None = None
begin_of_word n (Some end) = Some (end - n)

-- "24 not the grammar, repeats and depth aside, at the first octet it can't have there (the length if the text ends early)"
unfoldable pub outside_grammar : Octets → Option ℕ
outside_grammar s = fault (id_align (any_depth s)) s

-- "25 at the ninth parenthesis open at once": where the grammar within eight ends and the grammar goes on
unfoldable pub too_deep : Octets → Option ℕ
too_deep s = fault (id_align 8) s

-- "26 where a method already read, spelled whole again, begins"
unfoldable pub spelled_again : ℕ → Grammar → Octets → Option ℕ
spelled_again n m s = begin_of_word n (shortest_text (repeating (any_depth s) m) s)

unfoldable pub refusals : Octets → List Refusal
refusals s = at_place 24 (outside_grammar s) ++ at_place 25 (too_deep s) ++ at_place 26 (spelled_again 4 dkim s) ++ at_place 26 (spelled_again 3 spf s)

-- "the earliest is given"; of two at one place the first, so no 25 where the grammar ends anyway
unfoldable pub earlier : Refusal → Option Refusal → Option Refusal
earlier r None = Some r
earlier r (Some q) = if ltb q.place r.place then Some q else Some r

unfoldable pub earliest : List Refusal → Option Refusal
earliest [] = None
earliest (r ∷ rs) = earlier r (earliest rs)

-- "read as the methods it names"
unfoldable pub methods_named : Octets → NamedMethods
methods_named s = record { dkim = is_nothing (fault (naming 8 dkim) s); spf = is_nothing (fault (naming 8 spf) s) }

unfoldable pub read_field : Octets → OrRefused NamedMethods
read_field s = elim (earliest (refusals s)) [ None ↦ ok (methods_named s) | Some r ↦ not_ok r ]
