-- What is claimed of reading the Identity-Alignment field (document 02, Ask 12).
use Rattle.std.specs.Prelude.{◌≡◌, ◌⊎◌, ℕ, suc, ◌+◌, ◌≤◌, length, take}
use Rattle.octets.specs.Octets.{Octets}
use Rattle.octets.specs.Refusing.{ok, not_ok, refusal}
use Rattle.octets.specs.declared.Refusal.{Refusal}
use Rattle.reporting.specs.declared.Method.{Method}
use Rattle.reporting.specs.Field.{is_listed, field_text}
use Rattle.grammar.specs.Grammar.{Text, Viable, Fault}
use Rattle.field.specs.Field.{dkim, spf, id_align, repeating, any_depth}
use Rattle.field.specs.code.Reading.{read_field}

-- "each may appear at most once in an id-align" (RFC 9991)
pub record NoRepeats (depth : ℕ) (s : Octets) : Type 0 where
  pub dkim_once : (n : ℕ) → n ≤ length s → Text (repeating depth dkim) (take n s) → ⊥
  pub spf_once : (n : ℕ) → n ≤ length s → Text (repeating depth spf) (take n s) → ⊥

pub record FieldClaims (s : Octets) : Type 0 where
  -- "24 not the grammar, .., at the first octet it can't have there (the length if the text ends early)"
  pub refused_24 : (p : ℕ) → read_field s ≡ not_ok (refusal 24 p) → Fault (id_align (any_depth s)) s p
  -- ".. depth aside": the grammar at any depth has no other front parts of the text
  pub depth_aside : (n k : ℕ) → Viable (id_align n) (take k s) → Viable (id_align (any_depth s)) (take k s)
  -- "25 at the ninth parenthesis open at once": the grammar within eight can't have that octet, the grammar can
  pub refused_25 : (p : ℕ) → read_field s ≡ not_ok (refusal 25 p) → Fault (id_align 8) s p × Viable (id_align (any_depth s)) (take (suc p) s)
  -- "26 where a method already read, spelled whole again, begins"
  pub refused_26 : (p : ℕ) → read_field s ≡ not_ok (refusal 26 p)
      → ((p + 4 ≤ length s) × Text (repeating (any_depth s) dkim) (take (p + 4) s)) ⊎ ((p + 3 ≤ length s) × Text (repeating (any_depth s) spf) (take (p + 3) s))
  -- "the earliest is given": up to its place the text begins a field within eight, and no method is spelled again
  pub nothing_before : (r : Refusal) → read_field s ≡ not_ok r → Viable (id_align 8) (take r.place s) × NoRepeats (any_depth s) (take r.place s)
  -- no other number
  pub numbers : (r : Refusal) → read_field s ≡ not_ok r → (r.number ≡ 24) ⊎ (r.number ≡ 25) ⊎ (r.number ≡ 26)

-- "every field we write reads back as its own"
abbrev pub ReadsBack : (dkim spf : Method) → Type 0
ReadsBack dkim spf = read_field (field_text dkim spf) ≡ ok (record { dkim = is_listed dkim; spf = is_listed spf })
