-- Fields that a hasty reading would take otherwise (document 02, Ask 12).
use Rattle.std.specs.Prelude.{◌≡◌, [], ◌∷◌, ◌++◌, Bool, true, false, ℕ}
use Rattle.octets.specs.Octets.{Octets, octets}
use Rattle.octets.specs.Refusing.{OrRefused, ok, not_ok, refusal}
use Rattle.field.specs.declared.NamedMethods.{NamedMethods}
use Rattle.field.specs.code.Reading.{read_field}

-- what is read of a name and the octets behind it
abbrev behind_name : Octets → OrRefused NamedMethods
behind_name s = read_field (octets "Identity-Alignment:" ++ s)

abbrev line_end : Octets
line_end = 13 ∷ 10 ∷ []

abbrev read_as : (dkim spf : Bool) → OrRefused NamedMethods
read_as d s = ok (record { dkim = d; spf = s })

abbrev refused_at : (number place : ℕ) → OrRefused NamedMethods
refused_at n p = not_ok (refusal n p)

pub record FieldsRead : Type 0 where
  -- "names in either case", the field's too; either order, and blanks and comments may be missing
  pub cases : read_field (octets "IDENTITY-alignment:sPf,Dkim" ++ line_end) ≡ read_as true true
  -- no blank before the colon
  pub colon : read_field (octets "Identity-Alignment :none" ++ line_end) ≡ refused_at 24 18
  -- `none` stands alone
  pub alone : behind_name (octets "none,dkim" ++ line_end) ≡ refused_at 24 23
  pub last : behind_name (octets "dkim,none" ++ line_end) ≡ refused_at 24 24
  -- "with a closing CR LF added", "(the length if the text ends early)"
  pub closing : behind_name (octets "none") ≡ refused_at 24 23
  pub closed : behind_name (octets "none" ++ line_end ++ octets "x") ≡ refused_at 24 25
  -- a fold has one CR LF; behind a folded line the field may end
  pub folded : behind_name (octets "none" ++ line_end ++ octets " " ++ line_end) ≡ read_as false false
  pub fold : behind_name (line_end ++ octets " " ++ line_end ++ octets " none" ++ line_end) ≡ refused_at 24 22
  -- "comments nested at most 8 deep": the ninth is refused, not counting one that is quoted
  pub eight : behind_name (octets "(((((((())))))))none" ++ line_end) ≡ read_as false false
  pub ninth : behind_name (octets "((((((((\\((") ≡ refused_at 25 29
  -- the octets of a comment
  pub comment : behind_name (octets "(dkim\\))spf(" ++ (127 ∷ [])) ≡ refused_at 24 31
  -- "26 where a method already read, spelled whole again, begins"
  pub again : behind_name (octets " dkim, dkim") ≡ refused_at 26 26
  pub almost : behind_name (octets " dkim, dkix" ++ line_end) ≡ refused_at 24 29
  -- "the earliest is given"
  pub earliest : behind_name (octets "dkim,dkimx((((((((((") ≡ refused_at 26 24
