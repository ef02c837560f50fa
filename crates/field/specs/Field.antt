-- The grammar of the Identity-Alignment field, a line of ABNF each (document 02, Ask 12): "Read the field by the grammar in document 003 with a closing
-- CR LF added, comments and folded blanks of RFC 5322 included but not its obsolete forms".
use Rattle.std.specs.Prelude.{[], ◌∷◌, Bool, true, false, ℕ, zero, suc, ◌-◌, length, if◌then◌else◌}
use Rattle.octets.specs.Octets.{Octets, octets, between}
use Rattle.grammar.specs.Grammar.{Grammar, none, empty, range, ◌then◌, ◌or◌, many}

-- ------------------------------------------------------------------ RFC 5234

-- `[g]`; `1*g`; one octet
unfoldable pub optional : Grammar → Grammar
optional g = empty or g

unfoldable pub one_or_more : Grammar → Grammar
one_or_more g = g then many g

unfoldable pub one : ℕ → Grammar
one x = range x x

-- `"text"`: "names in either case"; written here in lower case
unfoldable pub letter : ℕ → Grammar
letter x = if between 97 122 x then one x or one (x - 32) else one x

unfoldable pub literal : Octets → Grammar
literal [] = empty
literal (x ∷ s) = letter x then literal s

-- `WSP`, `CRLF`
unfoldable pub WSP : Grammar
WSP = one 32 or one 9

unfoldable pub CRLF : Grammar
CRLF = one 13 then one 10

-- ------------------------------------------------------------------ RFC 5322, 3.2.1 and 3.2.2, without its obsolete forms

-- FWS = ([*WSP CRLF] 1*WSP)
unfoldable pub FWS : Grammar
FWS = optional (many WSP then CRLF) then one_or_more WSP

-- ctext = %d33-39 / %d42-91 / %d93-126
unfoldable pub ctext : Grammar
ctext = range 33 39 or range 42 91 or range 93 126

-- quoted-pair = (`\` (VCHAR / WSP))
unfoldable pub quoted_pair : Grammar
quoted_pair = one 92 then (range 33 126 or WSP)

-- comment = `(` *([FWS] ccontent) [FWS] `)`, ccontent = ctext / quoted-pair / comment; "comments nested at most 8 deep": here n
unfoldable pub comment : ℕ → Grammar
comment zero = none
comment (suc n) = one 40 then many (optional FWS then (ctext or quoted_pair or comment n)) then optional FWS then one 41

-- CFWS = (1*([FWS] comment) [FWS]) / FWS
unfoldable pub CFWS : ℕ → Grammar
CFWS n = one_or_more (optional FWS then comment n) then optional FWS or FWS

-- ------------------------------------------------------------------ RFC 9991, with a closing CR LF

-- id-align = `Identity-Alignment:` [CFWS] ..
unfoldable pub heading : ℕ → Grammar
heading n = literal (octets "identity-alignment:") then optional (CFWS n)

-- dmarc-method = ( `dkim` / `spf` )
unfoldable pub dkim : Grammar
dkim = literal (octets "dkim")

unfoldable pub spf : Grammar
spf = literal (octets "spf")

unfoldable pub dmarc_method : Grammar
dmarc_method = dkim or spf

-- [CFWS] `,` [CFWS]
unfoldable pub comma : ℕ → Grammar
comma n = optional (CFWS n) then one 44 then optional (CFWS n)

-- .. [CFWS], "with a closing CR LF added"
unfoldable pub closing : ℕ → Grammar
closing n = optional (CFWS n) then CRLF

-- .. ( `none` / dmarc-method *( [CFWS] `,` [CFWS] dmarc-method ) ) ..
unfoldable pub id_align : ℕ → Grammar
id_align n = heading n then (literal (octets "none") or dmarc_method then many (comma n then dmarc_method)) then closing n

-- ------------------------------------------------------------------ what the claims speak of

-- the value that names these methods, each once, in either order
unfoldable pub value_naming : ℕ → (dkim spf : Bool) → Grammar
value_naming n false false = literal (octets "none")
value_naming n true false = dkim
value_naming n false true = spf
value_naming n true true = dkim then comma n then spf or spf then comma n then dkim

-- "What is accepted is exactly that grammar within that depth, read as the methods it names"
unfoldable pub field_naming : ℕ → (dkim spf : Bool) → Grammar
field_naming n d s = heading n then value_naming n d s then closing n

-- "a method already read, spelled whole again": a front part that ends in it
unfoldable pub repeating : ℕ → Grammar → Grammar
repeating n m = heading n then many (dmarc_method then comma n) then m then comma n then many (dmarc_method then comma n) then m

-- "depth aside": comments nest no deeper than a text is long
unfoldable pub any_depth : Octets → ℕ
any_depth s = length s
