-- Sheets on which names have a final dot, and what is printed for them (document 02, Ask 5).
use Rattle.std.specs.Prelude.{◌≡◌}
use mathlib.Core.List.{List, [], ◌∷◌, map, flatten}
use Rattle.octets.specs.Octets.{octets}
use Rattle.sheet.specs.Printed.{printed}
use Rattle.sheet.specs.Marked.{AU, ID, text_at, none_at, SPF, DKIM, E, Row, row}

unfoldable pub dotted : List Row
dotted =
    -- "every domain we take, on the sheet too": marked sheet 1
    row (AU "example.com." 1 1 ∷ ID DKIM "mail.example.com." ∷ text_at "example.com." "v=DMARC1; p=reject; aspf=s" ∷ none_at "com." ∷ none_at "mail.example.com." ∷ [])
    ("ask _dmarc.example.com\n" ∷ "ask _dmarc.com\n" ∷ "ask _dmarc.mail.example.com\n" ∷ "result pass\npolicy reject\ndisposition none\nasked 3\n" ∷ [])
    -- "one name": marked sheet 8
    ∷ row (AU "EXAMPLE.com." 1 1 ∷ ID SPF "example.COM" ∷ E ∷ []) ("ask _dmarc.example.com\n" ∷ "result pass\npolicy reject\ndisposition none\nasked 1\n" ∷ [])
    -- "A lone dot is still refused 1 or 2 at place 0 or the index"
    ∷ row (AU "." 1 1 ∷ []) ("refused 1 at 0\n" ∷ [])
    ∷ row (AU "a." 1 1 ∷ ID SPF "a." ∷ ID DKIM "." ∷ []) ("refused 2 at 1\n" ∷ [])
    -- "two final dots still refused"
    ∷ row (AU "a.." 1 1 ∷ []) ("refused 1 at 2\n" ∷ [])
    ∷ row (AU "a" 1 1 ∷ ID DKIM "a.." ∷ []) ("refused 2 at 0\n" ∷ [])
    ∷ row (AU "a" 1 1 ∷ none_at "a.." ∷ []) ("refused 8 at 7\n" ∷ [])
    -- "on a sheet both answered is refusal 8"
    ∷ row (AU "a" 1 1 ∷ none_at "a" ∷ none_at "a." ∷ []) ("refused 8 at 21\n" ∷ [])
    ∷ []

-- each sheet prints what its row says
unfoldable pub DottedSheets : Type 0
DottedSheets = map (λ r. printed (flatten r.sheet)) dotted ≡ map (λ r. flatten (map octets r.text)) dotted
