-- Tables that hold the rules to examples (document 02, Ask 11): checks by their calls, what an answer says, the host of an entry.
use Rattle.std.specs.Prelude.{◌≡◌, ℕ, suc, length, replicate, option_map, Option, None, Some}
use mathlib.Core.List.{List, [], ◌∷◌, ◌++◌, map, flatten}
use Prim.Native.String.{String}
use Rattle.octets.specs.Octets.{Octets, octets}
use Rattle.octets.specs.Refusing.{refusal}
use Rattle.policy.specs.declared.Bounds.{Bounds}
use Rattle.txt.specs.declared.Status.{Status}
use Rattle.txt.specs.Answers.{records}
use Rattle.asking.specs.Asking.{Back, ask_name, verdict, accepted, refused}
use Rattle.address.specs.declared.Agreement.{Agreement}
use Rattle.address.specs.Address.{host_of, confirmation}
use Rattle.address.specs.Checks.{CheckCall, start, next, result, answer}
use Rattle.address.specs.Claims.{check_gave}

-- ------------------------------------------------------------------ calls

abbrev starts : (policy entry : String) → CheckCall
starts p e = start (octets p) (octets e)

-- a record of one character-string, of at most 254 octets
abbrev text : String → Octets
text t = octets "TX" ++ (0 ∷ suc (length (octets t)) ∷ length (octets t) ∷ octets t)

abbrev says : Octets → (name : String) → CheckCall
says bytes n = answer (octets n) Status.Records bytes (replicate 4096 0)

abbrev none : (name : String) → CheckCall
none n = answer (octets n) Status.NoRecords [] (replicate 4096 0)

abbrev fails : (name : String) → CheckCall
fails n = answer (octets n) Status.Error [] (replicate 4096 0)

-- ------------------------------------------------------------------ rows

pub record MarkedCall : Type 0 where
  pub call : CheckCall
  pub back : Back Agreement

infix 15 ◌⇒◌
abbrev ◌⇒◌ : CheckCall → Back Agreement → MarkedCall
c ⇒ b = record { call = c; back = b }

abbrev asks : String → Back Agreement
asks n = ask_name (octets n)

abbrev replaced : (begin size : ℕ) → Agreement
replaced b n = Agreement.Replaced (record { begin = b; length = n })

abbrev confirming : String
confirming = "blue.example.com._report._dmarc.red.example.net"

-- ------------------------------------------------------------------ checks that end before the confirming name

-- "11 a bad policy domain, then 23 an entry with a comma or not a valid `mailto:` with a domain after its last `@`"
abbrev nothing_begun : List MarkedCall
nothing_begun =
    (next ⇒ refused (refusal 7 0))
    ∷ (result ⇒ refused (refusal 7 0))
    ∷ (none "_dmarc.com" ⇒ refused (refusal 5 0))
    ∷ (starts "a..b" "x" ⇒ refused (refusal 11 0))
    ∷ (starts "blue.com" "mailto:r@red.net,mailto:s@red.net" ⇒ refused (refusal 23 0))
    ∷ (starts "blue.com" "https://r@red.net" ⇒ refused (refusal 23 0))
    ∷ (starts "blue.com" "mailto:red.net" ⇒ refused (refusal 23 0))
    ∷ (starts "blue.com" "mailto:r@red.net!10m" ⇒ refused (refusal 23 0))
    ∷ (starts "blue.com" "mailto:r@red.net?x" ⇒ refused (refusal 23 0))
    ∷ []

-- "equal domains, with nothing asked"; a refused start leaves the check as it was
abbrev equal_domains : List MarkedCall
equal_domains =
    (starts "Blue.com." " MAILTO:r@x@blue.COM" ⇒ accepted)
    ∷ (result ⇒ verdict Agreement.Inside 0)
    ∷ (starts "." "mailto:r@red.net" ⇒ refused (refusal 11 0))
    ∷ (next ⇒ verdict Agreement.Inside 0)
    ∷ []

-- "or equal organizational domains by the walks of 01, policy domain first"
abbrev equal_organizations : List MarkedCall
equal_organizations =
    (starts "blue.com" "mailto:r@a.blue.com" ⇒ accepted)
    ∷ (next ⇒ asks "_dmarc.blue.com")
    ∷ (says (text "v=DMARC1; psd=n") "_dmarc.blue.com" ⇒ accepted)
    ∷ (next ⇒ asks "_dmarc.a.blue.com")
    ∷ (none "_dmarc.a.blue.com" ⇒ accepted)
    ∷ (next ⇒ verdict Agreement.Inside 2)
    ∷ []

-- "policy domain first", though it has more labels
abbrev policy_domain_first : List MarkedCall
policy_domain_first =
    (starts "a.blue.com" "mailto:r@blue.com" ⇒ accepted)
    ∷ (next ⇒ asks "_dmarc.a.blue.com")
    ∷ []

-- "an error in either gives not known, and after it nothing more is asked"
abbrev error_of_policy : List MarkedCall
error_of_policy =
    (starts "blue.com" "mailto:r@red.net" ⇒ accepted)
    ∷ (next ⇒ asks "_dmarc.blue.com")
    ∷ (fails "_dmarc.blue.com" ⇒ accepted)
    ∷ (next ⇒ verdict Agreement.NotKnown 1)
    ∷ []

abbrev error_of_host : List MarkedCall
error_of_host =
    (starts "com" "mailto:r@red.net" ⇒ accepted)
    ∷ (next ⇒ asks "_dmarc.com")
    ∷ (none "_dmarc.com" ⇒ accepted)
    ∷ (next ⇒ asks "_dmarc.red.net")
    ∷ (fails "_dmarc.red.net" ⇒ accepted)
    ∷ (next ⇒ verdict Agreement.NotKnown 2)
    ∷ []

-- ------------------------------------------------------------------ checks with a confirming name

-- "as `blue.example.com._report._dmarc.red.example.net`": a check up to this name
unfoldable pub walked : List MarkedCall
walked =
    (starts "blue.example.com" "mailto:reports@red.example.net" ⇒ accepted)
    ∷ (next ⇒ asks "_dmarc.blue.example.com")
    ∷ (none "_dmarc.blue.example.com" ⇒ accepted)
    ∷ (next ⇒ asks "_dmarc.example.com")
    ∷ (none "_dmarc.example.com" ⇒ accepted)
    ∷ (next ⇒ asks "_dmarc.com")
    ∷ (none "_dmarc.com" ⇒ accepted)
    ∷ (next ⇒ asks "_dmarc.red.example.net")
    ∷ (none "_dmarc.red.example.net" ⇒ accepted)
    ∷ (next ⇒ asks "_dmarc.example.net")
    ∷ (none "_DMARC.example.net." ⇒ accepted)
    ∷ (next ⇒ asks "_dmarc.net")
    ∷ (none "_dmarc.net" ⇒ accepted)
    ∷ (result ⇒ refused (refusal 7 0))
    ∷ (next ⇒ asks confirming)
    ∷ []

-- an answer that is accepted there, and the outcome
abbrev outcome : CheckCall → Agreement → List MarkedCall
outcome c v =
    (c ⇒ accepted)
    ∷ (next ⇒ verdict v 7)
    ∷ []

-- an answer that cannot be read is refused and not kept
abbrev unreadable : List MarkedCall
unreadable =
    (says (octets "TX") confirming ⇒ refused (refusal 6 0))
    ∷ (fails confirming ⇒ accepted)
    ∷ (next ⇒ verdict Agreement.NotKnown 7)
    ∷ []

-- a text that is no record, a record with no such entry, one with the first host, and one that is not judged
abbrev replacing : Octets
replacing = text "junk" ++ text "v=DMARC1; rua=https://x" ++ text "v=DMARC1; rua= mailto:a@Red.example.net. , x" ++ text "v=DMARC1; rua=mailto:a@b"

abbrev is_replaced : List MarkedCall
is_replaced =
    (says replacing confirming ⇒ accepted)
    ∷ (result ⇒ verdict (replaced 42 29) 7)
    ∷ []

-- ------------------------------------------------------------------ the table

unfoldable pub check_table : List (List MarkedCall)
check_table =
    nothing_begun
    ∷ equal_domains
    ∷ equal_organizations
    ∷ policy_domain_first
    ∷ error_of_policy
    ∷ error_of_host
    -- "One policy record or more confirms, none is a plain no, an error not known"
    ∷ (walked ++ outcome (none confirming) Agreement.PlainNo)
    ∷ (walked ++ outcome (says (text "v=spf1") confirming) Agreement.PlainNo)
    ∷ (walked ++ outcome (fails confirming) Agreement.NotKnown)
    ∷ (walked ++ unreadable)
    ∷ (walked ++ outcome (says (text "v=DMARC1" ++ text "v=DMARC1;p=none") confirming) Agreement.Confirmed)
    -- "The first with an entry that 23 lets through replaces the address by its rua text, given as a place in the scratch"
    ∷ (walked ++ is_replaced)
    -- "if every such host in it is the first host; another host makes the answer a plain no"
    ∷ (walked ++ outcome (says (text "v=DMARC1; rua=mailto:a@red.example.net,mailto:a@b") confirming) Agreement.PlainNo)
    ∷ (walked ++ outcome (says (text "v=DMARC1; rua=mailto:a@b" ++ text "v=DMARC1") confirming) Agreement.PlainNo)
    ∷ []

-- the claim: each call gives what its row says
unfoldable pub MarkedChecks : Type 0
MarkedChecks = map (λ rows. map (λ g. g.back) (check_gave (map (λ r. r.call) rows))) check_table ≡ map (λ rows. map (λ r. r.back) rows) check_table

-- ------------------------------------------------------------------ what an answer says

-- the texts of an answer at the confirming name of red.example.net, and what they say
unfoldable pub answer_table : List (List String × Agreement)
answer_table =
    -- "One policy record or more confirms, none is a plain no"
    ([], Agreement.PlainNo)
    ∷ ("v=DMARC1" ∷ "junk" ∷ [], Agreement.Confirmed)
    ∷ ("v=DMARC1" ∷ "v=DMARC1" ∷ "v=DMARC1" ∷ [], Agreement.Confirmed)
    -- a tag twice, which makes it no policy record (Ask 2)
    ∷ ("v=DMARC1;p=none;p=none" ∷ [], Agreement.PlainNo)
    -- "The first with an entry that 23 lets through replaces the address", also after a record without one
    ∷ ("v=DMARC1" ∷ "v=DMARC1; rua=mailto:a@red.example.net" ∷ [], replaced 22 24)
    -- "another host makes the answer a plain no", also after a record, or after an entry that 23 refuses
    ∷ ("v=DMARC1" ∷ "v=DMARC1; rua=mailto:a@b" ∷ [], Agreement.PlainNo)
    ∷ ("v=DMARC1; rua=https://x,mailto:a@b" ∷ [], Agreement.PlainNo)
    ∷ ("v=DMARC1; rua=mailto:a@red.example.net,https://x,mailto:a@b" ∷ [], Agreement.PlainNo)
    ∷ []

unfoldable pub MarkedAnswers : Type 0
MarkedAnswers =
    map (λ r. confirmation (octets "red.example.net") (records (flatten (map text r.0)))) answer_table ≡ map (λ r. r.1) answer_table

-- ------------------------------------------------------------------ the host of an entry

-- rua entries, and the host of each; nothing where 23 is due
unfoldable pub host_table : List (String × Option String)
host_table =
    -- "an entry with a comma"
    ("mailto:r@red.net,mailto:s@red.net", None)
    -- "or not a valid `mailto:`"
    ∷ ("mailto:r!1@red.net", None)
    ∷ ("mailto:a b@red.net", None)
    ∷ ("mailto:%zz@red.net", None)
    -- "with a domain after its last `@`"
    ∷ ("mailto:r@red.net..", None)
    ∷ ("mailto:r@", None)
    ∷ ("mailto:@red.net", Some "red.net")
    ∷ ("mailto:x@y?z=w@b", Some "b")
    -- trimmed, in either case, with a final dot
    ∷ (" MAILTO:r@Red.net. ", Some "red.net")
    ∷ []

unfoldable pub MarkedHosts : Type 0
MarkedHosts = map (λ r. host_of (octets r.0)) host_table ≡ map (λ r. option_map octets r.1) host_table
