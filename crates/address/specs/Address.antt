-- Did the outside address agree? (document 02, Ask 11; RFC 9990, section 4)
use Rattle.std.specs.Prelude.{List, [], ◌∷◌, ◌++◌, Bool, true, false, ◌&&◌, not, ℕ, ◌+◌, eqb, leb, length, take, if◌then◌else◌, Some, None, Option}
use Rattle.octets.specs.Octets.{Octets, octets, all, one_of, same, same_text, lower, split, trim}
use Rattle.lookup.specs.Lookup.{Name, Lookups, done, look_up, reading, ◌>>=◌}
use Rattle.domain.specs.Domain.{Domain, without_dot, is_domain}
use Rattle.policy.specs.declared.Bounds.{Bounds}
use Rattle.policy.specs.Reports.{valid_entry}
use Rattle.policy.specs.Records.{read_policy, rua_text, rua_begin, rua_length}
use Rattle.txt.specs.Answers.{Answer, records, no_records, lookup_error, texts_read, reply}
use Rattle.walk.specs.Walk.{organizational_domain}
use Rattle.address.specs.declared.Agreement.{Agreement}

-- ------------------------------------------------------------------ the host of an entry

-- what follows the last occurrence of an octet
unfoldable pub after_last : ℕ → Octets → Option Octets
after_last c [] = None
after_last c (x ∷ xs) = elim (after_last c xs) [ Some rest ↦ Some rest | None ↦ if eqb x c then Some xs else None ]

-- "a domain after its last `@`"; "every domain we take" may have a final dot
unfoldable pub host_in : Option Octets → Option Domain
host_in None = None
host_in (Some s) = if is_domain (without_dot s) then Some (lower (without_dot s)) else None

-- not "an entry with a comma or not a valid `mailto:`"
unfoldable pub is_mailto : Octets → Bool
is_mailto e = not (one_of e 44) && valid_entry e && same_text (take 7 e) (octets "mailto:")

-- the host of an entry that 23 lets through, "trimmed" as 01 trims every entry
unfoldable pub host_of : Octets → Option Domain
host_of e = if is_mailto (trim e) then host_in (after_last 64 (trim e)) else None

-- one more in front, where there is one
unfoldable pub add_host : Option Domain → List Domain → List Domain
add_host None hs = hs
add_host (Some h) hs = h ∷ hs

-- the hosts of entries that have one, in their order
unfoldable pub hosts_of : List Octets → List Domain
hosts_of [] = []
hosts_of (e ∷ es) = add_host (host_of e) (hosts_of es)

-- the hosts of a comma list, of the entries that 23 lets through
unfoldable pub rua_hosts : (rua : Octets) → List Domain
rua_hosts rua = hosts_of (split 44 rua)

-- ------------------------------------------------------------------ what the answer at the confirming name says

-- "The first with an entry that 23 lets through replaces the address by its rua text .., if every such host in it is the first host; another host
-- makes the answer a plain no": a record that stands in the scratch from a place on, by its hosts; without one, what the records after it say
unfoldable pub by_hosts : (host : Domain) → (at : ℕ) → (text : Octets) → List Domain → (others : Agreement) → Agreement
by_hosts h at t [] others = others
by_hosts h at t (x ∷ xs) others =
    if all (same h) (x ∷ xs) then Agreement.Replaced (record { begin = at + rua_begin t; length = rua_length t }) else Agreement.PlainNo

-- "One policy record or more confirms, none is a plain no": of texts that stand in the scratch from a place on, and whether one before them was a record
unfoldable pub agreement : (host : Domain) → (at : ℕ) → (one : Bool) → List Octets → Agreement
agreement h at one [] = if one then Agreement.Confirmed else Agreement.PlainNo
agreement h at one (t ∷ ts) = elim (read_policy t) [
  | Some s ↦ by_hosts h at t (rua_hosts (rua_text t)) (agreement h (at + length t) true ts)
  | None ↦ agreement h (at + length t) one ts
]

-- "and whether the answer confirms it"; "an error not known"; an answer that cannot be read is refused and never kept: were it kept, it would be an error
unfoldable pub confirmation : (host : Domain) → Answer → Agreement
confirmation h (records bytes) = elim (texts_read bytes) [ None ↦ Agreement.NotKnown | Some ts ↦ agreement h 0 false ts ]
confirmation h no_records = Agreement.PlainNo
confirmation h lookup_error = Agreement.NotKnown

-- ------------------------------------------------------------------ the check

-- "which name to ask (as `blue.example.com._report._dmarc.red.example.net`)"
unfoldable pub confirming_name : (policy host : Domain) → Name
confirming_name p h = p ++ octets "._report._dmarc." ++ h

-- "A confirming name over 253 octets is not asked and counts as none"
unfoldable pub confirm : (policy host : Domain) → Lookups Answer Agreement
confirm p h =
    if leb (length (confirming_name p h)) 253
    then (do
      a ← look_up (confirming_name p h)
      done (confirmation h a))
    else done Agreement.PlainNo

-- by "the walks of 01", each answer read as it is looked at
unfoldable pub organization : Domain → Lookups Answer (Option Domain)
organization d = reading reply (organizational_domain d)

-- "equal organizational domains .., policy domain first; an error in either gives not known, and after it nothing more is asked"
unfoldable pub by_host : (policy host : Domain) → Domain → Option Domain → Lookups Answer Agreement
by_host p h o None = done Agreement.NotKnown
by_host p h o (Some q) = if same q o then done Agreement.Inside else confirm p h

unfoldable pub by_policy : (policy host : Domain) → Option Domain → Lookups Answer Agreement
by_policy p h None = done Agreement.NotKnown
by_policy p h (Some o) = do
  q ← organization h
  by_host p h o q

-- "Inside means equal domains, with nothing asked, or .."
unfoldable pub check : (policy host : Domain) → Lookups Answer Agreement
check p h =
    if same h p
    then done Agreement.Inside
    else do
      o ← organization p
      by_policy p h o
