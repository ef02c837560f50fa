-- What a row's numbers name (document 02, Ask 9): "The row gains two numbers", "Both are places in lists handed in beside the rows", of author domains and
-- of sets of identifiers, each list in one text. Every text is read.
use Rattle.std.specs.Prelude.{List, [], ◌∷◌, map, false, ℕ, zero, suc, ◌+◌, length, take, drop, get_or, if◌then◌else◌, Option, None, Some}
use Rattle.octets.specs.Octets.{Octets, octets}
use Rattle.octets.specs.Refusing.{ok, not_ok}
use Rattle.octets.specs.Framing.{body_of, after_record, is_whole}
use Rattle.domain.specs.Domain.{Domain, without_dot}
use Rattle.book.specs.Start.{GivenIdentifier, identifiers_from}

-- ------------------------------------------------------------------ places in a list

-- a list is records of document 01's form, one after the other, their marks not read; one that runs past the end is none
unfoldable pub first_body : Octets → Option Octets
first_body list = if is_whole list then Some (body_of list) else None

-- the body at a place, from 0: nothing for "a row's number past its list"
unfoldable pub body_at : ℕ → (list : Octets) → Option Octets
body_at zero list = first_body list
body_at (suc n) list = body_at n (after_record list)

-- ------------------------------------------------------------------ sets of identifiers

-- "(kind, domain, DKIM selector, outcome)"; domain and selector as they are taken
pub record Reported : Type 0 where
  pub kind : ℕ
  pub outcome : ℕ
  pub selector : Domain
  pub domain : Domain

-- a body has kind, outcome, how long the selector is, the selector, and the domain, each name with a final dot or without; a number that is
-- not there is 255, which is none listed
unfoldable pub reported : Octets → Reported
reported body = record {
  kind = get_or body 0 255;
  outcome = get_or body 1 255;
  selector = without_dot (take (get_or body 2 255) (drop 3 body));
  domain = without_dot (drop (3 + get_or body 2 255) body);
}

unfoldable pub body_or_empty : Option Octets → Octets
body_or_empty None = []
body_or_empty (Some body) = body

-- a set's body is such records again, here at most n of them; one that runs past the end has no octets
unfoldable pub set_most : ℕ → Octets → List Reported
set_most zero bs = []
set_most (suc n) [] = []
set_most (suc n) (b ∷ bs) = reported (body_or_empty (first_body (b ∷ bs))) ∷ set_most n (after_record (b ∷ bs))

unfoldable pub set_in : Octets → List Reported
set_in body = set_most (length body) body

-- ------------------------------------------------------------------ 28

-- "a set that 01 would refuse 3 or 4", whatever its domains, which are 11's: nothing
unfoldable pub with_good_domain : Reported → GivenIdentifier
with_good_domain i = record { kind = i.kind; outcome = i.outcome; domain = octets "a" }

unfoldable pub good_set : List Reported → Option (List Reported)
good_set is = elim (identifiers_from 0 false (map with_good_domain is)) [ ok _ ↦ Some is | not_ok r ↦ None ]

unfoldable pub set_of : Option Octets → Option (List Reported)
set_of None = None
set_of (Some body) = good_set (set_in body)

-- both lists
pub record Lists : Type 0 where
  pub authors : Octets
  pub sets : Octets

-- what a row's two numbers name: "its author domain, and its set of up to 16 identifiers"
pub record Named : Type 0 where
  pub author : Domain
  pub identifiers : List Reported

unfoldable pub both_named : Option Octets → Option (List Reported) → Option Named
both_named None is = None
both_named (Some d) None = None
both_named (Some d) (Some is) = Some (record { author = without_dot d; identifiers = is })

-- nothing where 28 is due: "such a row's number past its list, or a set that 01 would refuse 3 or 4"
unfoldable pub named_by : Lists → (author set : ℕ) → Option Named
named_by l author set = both_named (body_at author l.authors) (set_of (body_at set l.sets))
