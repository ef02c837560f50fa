-- A walk that keeps only the last record found so far, target by target.
use Rattle.std.specs.Prelude.{List, [], ◌∷◌, ◌+◌, if◌then◌else◌, Option, None, Some}
use Rattle.octets.specs.Octets.{same}
use Rattle.lookup.specs.Lookup.{Lookups, done, ◌>>=◌}
use Rattle.domain.specs.Domain.{Domain, label_count, last_labels}
use Rattle.policy.specs.declared.Psd.{Psd}
use Rattle.txt.specs.declared.Reply.{Reply}
use Rattle.walk.specs.Walk.{record_at, Found, found}
use Rattle.walk_progress.specs.code.Summary.{Summary, or_found}

-- a record, if it stands at a domain
unfoldable pub if_at : Domain → Option Found → Option Found
if_at d None = None
if_at d (Some f) = if same f.domain d then Some f else None

-- a walk that ends with this last record
unfoldable pub last_summary : Domain → Option Found → Summary
last_summary start None = record { organization = start; applicable = None }
last_summary start (Some f) = record { organization = f.domain; applicable = Some f }

-- the domain with one more label of the start
unfoldable pub one_more : (start : Domain) → Domain → Domain
one_more start d = last_labels (label_count d + 1) start

-- a walk that ends with this psd=y record, after this last one; `wider` is the record's domain with one more label of the start
unfoldable pub wider_summary : (start : Domain) → (last : Option Found) → Found → (wider : Domain) → Summary
wider_summary start last f wider =
    if same f.domain start
    then last_summary start (Some f)
    else record { organization = wider; applicable = or_found (if_at wider last) (Some f) }

unfoldable pub suffix_summary : (start : Domain) → (last : Option Found) → Found → Summary
suffix_summary start last f = wider_summary start last f (one_more start f.domain)

-- what follows a record that is found, by its psd
unfoldable pub by_found : (start : Domain) → (last : Option Found) → Found → (rest : Option Found → Lookups Reply (Option Summary)) → Psd → Lookups Reply (Option Summary)
by_found start last f rest Psd.Yes = done (Some (suffix_summary start last f))
by_found start last f rest Psd.No = done (Some (last_summary start (Some f)))
by_found start last f rest Psd.Unset = rest (Some f)

-- what follows a reply at a target
unfoldable pub by_reply : (start : Domain) → (last : Option Found) → Domain → (rest : Option Found → Lookups Reply (Option Summary)) → Reply → Lookups Reply (Option Summary)
by_reply start last d rest Reply.Error = done None
by_reply start last d rest Reply.NoRecord = rest last
by_reply start last d rest (Reply.Record s) = by_found start last (found d s) rest s.psd

-- a walk that has these targets left
unfoldable pub summarized_from : (start : Domain) → (last : Option Found) → List Domain → Lookups Reply (Option Summary)
summarized_from start last [] = done (Some (last_summary start last))
summarized_from start last (d ∷ ds) = do
  r ← record_at d
  by_reply start last d (λ l. summarized_from start l ds) r
