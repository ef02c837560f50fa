-- The tests of a text by its entries, and the hosts of its list.
use Rattle.std.specs.Prelude.{None, Option, Some}
use mathlib.Core.Path.{◌≡◌, refl, ap, ◌∙◌}
use mathlib.Core.List.{List, [], ◌∷◌}
use mathlib.Core.Bool.{Bool, true, false, ◌&&◌}
use Rattle.octets.specs.Octets.{Octets, is_empty, is_nothing, all, same, split, trim, trim_end, after, one_of, any}
use Rattle.octets.proofs.TextLaws.{true→T}
use Rattle.domain.specs.Domain.{Domain}
use Rattle.policy.specs.Reports.{valid_entry}
use Rattle.policy.specs.Tags.{Tag, tags}
use Rattle.policy.specs.Records.{read, record_of, rua_of, read_policy, rua_text}
use Rattle.address.specs.Address.{add_host, host_of, hosts_of, is_mailto, rua_hosts}
use Rattle.address_place.specs.Place.{no_host, no_other, only_host}

none_of : (es : List Octets) → all (λ e. is_nothing (host_of e)) es ≡ is_empty (hosts_of es)
unfolding all hosts_of is_nothing add_host
none_of [] = refl
none_of (e ∷ es) = go (host_of e) (none_of es)
  where
    go : (o : Option Domain) → all (λ e. is_nothing (host_of e)) es ≡ is_empty (hosts_of es)
        → (is_nothing o && all (λ e. is_nothing (host_of e)) es) ≡ is_empty (add_host o (hosts_of es))
    go None ih = ih
    go (Some x) ih = refl

only_of : (h : Domain) (es : List Octets) → all (λ e. no_other h (host_of e)) es ≡ all (same h) (hosts_of es)
unfolding all hosts_of no_other add_host
only_of h [] = refl
only_of h (e ∷ es) = go (host_of e) (only_of h es)
  where
    go : (o : Option Domain) → all (λ e. no_other h (host_of e)) es ≡ all (same h) (hosts_of es)
        → (no_other h o && all (λ e. no_other h (host_of e)) es) ≡ all (same h) (add_host o (hosts_of es))
    go None ih = ih
    go (Some x) ih = ap (λ b. same h x && b) ih

pub no_host_by : (t : Octets) (hs : List Domain) → rua_hosts (rua_text t) ≡ hs → no_host t ≡ is_empty hs
unfolding no_host rua_hosts
no_host_by t hs e = none_of (split 44 (rua_text t)) ∙ ap is_empty e

pub only_host_by : (h : Domain) (t : Octets) (hs : List Domain) → rua_hosts (rua_text t) ≡ hs → only_host h t ≡ all (same h) hs
unfolding only_host rua_hosts
only_host_by h t hs e = only_of h (split 44 (rua_text t)) ∙ ap (all (same h)) e

no_entry : rua_hosts [] ≡ []
unfolding rua_hosts hosts_of add_host host_of is_mailto valid_entry split trim trim_end after one_of any
no_entry = refl

-- a text that is no record has no rua text
pub not_a_record : (t : Octets) → read_policy t ≡ None → no_host t ≡ true
unfolding read_policy record_of rua_text rua_of read
not_a_record t e = no_host_by t [] (go (tags t) refl)
  where
    go : (o : Option (List Tag)) → tags t ≡ o → rua_hosts (rua_text t) ≡ []
    go None f = rw (f, rua_text, rua_of, read) no_entry
    go (Some ts) f = absurd (true→T {b = false} (cc (rw (f, record_of) at e)))
