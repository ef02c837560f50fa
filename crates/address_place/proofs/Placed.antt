-- The rua text stands in the scratch where the agreement says.
use mathlib.Core.Path.{◌≡◌, refl, ap, ◌∙◌}
use mathlib.Core.List.{List, [], ◌∷◌, ◌++◌, flatten, append_assoc}
use mathlib.Core.Bool.{Bool, true, false}
use Prim.Native.Nat.{ℕ, ◌+◌, ◌-◌, ◌≤◌}
use native.Mathlib.Omega.{arith}
use lib.Dec.{leb}
use lib.ListN.{length, take, drop, length-append, length-drop}
use lib.Seq.{drop_at, drop-drop, drop-append-le, take-append-le}
use borrow.Author.Tests.{le-leb}
use Rattle.std.specs.Prelude.{if◌then◌else◌, Some, None, Option}
use Rattle.octets.specs.Octets.{Octets, all, same, part_of}
use Rattle.octets.specs.Lent.{over}
use Rattle.octets.proofs.TextLaws.{true→T}
use Rattle.domain.specs.Domain.{Domain}
use Rattle.policy.specs.declared.Bounds.{Bounds}
use Rattle.policy.specs.declared.Settings.{Settings}
use Rattle.policy.specs.Records.{read_policy, rua_text, rua_begin, rua_length, rua_bounds}
use Rattle.policy_read.proofs.RecordLaws.{rua_fits}
use Rattle.txt.specs.Answers.{records, texts_read, texts, scratch_after}
use Rattle.txt.specs.Taking.{left_after}
use Rattle.address.specs.declared.Agreement.{Agreement}
use Rattle.address.specs.Address.{rua_hosts, by_hosts, agreement, confirmation}
use Rattle.address_hosts.proofs.HostLaws.{rua_there}
use Rattle.address_place.specs.Place.{no_host, ReplacedBy}
use Rattle.address_place.proofs.EntryLaws.{no_host_by, only_host_by, not_a_record}

-- a text that stands behind another, by its rua text's bounds
cut_out : (front t rest : Octets) (at : ℕ) → length front ≡ at → part_of (front ++ (t ++ rest)) (at + rua_begin t) (at + rua_begin t + rua_length t) ≡ rua_text t
unfolding part_of rua_bounds
cut_out front t rest at e =
    let size : at + rua_begin t + rua_length t - (at + rua_begin t) ≡ rua_length t = omega arith in
    let fits : rua_begin t + rua_length t ≤ length t = rua_fits t (rua_bounds t) refl in
    rw (
      size,
      ← drop-drop (rua_begin t) at (front ++ (t ++ rest)),
      drop_at front (t ++ rest) at e,
      drop-append-le (rua_begin t) t rest (omega (arith, fits)),
      take-append-le (rua_length t) (drop (rua_begin t) t) rest (omega (arith, fits, length-drop (rua_begin t) t)),
    ) (rua_there t)

module _ (h : Domain) (b : Bounds) (m : Octets) where
  Placed : List Octets → Octets → Type 0
  Placed ts scratch = (t : Octets) × ReplacedBy h ts t × (part_of scratch b.begin (b.begin + b.length) ≡ rua_text t)

  one_more : (u : Octets) (us : List Octets) → no_host u ≡ true → all no_host us ≡ true → all no_host (u ∷ us) ≡ true
  unfolding all
  one_more u us e f = rw (e, f)

  no_place : (one : Bool) → (if one then Agreement.Confirmed else Agreement.PlainNo) ≡ Agreement.Replaced b → ⊥
  no_place true e = true→T {b = false} (cc e)
  no_place false e = true→T {b = false} (cc e)

  placed : (ts : List Octets) (front : Octets) (at : ℕ) → length front ≡ at → (one : Bool) → agreement h at one ts ≡ Agreement.Replaced b
      → Placed ts (front ++ (flatten ts ++ m))
  unfolding agreement flatten Placed by_hosts all
  placed [] front at e one f = absurd (no_place one f)
  placed (t ∷ ts) front at e one f = go (λ one g. placed ts (front ++ t) (at + length t) (omega (arith, e, length-append front t)) one g) (read_policy t) refl f
    where
      behind : no_host t ≡ true → (scratch : Octets) → Placed ts scratch → Placed (t ∷ ts) scratch
      behind n scratch (u, c, p) = (
        u,
        record {
          earlier = t ∷ c.earlier;
          later = c.later;
          among = ap (λ z. t ∷ z) c.among;
          first = one_more t c.earlier n c.first;
          settings = c.settings;
          is_record = c.is_record;
          some_host = c.some_host;
          same_hosts = c.same_hosts;
        },
        p,
      )

      further : no_host t ≡ true → Placed ts ((front ++ t) ++ (flatten ts ++ m)) → Placed (t ∷ ts) (front ++ ((t ++ flatten ts) ++ m))
      further n p = rw (append_assoc t (flatten ts) m, ← append_assoc front t (flatten ts ++ m)) (behind n ((front ++ t) ++ (flatten ts ++ m)) p)

      hosts : ((one : Bool) → agreement h (at + length t) one ts ≡ Agreement.Replaced b → Placed ts ((front ++ t) ++ (flatten ts ++ m)))
          → (s : Settings) → read_policy t ≡ Some s → (hs : List Domain) → rua_hosts (rua_text t) ≡ hs
          → by_hosts h at t hs (agreement h (at + length t) true ts) ≡ Agreement.Replaced b → Placed (t ∷ ts) (front ++ ((t ++ flatten ts) ++ m))
      hosts ih s q [] r g = further (no_host_by t [] r) (ih true g)
      hosts ih s q (x ∷ xs) r g = here (all (same h) (x ∷ xs)) refl g
        where
          here : (y : Bool) → all (same h) (x ∷ xs) ≡ y
              → (if y then Agreement.Replaced (record { begin = at + rua_begin t; length = rua_length t }) else Agreement.PlainNo) ≡ Agreement.Replaced b
              → Placed (t ∷ ts) (front ++ ((t ++ flatten ts) ++ m))
          here true k i =
              let same_bounds : ◌≡◌ {A = Bounds} (record { begin = at + rua_begin t; length = rua_length t }) b = cc in (
                t,
                record {
                  earlier = [];
                  later = ts;
                  among = refl;
                  first = refl;
                  settings = s;
                  is_record = q;
                  some_host = no_host_by t (x ∷ xs) r;
                  same_hosts = only_host_by h t (x ∷ xs) r ∙ k;
                },
                rw (← same_bounds, append_assoc t (flatten ts) m) (cut_out front t (flatten ts ++ m) at e),
              )
          here false k i = absurd (true→T {b = false} (cc i))

      go : ((one : Bool) → agreement h (at + length t) one ts ≡ Agreement.Replaced b → Placed ts ((front ++ t) ++ (flatten ts ++ m)))
          → (r : Option Settings) → read_policy t ≡ r
          → elim r as (λ _. Agreement) [
            | Some s ↦ by_hosts h at t (rua_hosts (rua_text t)) (agreement h (at + length t) true ts)
            | None ↦ agreement h (at + length t) one ts
          ] ≡ Agreement.Replaced b
          → Placed (t ∷ ts) (front ++ ((t ++ flatten ts) ++ m))
      go ih None q g = further (not_a_record t q) (ih one g)
      go ih (Some s) q g = hosts ih s q (rua_hosts (rua_text t)) refl g

pub stands : (host : Domain) (bytes scratch : Octets) (b : Bounds) → confirmation host (records bytes) ≡ Agreement.Replaced b → 4096 ≤ length scratch
    → (ts : List Octets) × (text : Octets) × (texts_read bytes ≡ Some ts) × ReplacedBy host ts text
    × (part_of (left_after (records bytes) scratch) b.begin (b.begin + b.length) ≡ rua_text text)
unfolding confirmation left_after texts scratch_after over Placed
stands h bytes scratch b e room = go (texts_read bytes) refl e
  where
    go : (o : Option (List Octets)) → texts_read bytes ≡ o → elim o as (λ _. Agreement) [ None ↦ Agreement.NotKnown | Some ts ↦ agreement h 0 false ts ] ≡ Agreement.Replaced b
        → (ts : List Octets) × (t : Octets) × (o ≡ Some ts) × ReplacedBy h ts t
        × (part_of (elim o as (λ _. Octets) [
          | None ↦ scratch
          | Some ts ↦ if leb 4096 (length scratch) then flatten ts ++ drop (length (flatten ts)) scratch else scratch
        ]) b.begin (b.begin + b.length) ≡ rua_text t)
    go None q f = absurd (true→T {b = false} (cc f))
    go (Some ts) q f =
        let (t, c, p) = placed h b (drop (length (flatten ts)) scratch) ts [] 0 refl false f in
        (ts, t, refl, c, rw (le-leb 4096 (length scratch) room) p)
