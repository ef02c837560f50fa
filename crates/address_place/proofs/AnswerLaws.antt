-- What an answer's texts say: the first with a host decides, and without one a record does.
use mathlib.Core.Path.{◌≡◌, refl, sym, ◌∙◌}
use mathlib.Core.List.{List, [], ◌∷◌, ◌++◌, flatten}
use mathlib.Core.Bool.{Bool, true, false, ◌&&◌, false≢true}
use Prim.Native.Nat.{ℕ, ◌+◌}
use native.Mathlib.Omega.{arith}
use lib.ListN.{length, length-append}
use Rattle.std.specs.Prelude.{if◌then◌else◌, Option, Some, None}
use Rattle.octets.specs.Octets.{Octets, is_empty, all, same}
use Rattle.domain.specs.Domain.{Domain}
use Rattle.policy.specs.Records.{read_policy, rua_text, rua_begin, rua_length}
use Rattle.txt.specs.Answers.{records, texts_read, add_record, policy_records}
use Rattle.address.specs.declared.Agreement.{Agreement}
use Rattle.address.specs.Address.{rua_hosts, by_hosts, agreement, confirmation}
use Rattle.address_place.specs.Place.{no_host, only_host}
use Rattle.address_place.proofs.EntryLaws.{no_host_by, only_host_by, not_a_record}
use Rattle.policy.specs.declared.Settings.{Settings}

-- whether one was a record, with a text more
unfoldable heard : Bool → Option Settings → Bool
heard one (Some s) = true
heard one None = one

both : (a b : Bool) → (a && b) ≡ true → (a ≡ true) × (b ≡ true)
both true b e = (refl, e)
both false b e = absurd (false≢true e)

module _ (h : Domain) where
  -- a record by its hosts
  passed_by : (at : ℕ) (t : Octets) (others : Agreement) (hs : List Domain) → is_empty hs ≡ true → by_hosts h at t hs others ≡ others
  unfolding by_hosts
  passed_by at t others [] e = refl
  passed_by at t others (x ∷ xs) e = absurd (false≢true e)

  decided_by : (at : ℕ) (t : Octets) (others : Agreement) (hs : List Domain) → is_empty hs ≡ false
      → by_hosts h at t hs others ≡ (if all (same h) hs then Agreement.Replaced (record { begin = at + rua_begin t; length = rua_length t }) else Agreement.PlainNo)
  unfolding by_hosts
  decided_by at t others [] e = absurd (false≢true (sym e))
  decided_by at t others (x ∷ xs) e = refl

  -- a text without a host
  passed : (at : ℕ) (one : Bool) (t : Octets) (ts : List Octets) → no_host t ≡ true → agreement h at one (t ∷ ts) ≡ agreement h (at + length t) (heard one (read_policy t)) ts
  unfolding agreement heard
  passed at one t ts n = go (read_policy t)
    where
      go : (r : Option Settings) → elim r as (λ _. Agreement) [
        | Some s ↦ by_hosts h at t (rua_hosts (rua_text t)) (agreement h (at + length t) true ts)
        | None ↦ agreement h (at + length t) one ts
      ] ≡ agreement h (at + length t) (heard one r) ts
      go None = refl
      go (Some s) = passed_by at t (agreement h (at + length t) true ts) (rua_hosts (rua_text t)) (sym (no_host_by t (rua_hosts (rua_text t)) refl) ∙ n)

  -- a text with one
  decided : (at : ℕ) (one : Bool) (t : Octets) (ts : List Octets) → no_host t ≡ false
      → agreement h at one (t ∷ ts) ≡ (if only_host h t then Agreement.Replaced (record { begin = at + rua_begin t; length = rua_length t }) else Agreement.PlainNo)
  unfolding agreement
  decided at one t ts n = rw (only_host_by h t (rua_hosts (rua_text t)) refl) (go (read_policy t) refl)
    where
      go : (r : Option Settings) → read_policy t ≡ r → elim r as (λ _. Agreement) [
        | Some s ↦ by_hosts h at t (rua_hosts (rua_text t)) (agreement h (at + length t) true ts)
        | None ↦ agreement h (at + length t) one ts
      ] ≡ (if all (same h) (rua_hosts (rua_text t)) then Agreement.Replaced (record { begin = at + rua_begin t; length = rua_length t }) else Agreement.PlainNo)
      go None q = absurd (false≢true (sym n ∙ not_a_record t q))
      go (Some s) q = decided_by at t (agreement h (at + length t) true ts) (rua_hosts (rua_text t)) (sym (no_host_by t (rua_hosts (rua_text t)) refl) ∙ n)

  -- texts that stand in the scratch from a place on
  first_of : (earlier later : List Octets) (t : Octets) (at : ℕ) (one : Bool) → all no_host earlier ≡ true → no_host t ≡ false
      → agreement h at one (earlier ++ t ∷ later)
      ≡ (if only_host h t then Agreement.Replaced (record { begin = at + length (flatten earlier) + rua_begin t; length = rua_length t }) else Agreement.PlainNo)
  unfolding all flatten
  first_of [] later t at one e n = let z : at + 0 ≡ at = omega arith in rw z (decided at one t later n)
  first_of (u ∷ us) later t at one e n =
      let (f, g) = both (no_host u) (all no_host us) e in
      let z : at + length (u ++ flatten us) ≡ at + length u + length (flatten us) = omega (arith, length-append u (flatten us)) in
      rw z (passed at one u (us ++ t ∷ later) f ∙ first_of us later t (at + length u) (heard one (read_policy u)) g n)

  none_of : (ts : List Octets) (at : ℕ) (one : Bool) → all no_host ts ≡ true
      → agreement h at one ts ≡ (if is_empty (policy_records ts) then (if one then Agreement.Confirmed else Agreement.PlainNo) else Agreement.Confirmed)
  unfolding all agreement policy_records heard add_record
  none_of [] at one e = refl
  none_of (t ∷ ts) at one e =
      let (f, g) = both (no_host t) (all no_host ts) e in
      passed at one t ts f ∙ go (read_policy t) (λ one. none_of ts (at + length t) one g)
    where
      go : (r : Option Settings)
          → ((one : Bool) → agreement h (at + length t) one ts ≡ (if is_empty (policy_records ts) then (if one then Agreement.Confirmed else Agreement.PlainNo) else Agreement.Confirmed))
          → agreement h (at + length t) (heard one r) ts
          ≡ (if is_empty (add_record r (policy_records ts)) then (if one then Agreement.Confirmed else Agreement.PlainNo) else Agreement.Confirmed)
      go None ih = ih one
      go (Some s) ih = ih true ∙ either (is_empty (policy_records ts))
        where
          either : (b : Bool) → (if b then Agreement.Confirmed else Agreement.Confirmed) ≡ Agreement.Confirmed
          either true = refl
          either false = refl

-- of an answer that could be read, what its texts say
by_texts : (h : Domain) (bytes : Octets) (ts : List Octets) → texts_read bytes ≡ Some ts → confirmation h (records bytes) ≡ agreement h 0 false ts
unfolding confirmation
by_texts h bytes ts e = rw (e, confirmation)

pub decides : (h : Domain) (bytes : Octets) (earlier later : List Octets) (t : Octets) → texts_read bytes ≡ Some (earlier ++ t ∷ later)
    → all no_host earlier ≡ true → no_host t ≡ false
    → confirmation h (records bytes)
    ≡ (if only_host h t then Agreement.Replaced (record { begin = length (flatten earlier) + rua_begin t; length = rua_length t }) else Agreement.PlainNo)
decides h bytes earlier later t e f n =
    let z : 0 + length (flatten earlier) ≡ length (flatten earlier) = omega arith in
    by_texts h bytes (earlier ++ t ∷ later) e ∙ rw z at (first_of h earlier later t 0 false f n)

pub confirms : (h : Domain) (bytes : Octets) (ts : List Octets) → texts_read bytes ≡ Some ts → all no_host ts ≡ true
    → confirmation h (records bytes) ≡ (if is_empty (policy_records ts) then Agreement.PlainNo else Agreement.Confirmed)
confirms h bytes ts e f = by_texts h bytes ts e ∙ none_of h ts 0 false f
