-- Laws of a list by value, by the cases of the code.
use Rattle.std.specs.Prelude.{Ok, Err}
use mathlib.Core.Path.{◌≡◌, refl}
use mathlib.Core.List.{[], ◌∷◌}
use mathlib.Core.Bool.{true, false, ◌||◌, or-false, and-true, and-false}
use Prim.Native.Nat.{ℕ, zero, suc, ◌-◌, ◌≤◌, ◌<◌}
use native.Mathlib.Omega.{arith}
use lib.Dec.{eqb}
use lib.ListN.{length, replicate}
use borrow.Author.Tests.{ne_eqb}
use Rattle.octets.specs.Octets.{Octets, any, same_text, lower, part_of}
use Rattle.octets.specs.Refusing.{refusal}
use Rattle.octets.specs.Lent.{left}
use Rattle.octets.proofs.TextLaws.{flag_unset, flag_set}
use Rattle.domain.specs.Domain.{Domain, without_dot, is_domain}
use Rattle.policy.specs.declared.Policy.{Policy}
use Rattle.verdict.specs.declared.Disposition.{Disposition}
use Rattle.rows.specs.declared.Finding.{Finding}
use Rattle.rows.specs.Rows.{is_judged, result_number, disposition_number, serves}
use Rattle.rows_day.specs.declared.DayList.{DayList}
use Rattle.rows_day.specs.Day.{domain_in, named_for}
use Rattle.rows_check.specs.code.Check.{named}

-- ------------------------------------------------------------------ a list's name

module _ (d : Octets) {x : Domain} (q : x ≡ without_dot d) where
  pub named_bad : is_domain x ≡ false → Err (refusal 11 0) ≡ named d
  unfolding named
  named_bad e = rw (← q, e)

  pub named_good : is_domain x ≡ true → (name : Octets) → name ≡ left (lower x) (replicate 253 0) → Ok (record { cleared = 1; domain = name; length = length x }) ≡ named d
  unfolding named named_for
  named_good e name h = rw (← q, e, h)

module _ (l : DayList) (d : Octets) where
  pub serves_never : l.cleared ≡ 0 → false ≡ serves (domain_in l) d
  unfolding serves domain_in
  serves_never e = rw (flag_unset l.cleared e)

  -- of the domain without its dot
  module _ {x : Domain} (q : x ≡ without_dot d) where
    pub serves_named : (l.cleared ≡ 0 → ⊥) → same_text x (part_of l.domain 0 l.length) ≡ serves (domain_in l) d
    unfolding serves domain_in part_of
    serves_named e = rw (q, flag_set l.cleared e, at_front l.length) refl
      where
        at_front : (n : ℕ) → n - 0 ≡ n
        at_front n = omega arith

-- ------------------------------------------------------------------ a verdict

module _ (f : Finding) where
  pub not_applied : 3 ≤ f.disposition → false ≡ is_judged f
  unfolding is_judged disposition_number result_number any
  not_applied h =
      rw (ne_eqb f.disposition 0 (λ e. absurd (omega (arith, e, h))), ne_eqb f.disposition 1 (λ e. absurd (omega (arith, e, h))), ne_eqb f.disposition 2 (λ e. absurd (omega (arith, e, h))))
      (rw (and-false _) refl)

  module _ (h : f.disposition < 3) where
    applied : any (λ p. eqb f.disposition (disposition_number (Disposition.Apply p))) (Policy.None ∷ Policy.Quarantine ∷ Policy.Reject ∷ []) ≡ true
    unfolding disposition_number any
    applied = go f.disposition h
      where
        go : (d : ℕ) → d < 3 → (eqb d 0 || (eqb d 1 || (eqb d 2 || false))) ≡ true
        go zero l = refl
        go (suc zero) l = refl
        go (suc (suc zero)) l = refl
        go (suc (suc (suc d))) l = absurd (omega arith)

    pub is_pass : f.result ≡ 1 → true ≡ is_judged f
    unfolding is_judged result_number any
    is_pass e = rw (applied, e)

    pub by_fail : (f.result ≡ 1 → ⊥) → eqb f.result 2 ≡ is_judged f
    unfolding is_judged result_number any
    by_fail e = rw (applied, ne_eqb f.result 1 e, or-false, and-true)
