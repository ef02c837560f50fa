-- Laws of the words of a record element, and of its texts in pieces.
use mathlib.Core.Path.{◌≡◌, refl}
use mathlib.Core.List.{[], ◌++◌}
use mathlib.Core.Bool.{Bool, true, false, ◌||◌}
use Prim.Native.Nat.{ℕ, zero, suc}
use Rattle.octets.specs.Octets.{Octets, octets, is_set, lower}
use Rattle.octets_pieces.specs.code.Putting.{Puts}
use Rattle.octets_pieces.proofs.PuttingLaws.{puts_both}
use Rattle.policy.specs.declared.Policy.{Policy}
use Rattle.rows.specs.declared.Seen.{Seen}
use Rattle.report.specs.Xml.{element}
use Rattle.report.specs.Report.{row_policy, reported_disposition, result_of_alignment, policy_evaluated, outcome_word, dkim_element, spf_element}
use Rattle.report.proofs.Regrouping.{leaf, ◌·◌, whole, along, regroup, lit, el}

-- ------------------------------------------------------------------ words

policy_other : (d : ℕ) → (d ≡ 1 → ⊥) → (d ≡ 2 → ⊥) → row_policy d ≡ Policy.None
unfolding row_policy
policy_other zero e f = refl
policy_other (suc zero) e f = absurd (e refl)
policy_other (suc (suc zero)) e f = absurd (f refl)
policy_other (suc (suc (suc d))) e f = refl

pub is_quarantine : (a : Bool) → octets "quarantine" ≡ reported_disposition (row_policy 1) a
unfolding reported_disposition row_policy octets
is_quarantine a = refl

pub is_reject : (a : Bool) → octets "reject" ≡ reported_disposition (row_policy 2) a
unfolding reported_disposition row_policy octets
is_reject a = refl

module _ (d : ℕ) (e : d ≡ 1 → ⊥) (f : d ≡ 2 → ⊥) where
  pub is_pass : octets "pass" ≡ reported_disposition (row_policy d) true
  unfolding reported_disposition octets
  is_pass = rw (policy_other d e f)

  pub is_none : octets "none" ≡ reported_disposition (row_policy d) false
  unfolding reported_disposition octets
  is_none = rw (policy_other d e f)

pub no_outcome : (n : ℕ) → (n ≡ 0 → ⊥) → (n ≡ 1 → ⊥) → (n ≡ 2 → ⊥) → [] ≡ outcome_word n
unfolding outcome_word octets
no_outcome zero e f g = absurd (e refl)
no_outcome (suc zero) e f g = absurd (f refl)
no_outcome (suc (suc zero)) e f g = absurd (g refl)
no_outcome (suc (suc (suc n))) e f g = refl

-- ------------------------------------------------------------------ texts

-- an element of three, as it is written: with each tag's end and the next one's start as one piece
evaluated_regroup : (w a b : Octets)
    → octets "<policy_evaluated><disposition>" ++ (w ++ (octets "</disposition><dkim>" ++ (a ++ (octets "</dkim><spf>" ++ (b ++ (octets "</spf></policy_evaluated>" ++ []))))))
    ≡ element "policy_evaluated" (element "disposition" w ++ element "dkim" a ++ element "spf" b)
unfolding whole along lit el element octets
evaluated_regroup w a b = regroup
    (lit "<policy_evaluated><disposition>" · (leaf w · (lit "</disposition><dkim>" · (leaf a · (lit "</dkim><spf>" · (leaf b · (lit "</spf></policy_evaluated>" · leaf [])))))))
    (el "policy_evaluated" (el "disposition" (leaf w) · el "dkim" (leaf a) · el "spf" (leaf b)))
    refl

pub evaluated_texts : (s : Seen) (aligned : Bool) → aligned ≡ (is_set s.dkim || is_set s.spf)
    → octets "<policy_evaluated><disposition>" ++ (reported_disposition (row_policy s.disposition) aligned ++ (octets "</disposition><dkim>" ++ (result_of_alignment (is_set s.dkim) ++ (octets "</dkim><spf>" ++ (result_of_alignment (is_set s.spf) ++ (octets "</spf></policy_evaluated>" ++ []))))))
    ≡ policy_evaluated s
unfolding policy_evaluated
evaluated_texts s aligned q =
    rw q (evaluated_regroup (reported_disposition (row_policy s.disposition) (is_set s.dkim || is_set s.spf)) (result_of_alignment (is_set s.dkim)) (result_of_alignment (is_set s.spf)))

dkim_regroup : (d s o : Octets)
    → ((octets "<dkim><domain>" ++ (d ++ octets "</domain><selector>")) ++ (s ++ octets "</selector><result>")) ++ (o ++ octets "</result></dkim>")
    ≡ element "dkim" (element "domain" d ++ element "selector" s ++ element "result" o)
unfolding whole along lit el element octets
dkim_regroup d s o = regroup
    (((lit "<dkim><domain>" · (leaf d · lit "</domain><selector>")) · (leaf s · lit "</selector><result>")) · (leaf o · lit "</result></dkim>"))
    (el "dkim" (el "domain" (leaf d) · el "selector" (leaf s) · el "result" (leaf o)))
    refl

spf_regroup : (d o : Octets) → (octets "<spf><domain>" ++ (d ++ octets "</domain><result>")) ++ (o ++ octets "</result></spf>") ≡ element "spf" (element "domain" d ++ element "result" o)
unfolding whole along lit el element octets
spf_regroup d o = regroup
    ((lit "<spf><domain>" · (leaf d · lit "</domain><result>")) · (leaf o · lit "</result></spf>"))
    (el "spf" (el "domain" (leaf d) · el "result" (leaf o)))
    refl

module _ (before : Octets) (at : ℕ) {m₁ m₂ m₃ : ℕ} {o₁ o₂ o₃ : Octets} where
  pub dkim_puts : (d s : Octets) (n : ℕ) {m₄ : ℕ} {o₄ : Octets} → Puts (octets "<dkim><domain>") at before m₁ o₁ → Puts (lower d ++ octets "</domain><selector>") m₁ o₁ m₂ o₂
      → Puts (lower s ++ octets "</selector><result>") m₂ o₂ m₃ o₃ → Puts (outcome_word n ++ octets "</result></dkim>") m₃ o₃ m₄ o₄
      → Puts (dkim_element (record { kind = 1; outcome = n; selector = s; domain = d })) at before m₄ o₄
  unfolding dkim_element
  dkim_puts d s n p q r t =
      rw (dkim_regroup (lower d) (lower s) (outcome_word n)) at (puts_both _ _ before at (puts_both _ _ before at (puts_both _ _ before at p q) r) t)

  pub spf_puts : (d : Octets) (n : ℕ) → Puts (octets "<spf><domain>") at before m₁ o₁ → Puts (lower d ++ octets "</domain><result>") m₁ o₁ m₂ o₂
      → Puts (outcome_word n ++ octets "</result></spf>") m₂ o₂ m₃ o₃ → Puts (spf_element (record { kind = 0; outcome = n; selector = []; domain = d })) at before m₃ o₃
  unfolding spf_element
  spf_puts d n p q r = rw (spf_regroup (lower d) (outcome_word n)) at (puts_both _ _ before at (puts_both _ _ before at p q) r)
