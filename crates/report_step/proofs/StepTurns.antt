-- Laws of one octet, by the node.
use mathlib.Core.Path.{◌≡◌, refl, sym, ap, ◌∙◌}
use mathlib.Core.List.{List, [], ◌∷◌}
use mathlib.Core.Bool.{Bool, true, false, ◌&&◌, ◌||◌}
use Prim.Native.Nat.{ℕ, zero, suc, ◌≤◌, ◌<◌}
use native.Mathlib.Omega.{arith}
use lib.Dec.{leb}
use lib.ListN.{length, get_or}
use borrow.Author.Tests.{lt-leb, le-leb, leb-true, leb-false}
use Rattle.std.specs.Prelude.{if◌then◌else◌, Result, Err}
use Rattle.report_steps.specs.declared.Refusal.{Refusal}
use Rattle.report_steps.specs.code.Steps.{refusal_number}
use Rattle.octets.specs.Octets.{Octets, between}
use Rattle.parsing.specs.Reads.{done}
use Rattle.parsing_steps.specs.Stepping.{Step, on, refused, step_of, shut}
use Rattle.parsing_steps.proofs.StepLaws.{where_no}
use Rattle.report_states.specs.Standing.{Node, last_node, nodes, node_of, left_at}
use Rattle.report_kept.specs.declared.ReaderState.{ReaderState}
use Rattle.report_kept.specs.declared.Turn.{Turn}
use Rattle.report_kept.specs.code.View.{place_of, kept_of, within_identifier, is_broken, left_in, said_in, laid, laid_at, write, turn_step, Turned}
use Rattle.report_kept.proofs.ArriveLaws.{left_other, left_broken}

module _ (s : ReaderState) (five : Bool) (x : ℕ) where
  -- a node that is no address's
  pub turned_other : (r : Result Turn Refusal) → (s.node ≡ 64 → ⊥) → Turned s false x r → Turned s five x r
  turned_other r h t row l f = t row l (λ q. absurd (h q))

  pub turned_broken : is_broken s.node s.identifiers ≡ true → Turned s five x (Err Refusal.Outside)
  unfolding turn_step refusal_number shut
  turned_broken e row l f = ap (λ t. step_of t x) (left_broken s row e) ∙ where_no (λ y. false) _ x refl

  past : (ns : List Node) (n : ℕ) → length ns ≤ n → get_or ns n last_node ≡ last_node
  past [] n h = refl
  past (m ∷ ns) zero h = absurd (omega (arith, h))
  past (m ∷ ns) (suc n) h = past ns n (omega (arith, h))

  last_at : (n : ℕ) → 65 ≤ n → node_of n ≡ last_node
  unfolding node_of nodes
  last_at n h = go (leb 66 n) refl
    where
      go : (b : Bool) → leb 66 n ≡ b → node_of n ≡ last_node
      go true e = past nodes n (leb-true 66 n e)
      go false e = let is : n ≡ 65 = (let less = leb-false 66 n e in omega (arith, less, h)) in ap node_of is

  pub turned_last : is_broken s.node s.identifiers ≡ false → 65 ≤ s.node → Turned s five x (Err Refusal.Outside)
  unfolding turn_step refusal_number left_at step_of
  turned_last e h row l f = ap (λ t. step_of t x) (left_other s row e (λ q. omega (arith, q, h)) ∙ ap (λ m. left_at m (place_of s) (kept_of s row)) (last_at s.node h))
