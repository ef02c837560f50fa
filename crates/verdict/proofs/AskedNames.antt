-- The names that an evaluation may ask, whatever the answers: those of walks from its message's domains, none of which ends in a dot.
use Rattle.std.specs.Prelude.{Some, None, Option}
use mathlib.Core.Path.{◌≡◌, refl, sym, subst, ◌∙◌}
use mathlib.Core.List.{List, [], ◌∷◌, map}
use mathlib.Core.Bool.{Bool, true, false, ◌&&◌, ◌||◌, false≢true}
use Prim.Native.Nat.{ℕ, suc, ◌<◌}
use native.Mathlib.Omega.{arith}
use lib.ListN.{length, get_or}
use Rattle.octets.specs.Octets.{any, all, same}
use Rattle.octets.proofs.TextLaws.{same_true}
use Rattle.lookup.specs.Lookup.{Name, member, path, list}
use Rattle.lookup.proofs.NameLaws.{member_append, member_prepend, member_either, any_once}
use Rattle.lookup.proofs.BoundLaws.{AllIn, all_in_left, all_in_right, all_in_self, Within, within_bind, within_if, within_left, within_path}
use Rattle.domain.specs.Domain.{Domain, without_dot, is_domain, targets, asked_name}
use Rattle.domain.proofs.DotLaws.{asked_undotted}
use Rattle.policy.specs.declared.Settings.{Settings}
use Rattle.force.specs.InForce.{in_force}
use Rattle.txt.specs.declared.Reply.{Reply}
use Rattle.alignment.specs.Alignments.{Identifier, settled_alignment, must_walk, align, align_each, alignments}
use Rattle.verdict.specs.Message.{Message}
use Rattle.walk.specs.Walk.{organizational_domain}
use Rattle.walk.proofs.WalkBounds.{walk_names, within_organizational}
use Rattle.verdict.specs.Verdict.{Applied, not_known, no_record, own, other, applied_record, judge_by, judge, evaluate}
use Rattle.verdict.proofs.Bounds.{walks_names, within_applied, within_align_by}

-- ------------------------------------------------------------------ whatever the answers

-- the domains of a message
unfoldable pub message_domains : Message → List Domain
message_domains m = m.author ∷ map (λ i. i.domain) m.identifiers

within_align_each : (l : List Name) (s : Settings) (author : Domain) (o : Option Domain) (is : List Identifier) → AllIn l (walks_names (map (λ i. i.domain) is)) → Within l (align_each s author o is)
unfolding align_each align Within walks_names AllIn
within_align_each l s author o [] w = tt
within_align_each l s author o (i ∷ is) w =
    let ds = walks_names (map (λ i. i.domain) is) in
    within_bind l (align s author o i) _ (within_align_by l (settled_alignment s author i) o i.domain λ _ n e. w n (member_append n (walk_names i.domain) ds e))
    λ a. within_bind l (align_each s author o is) _ (within_align_each l s author o is λ n e. w n (member_prepend n (walk_names i.domain) ds e)) λ rest. tt

module _ (m : Message) where
  domains : List Domain
  domains = map (λ i. i.domain) m.identifiers

  l : List Name
  l = walks_names (message_domains m)

  author_in : AllIn l (walk_names m.author)
  unfolding l message_domains walks_names domains
  author_in = all_in_left (walk_names m.author) (walks_names domains) _ (all_in_self _)

  within_each : (s : Settings) (o : Option Domain) → Within l (align_each s m.author o m.identifiers)
  unfolding l message_domains walks_names domains
  within_each s o = within_align_each l s m.author o m.identifiers (all_in_right (walk_names m.author) (walks_names domains) _ (all_in_self _))

  within_judge_by : (b : Bool) (d : Domain) (f : Option Settings) → Within l (judge_by m b d f)
  unfolding judge_by alignments Within
  within_judge_by b d None = tt
  within_judge_by b d (Some s) =
      within_bind l (alignments s m.author m.identifiers) _
      (within_if l (any (must_walk s m.author) m.identifiers) _ _
      (within_bind l (organizational_domain m.author) _ (within_organizational l m.author author_in) (within_each s))
      (within_each s None))
      λ as'. tt

  within_judge : (a : Applied) → Within l (judge m a)
  unfolding judge Within
  within_judge not_known = tt
  within_judge no_record = tt
  within_judge (own f) = within_judge_by true f.domain (in_force f.settings)
  within_judge (other f) = within_judge_by false f.domain (in_force f.settings)

  within_evaluate : Within l (evaluate m)
  unfolding evaluate l message_domains walks_names domains
  within_evaluate = within_bind l (applied_record m.author) (judge m) (within_left (walk_names m.author) (walks_names domains) (applied_record m.author) (within_applied m.author)) within_judge

-- ------------------------------------------------------------------ what holds of each name

-- one of the names of some targets
of_targets : (P : Name → Type 0) (ts : List Domain) → ((k : ℕ) → k < length ts → P (asked_name (get_or ts k []))) → (n : Name) → member n (map asked_name ts) ≡ true → P n
unfolding member any
of_targets P [] f n e = absurd (false≢true e)
of_targets P (t ∷ ts) f n e = go (of_targets P ts (λ k h. f (suc k) (omega arith)) n) (same n (asked_name t)) refl e
  where
    go : (member n (map asked_name ts) ≡ true → P n) → (b : Bool) → same n (asked_name t) ≡ b → (b || member n (map asked_name ts)) ≡ true → P n
    go ih true g h = subst P (sym (same_true n (asked_name t) g)) (f 0 (omega arith))
    go ih false g h = ih h

-- no name of walks from domains that keep the rule ends in a dot
of_walks : (ds : List Domain) → all is_domain ds ≡ true → (n : Name) → member n (walks_names ds) ≡ true → without_dot n ≡ n
unfolding all walks_names member any walk_names
of_walks [] g n e = absurd (false≢true e)
of_walks (d ∷ ds) g n e = go (of_walks ds) (is_domain d) refl g (member n (walk_names d)) refl
  where
    go : (all is_domain ds ≡ true → (n : Name) → member n (walks_names ds) ≡ true → without_dot n ≡ n)
        → (a : Bool) → is_domain d ≡ a → (a && all is_domain ds) ≡ true → (b : Bool) → member n (walk_names d) ≡ b → without_dot n ≡ n
    go ih false h f b k = absurd (false≢true f)
    go ih true h f true k = of_targets (λ x. without_dot x ≡ x) (targets d) (asked_undotted d h) n k
    go ih true h f false k = ih f n (rw k at (rw (member_either n (walk_names d) (walks_names ds)) at e))

-- a name that an evaluation asks has no final dot, if its message's domains keep the rule
pub listed_undotted : (m : Message) → all is_domain (message_domains m) ≡ true → (α : Name → Reply) (n : Name) → member n (list α (evaluate m)) ≡ true → without_dot n ≡ n
unfolding l list AllIn member
listed_undotted m g α n e = of_walks (message_domains m) g n (within_path α (l m) (evaluate m) (within_evaluate m) n (sym (any_once (same n) (path α (evaluate m))) ∙ e))
