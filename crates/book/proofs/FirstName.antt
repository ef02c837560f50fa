-- A message whose author domain keeps the rule has a name to ask before any answer.
use mathlib.Core.Path.{◌≡◌, refl, ap, ◌∙◌}
use mathlib.Core.List.{List, [], ◌∷◌}
use mathlib.Core.Bool.{Bool, true, false, ◌||◌, false≢true, or-true}
use Prim.Native.Nat.{ℕ, zero, suc, ◌-◌, ◌<◌}
use native.Mathlib.Omega.{arith}
use lib.ListN.{length, get_or}
use Rattle.std.specs.Prelude.{if◌then◌else◌, Option, None}
use Rattle.octets.specs.Octets.{any}
use Rattle.lookup.specs.Lookup.{Name, Lookups, done, ◌>>=◌, look_up, find, needs, run, run_over}
use Rattle.lookup.proofs.RunLaws.{run_bind, onward}
use Rattle.lookup.proofs.ReadingLaws.{run_reading}
use Rattle.domain.specs.Domain.{Domain, is_domain, targets, can_ask, asked_name}
use Rattle.domain.proofs.DomainLaws.{label_count_positive, target_count, last_target_asked}
use Rattle.domain.proofs.AskedLaws.{rule_no_fault}
use Rattle.txt.specs.declared.Reply.{Reply}
use Rattle.txt.specs.Answers.{reply}
use Rattle.asking.specs.Asking.{begun, standing}
use Rattle.walk.specs.Walk.{record_at, go_on, walk_over, walk, organizational_domain}
use Rattle.verdict.specs.Message.{Message}
use Rattle.verdict.specs.Verdict.{applied_by, applied_of_walk, applied_record, judge, evaluate, separate_walks}

any_at : {A : Type 0} (f : A → Bool) (z : A) (xs : List A) (i : ℕ) → i < length xs → f (get_or xs i z) ≡ true → any f xs ≡ true
unfolding any
any_at f z [] i h e = absurd (omega arith)
any_at f z (x ∷ xs) zero h e = ap (λ t. t || any f xs) e
any_at f z (x ∷ xs) (suc i) h e = ap (λ t. f x || t) (any_at f z xs i (omega arith) e) ∙ or-true (f x)

-- one of a walk's targets can be asked
some_target : (d : Domain) → is_domain d ≡ true → any can_ask (targets d) ≡ true
some_target d e = any_at can_ask [] (targets d) (length (targets d) - 1) (omega (arith, target_count d, label_count_positive d)) (last_target_asked d (rule_no_fault d e))

-- with no answers a program needs its first name
unfoldable no_answer : Name → Option Reply
no_answer n = None

NeedsOne : {A : Type 0} → Lookups Reply A → Type 0
NeedsOne t = (n : Name) × (run no_answer t ≡ needs n)

needs_bind : {A B : Type 0} (t : Lookups Reply A) (f : A → Lookups Reply B) → NeedsOne t → NeedsOne (t >>= f)
unfolding NeedsOne onward
needs_bind t f (n, e) = (n, run_bind no_answer t f ∙ ap (λ u. onward u (λ a. run no_answer (f a))) e)

needs_walk : (ts : List Domain) → any can_ask ts ≡ true → NeedsOne (walk_over ts)
unfolding walk_over record_at any NeedsOne go_on ◌>>=◌ run no_answer
needs_walk [] e = absurd (false≢true e)
needs_walk (d ∷ ds) e = go (needs_walk ds) (can_ask d) e
  where
    go : (any can_ask ds ≡ true → NeedsOne (walk_over ds)) → (b : Bool) → (b || any can_ask ds) ≡ true
        → NeedsOne ((if b then look_up (asked_name d) else done Reply.NoRecord) >>= λ r. go_on d r (walk_over ds))
    go ih true h = (asked_name d, refl)
    go ih false h = ih h

needs_applied : (d : Domain) → is_domain d ≡ true → NeedsOne (applied_record d)
unfolding applied_record record_at applied_by ◌>>=◌ run no_answer NeedsOne walk
needs_applied d e = go (can_ask d)
  where
    go : (b : Bool) → NeedsOne ((if b then look_up (asked_name d) else done Reply.NoRecord) >>= applied_by d)
    go true = (asked_name d, refl)
    go false = needs_bind (walk_over (targets d)) (λ fs. done (applied_of_walk d fs)) (needs_walk (targets d) (some_target d e))

pub first_name : (m : Message) → is_domain m.author ≡ true → (n : Name) × (standing (separate_walks m) begun ≡ needs n)
unfolding standing begun run_over separate_walks evaluate NeedsOne no_answer find
first_name m e = let (n, f) = needs_bind (applied_record m.author) (judge m) (needs_applied m.author e) in (n, run_reading reply (find []) (evaluate m) ∙ f)

-- so has the walk of a domain that keeps the rule
pub first_walked : (d : Domain) → is_domain d ≡ true → (n : Name) × (run_over [] (organizational_domain d) ≡ needs n)
unfolding run_over organizational_domain walk NeedsOne no_answer find
first_walked d e = needs_bind (walk_over (targets d)) _ (needs_walk (targets d) (some_target d e))
