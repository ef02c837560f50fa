-- Where an evaluation stands between answers: what is done is not done again, and the next step looks at one walk alone.
use Rattle.std.specs.Prelude.{List, [], ◌++◌, Bool, true, false, if◌then◌else◌, Some, None, Option}
use Rattle.octets.specs.Octets.{any}
use Rattle.lookup.specs.Lookup.{◌>>=◌, Lookups, done, Answers}
use Rattle.lookup.specs.code.Following.{Follows}
use Rattle.domain.specs.Domain.{Domain}
use Rattle.policy.specs.declared.Policy.{Policy}
use Rattle.policy.specs.declared.Settings.{Settings}
use Rattle.force.specs.InForce.{in_force}
use Rattle.txt.specs.declared.Reply.{Reply}
use Rattle.alignment.specs.declared.Alignment.{Alignment}
use Rattle.alignment.specs.Alignments.{Identifier, must_walk, align_each}
use Rattle.walk.specs.Walk.{Found, found, organizational_domain}
use Rattle.walk_progress.specs.code.Summary.{Summary}
use Rattle.verdict.specs.declared.Result.{Result}
use Rattle.verdict.specs.declared.AppliedPolicy.{AppliedPolicy}
use Rattle.verdict.specs.Message.{Message}
use Rattle.verdict.specs.Verdict.{Applied, own, other, not_known, no_record, applied_by, result_of, policy_of, result_with, Verdict, verdict_of, unjudged, judge, evaluate}

pub data Stage : Type 0 where
  -- a: at the author's own name, and on the author's walk where that has no record
  own_name author_walk : Stage
  -- c: with the applied record's domain, settings and policy known, the author's walk is completed; then, with the author's organizational
  -- domain, each identifier is compared, after those whose alignments are known
  completing : (domain : Domain) → Settings → AppliedPolicy → Stage
  comparing : (domain : Domain) → Settings → AppliedPolicy → (organization : Option Domain) → (so_far : List Alignment) → (rest : List Identifier) → Stage
  finished : Verdict → Stage

-- d to f, from the alignments
unfoldable pub concluded : Message → Domain → AppliedPolicy → List Alignment → Verdict
concluded m d p l = verdict_of m d (result_with p (result_of m.identifiers l)) p l

-- what is left of the evaluation
unfoldable pub left : Message → Stage → Lookups Reply Verdict
left m own_name = evaluate m
left m author_walk = do
  a ← applied_by m.author Reply.NoRecord
  judge m a
left m (completing d s p) = do
  o ← organizational_domain m.author
  l ← align_each s m.author o m.identifiers
  done (concluded m d p l)
left m (comparing d s p o so_far rest) = do
  l ← align_each s m.author o rest
  done (concluded m d p (so_far ++ l))
left m (finished v) = done v

-- over the answers taken, and any more, the evaluation runs as what is left of it
pub record KeptStage (β : Answers Reply) (m : Message) (g : Stage) : Type 0 where
  pub follows : Follows β (evaluate m) (left m g)

-- ------------------------------------------------------------------ a, by a walk's summary

unfoldable pub other_in : Option Found → Applied
other_in None = no_record
other_in (Some f) = other f

unfoldable pub applied_in : Option Summary → Applied
applied_in None = not_known
applied_in (Some s) = other_in s.applicable

-- ------------------------------------------------------------------ from stage to stage

-- "If any must be compared this way, the author's walk is first completed"
unfoldable pub in_force_stage : Message → (is_own : Bool) → Domain → Option Settings → Stage
in_force_stage m is_own d None = finished (unjudged m d Result.Permerror (AppliedPolicy.Known Policy.None))
in_force_stage m is_own d (Some s) =
    if any (must_walk s m.author) m.identifiers
    then completing d s (policy_of is_own m.existence s)
    else comparing d s (policy_of is_own m.existence s) None [] m.identifiers

-- with the applied record
unfoldable pub applied_stage : Message → Applied → Stage
applied_stage m not_known = finished (unjudged m [] Result.Temperror AppliedPolicy.Unknown)
applied_stage m no_record = finished (unjudged m [] Result.None (AppliedPolicy.Known Policy.None))
applied_stage m (own f) = in_force_stage m true f.domain (in_force f.settings)
applied_stage m (other f) = in_force_stage m false f.domain (in_force f.settings)

-- with the reply at the author's own name: "pausing if its own name has a record"
unfoldable pub own_stage : Message → Reply → Stage
own_stage m Reply.Error = applied_stage m not_known
own_stage m (Reply.Record s) = applied_stage m (own (found m.author s))
own_stage m Reply.NoRecord = author_walk
