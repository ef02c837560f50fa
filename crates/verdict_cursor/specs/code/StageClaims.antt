-- What holds of a stage that is kept: each step leaves one, and the evaluation stands where its stage stands.
use Rattle.std.specs.Prelude.{◌≡◌, List, [], ◌∷◌, ◌++◌, true, false, Option, None, Some, option_map}
use Rattle.lookup.specs.Lookup.{Name, Answers, find, needs, has, run_over}
use Rattle.domain.specs.Domain.{Domain, can_ask, asked_name}
use Rattle.policy.specs.declared.Settings.{Settings}
use Rattle.txt.specs.declared.Reply.{Reply}
use Rattle.alignment.specs.declared.Alignment.{Alignment}
use Rattle.alignment.specs.Alignments.{Identifier, settled_alignment, compared}
use Rattle.walk_progress.specs.code.Summary.{Summary, summarized}
use Rattle.walk_progress.specs.code.Progress.{ended, KeptWalk}
use Rattle.verdict.specs.declared.AppliedPolicy.{AppliedPolicy}
use Rattle.verdict.specs.Message.{Message}
use Rattle.verdict.specs.Verdict.{Verdict, evaluate}
use Rattle.verdict_cursor.specs.code.Stage.{applied_in}
use Rattle.verdict_cursor.specs.code.Stage.{Stage, own_name, author_walk, completing, comparing, finished, concluded, KeptStage, applied_stage, own_stage}

-- the organizational domain of a walk that has ended
abbrev pub organization_of_ended : Option Summary → Option Domain
organization_of_ended s = option_map (λ o. o.organization) s

pub record StageClaims (β : Answers Reply) (m : Message) : Type 0 where
  pub begins : KeptStage β m own_name
  -- no later answer changes it
  pub stays : (γ : Answers Reply) {g : Stage} → KeptStage β m g → KeptStage (β ++ γ) m g
  -- a
  pub own_known : KeptStage β m own_name → can_ask m.author ≡ true → (r : Reply) → find β (asked_name m.author) ≡ Some r → KeptStage β m (own_stage m r)
  pub own_too_long : KeptStage β m own_name → can_ask m.author ≡ false → KeptStage β m (own_stage m Reply.NoRecord)
  pub applies : KeptStage β m author_walk → {s : Option Summary} → KeptWalk β m.author (ended s) → KeptStage β m (applied_stage m (applied_in s))
  -- c: the comparisons read what is stored
  pub completes : {d : Domain} {s : Settings} {p : AppliedPolicy} → KeptStage β m (completing d s p) → {w : Option Summary} → KeptWalk β m.author (ended w)
      → KeptStage β m (comparing d s p (organization_of_ended w) [] m.identifiers)
  pub settles : {d : Domain} {s : Settings} {p : AppliedPolicy} {o : Option Domain} {l : List Alignment} {i : Identifier} {is : List Identifier}
      → KeptStage β m (comparing d s p o l (i ∷ is)) → (a : Alignment) → settled_alignment s m.author i ≡ Some a → KeptStage β m (comparing d s p o (l ++ (a ∷ [])) is)
  pub unknown : {d : Domain} {s : Settings} {p : AppliedPolicy} {l : List Alignment} {i : Identifier} {is : List Identifier}
      → KeptStage β m (comparing d s p None l (i ∷ is)) → settled_alignment s m.author i ≡ None → KeptStage β m (comparing d s p None (l ++ (Alignment.Unknown ∷ [])) is)
  pub compares : {d : Domain} {s : Settings} {p : AppliedPolicy} {o : Domain} {l : List Alignment} {i : Identifier} {is : List Identifier}
      → KeptStage β m (comparing d s p (Some o) l (i ∷ is)) → settled_alignment s m.author i ≡ None → {w : Option Summary} → KeptWalk β i.domain (ended w)
      → KeptStage β m (comparing d s p (Some o) (l ++ (compared o (organization_of_ended w) ∷ [])) is)
  pub concludes : {d : Domain} {s : Settings} {p : AppliedPolicy} {o : Option Domain} {l : List Alignment}
      → KeptStage β m (comparing d s p o l []) → KeptStage β m (finished (concluded m d p l))
  -- the next step: the verdict, or the name that the one open walk needs
  pub gives : {v : Verdict} → KeptStage β m (finished v) → run_over β (evaluate m) ≡ has v
  pub asks_own : can_ask m.author ≡ true → find β (asked_name m.author) ≡ None → run_over β (evaluate m) ≡ needs (asked_name m.author)
  pub asks_applying : KeptStage β m author_walk → (n : Name) → run_over β (summarized m.author) ≡ needs n → run_over β (evaluate m) ≡ needs n
  pub asks_completing : {d : Domain} {s : Settings} {p : AppliedPolicy} → KeptStage β m (completing d s p)
      → (n : Name) → run_over β (summarized m.author) ≡ needs n → run_over β (evaluate m) ≡ needs n
  pub asks_comparing : {d : Domain} {s : Settings} {p : AppliedPolicy} {o : Domain} {l : List Alignment} {i : Identifier} {is : List Identifier}
      → KeptStage β m (comparing d s p (Some o) l (i ∷ is)) → settled_alignment s m.author i ≡ None
      → (n : Name) → run_over β (summarized i.domain) ≡ needs n → run_over β (evaluate m) ≡ needs n
