-- What is left of a program once some of its names are answered.
use Rattle.std.specs.Prelude.{◌≡◌, ◌++◌}
use Rattle.lookup.specs.Lookup.{Lookups, Answers, run_over}

-- over these answers and any more, the one program runs as the other
pub record Follows {R A : Type 0} (β : Answers R) (t u : Lookups R A) : Type 0 where
  pub runs : (γ : Answers R) → run_over (β ++ γ) t ≡ run_over (β ++ γ) u
