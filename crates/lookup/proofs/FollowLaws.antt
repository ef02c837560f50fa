-- Laws of what is left of a program once some of its names are answered.
use Rattle.std.specs.Prelude.{None, Some}
use mathlib.Core.Path.{◌≡◌, refl, ap₂, sym, ◌∙◌, subst, fun_ext}
use mathlib.Core.List.{[], ◌∷◌, ◌++◌, append_assoc, append-nil}
use Rattle.lookup.specs.Lookup.{Name, Lookups, ask, ◌>>=◌, Answers, find, needs, run_over}
use Rattle.lookup.specs.code.Following.{Follows}
use Rattle.lookup.proofs.RunLaws.{find_append, find_new, run_known, run_open, run_bind, onward}

module _ {R A : Type 0} {β : Answers R} where
  pub follows_self : (t : Lookups R A) → Follows β t t
  follows_self t = record { runs = λ γ. refl }

  -- by equal programs
  pub follows_same : {t u : Lookups R A} → t ≡ u → Follows β t u
  follows_same {t} e = subst (Follows β t) e (follows_self t)

  pub follows_on : {t u v : Lookups R A} → Follows β t u → Follows β u v → Follows β t v
  follows_on f g = record { runs = λ γ. f.runs γ ∙ g.runs γ }

  -- "after every later answer"
  pub follows_more : {t u : Lookups R A} → Follows β t u → (γ : Answers R) → Follows (β ++ γ) t u
  follows_more {t} {u} f γ = record { runs = λ δ. subst (λ x. run_over x t ≡ run_over x u) (sym (append_assoc β γ δ)) (f.runs (γ ++ δ)) }

  -- the standing of the one is that of the other
  pub follows_run : {t u : Lookups R A} → Follows β t u → run_over β t ≡ run_over β u
  follows_run {t} {u} f = subst (λ x. run_over x t ≡ run_over x u) (append-nil β) (f.runs [])

  -- past a name that has an answer
  pub follows_known : (n : Name) (k : R → Lookups R A) (r : R) → find β n ≡ Some r → Follows β (ask n k) (k r)
  unfolding run_over
  follows_known n k r e = record { runs = λ γ. run_known (find (β ++ γ)) n k r (find_append β γ n r e) }

  module _ {t : Lookups R A} {n : Name} {k : R → Lookups R A} (f : Follows β t (ask n k)) (e : find β n ≡ None) where
    -- where the next name of what is left has no answer, it is the one that the program needs
    pub follows_needs : run_over β t ≡ needs n
    unfolding run_over
    follows_needs = follows_run f ∙ run_open (find β) n k e

-- and with its answer, what is left is what follows it
pub follows_new : {R A : Type 0} {β : Answers R} {t : Lookups R A} {n : Name} {k : R → Lookups R A}
    → Follows β t (ask n k) → find β n ≡ None → (r : R) → Follows (β ++ ((n, r) ∷ [])) t (k r)
follows_new {β = β} {n = n} {k = k} f e r = follows_on (follows_more f ((n, r) ∷ [])) (follows_known n k r (find_new β n r e))

-- one program and then another
pub follows_bind : {R A B : Type 0} {β : Answers R} {t u : Lookups R A} {f g : A → Lookups R B} → Follows β t u → ((a : A) → Follows β (f a) (g a)) → Follows β (t >>= f) (u >>= g)
unfolding run_over
follows_bind {β = β} {t} {u} {f} {g} h k = record {
  runs = λ γ.
      run_bind (find (β ++ γ)) t f ∙ ap₂ onward (h.runs γ) (fun_ext λ a. (k a).runs γ) ∙ sym (run_bind (find (β ++ γ)) u g);
}
