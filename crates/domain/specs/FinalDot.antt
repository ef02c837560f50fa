-- Texts with a final dot, and some without (document 02, Ask 5).
use Rattle.std.specs.Prelude.{◌≡◌, [], ◌∷◌, ◌++◌, ℕ, replicate, None, Some}
use Rattle.octets.specs.Octets.{octets}
use Rattle.domain.specs.Domain.{Domain, without_dot, domain_fault, join}

-- 192 octets and a last label of so many more
unfoldable pub long : ℕ → Domain
long n = join (replicate 63 97 ∷ replicate 63 97 ∷ replicate 63 97 ∷ replicate n 97 ∷ [])

pub record FinalDot : Type 0 where
  -- "Two resolvers hand us `example.com.` with the root dot"
  pub root : without_dot (octets "example.com.") ≡ octets "example.com"
  -- "A lone dot is still refused 1 .. at place 0"
  pub lone : domain_fault (without_dot (octets ".")) ≡ Some 0
  -- "two final dots still refused"
  pub two : domain_fault (without_dot (octets "a..")) ≡ Some 2
  pub two_alone : domain_fault (without_dot (octets "..")) ≡ Some 0
  -- "before anything else is judged": the dot is not one of the 253 octets
  pub longest : domain_fault (without_dot (long 61 ++ octets ".")) ≡ None
  pub too_long : domain_fault (without_dot (long 62)) ≡ Some 253
  pub too_long_with_dot : domain_fault (without_dot (long 62 ++ octets ".")) ≡ Some 253
