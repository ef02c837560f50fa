-- What an error can do to a verdict (document 02, Ask 6).
use Rattle.std.specs.Prelude.{◌≡◌, Bool, true, false}
use Rattle.lookup.specs.Lookup.{Name, value}
use Rattle.txt.specs.Answers.{Answer, records, no_records, lookup_error}
use Rattle.verdict.specs.declared.Result.{Result}
use Rattle.verdict.specs.Message.{Message}
use Rattle.verdict.specs.Verdict.{Verdict, separate_walks}

-- ------------------------------------------------------------------ "one message and two sets of answers"

unfoldable pub is_lookup_error : Answer → Bool
is_lookup_error (records bytes) = false
is_lookup_error no_records = false
is_lookup_error lookup_error = true

-- "each with one for every name its walks ask, the second being the first with any real answers for some or all errors": where the first has
-- no error, the second has the same answer
unfoldable pub Mends : (first second : Name → Answer) → Type 0
Mends α β = (n : Name) → is_lookup_error (α n) ≡ false → β n ≡ α n

-- ------------------------------------------------------------------ the first verdict and the second

-- "none, pass, fail or permerror"
unfoldable pub is_settled : Result → Bool
is_settled Result.None = true
is_settled Result.Pass = true
is_settled Result.Fail = true
is_settled Result.Temperror = false
is_settled Result.Permerror = true

-- "the same result, policy and disposition", and of the same applied record. The alignments of single identifiers, the names asked and their
-- number may differ
pub record SameVerdict (v w : Verdict) : Type 0 where
  pub result : w.result ≡ v.result
  pub policy : w.policy ≡ v.policy
  pub disposition : w.disposition ≡ v.disposition
  pub domain : w.domain ≡ v.domain

-- an error makes a verdict wait, or it changes nothing
pub data Delayed (v w : Verdict) : Type 0 where
  waits : v.result ≡ Result.Temperror → Delayed v w
  stays : SameVerdict v w → Delayed v w

unfoldable pub failed_or_temperror : Result → Bool
failed_or_temperror Result.None = false
failed_or_temperror Result.Pass = false
failed_or_temperror Result.Fail = true
failed_or_temperror Result.Temperror = true
failed_or_temperror Result.Permerror = false

-- of the verdict v over the first set and w over the second
pub record ErrorClaims (v w : Verdict) : Type 0 where
  -- "If the first set gives none, pass, fail or permerror, the second gives the same result, policy and disposition"
  pub same : is_settled v.result ≡ true → SameVerdict v w
  -- so only temperror changes
  pub delayed : Delayed v w
  -- and a message that fails over the real answers never passes, nor gets none or permerror, because a lookup failed
  pub fails : w.result ≡ Result.Fail → failed_or_temperror v.result ≡ true

-- "The platforms want it shown: take one message and two sets of answers": for every message and two such sets
unfoldable pub ErrorsMended : Type 0
ErrorsMended = (m : Message) (α β : Name → Answer) → Mends α β → ErrorClaims (value α (separate_walks m)) (value β (separate_walks m))
