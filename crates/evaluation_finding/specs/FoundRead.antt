-- How what a finding answers is read.
use Rattle.std.specs.Prelude.{drop, Result, Ok, Err}
use Rattle.octets.specs.Refusing.{OrRefused, ok, not_ok}
use Rattle.octets.specs.declared.Refusal.{Refusal}
use Rattle.domain.specs.Domain.{Domain}
use Rattle.verdict.specs.Message.{Message}
use Rattle.rows.specs.declared.Finding.{Finding}
use Rattle.evaluation_finding.specs.declared.Found.{Found}

-- what is entered, and the domain of the applied record, by where it begins in the author domain
unfoldable pub found_in : Message → Result Found Refusal → OrRefused (Finding × Domain)
found_in m (Ok f) = ok (f.finding, drop f.begin.0 m.author)
found_in m (Err r) = not_ok r
