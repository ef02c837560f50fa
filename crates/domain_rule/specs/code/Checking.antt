-- The domain rule as an answer.
use Rattle.std.specs.Prelude.{Result, Ok, Err, None, Some}
use Rattle.domain.specs.Domain.{Domain, domain_fault, label_count}
use Rattle.domain.specs.declared.Labels.{Labels}
use Rattle.domain.specs.declared.Octet.{Octet}

-- the labels of a domain that keeps the rule, else refusal 1's place
unfoldable pub checked : Domain → Result Labels Octet
checked d = elim (domain_fault d) [ Some at ↦ Err (record { 0 = at }) | None ↦ Ok (record { 0 = label_count d }) ]
