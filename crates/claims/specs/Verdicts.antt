-- What is claimed of verdicts: the mission's demand 2.
use Rattle.std.specs.Prelude.{◌≡◌, true, ◌+◌, ◌*◌, ◌≤◌, length, Some}
use mathlib.Core.List.{map, flatten}
use Rattle.octets.specs.Octets.{octets, any}
use Rattle.lookup.specs.Lookup.{Name, value, list}
use Rattle.policy.specs.declared.Settings.{Settings}
use Rattle.txt.specs.declared.Reply.{Reply}
use Rattle.reporting.specs.Examples.{Examples}
use Rattle.book.specs.FieldExamples.{FieldsWritten}
use Rattle.walk.specs.Claims.{holds_error}
use Rattle.verdict.specs.Message.{Message}
use Rattle.verdict.specs.Verdict.{applied_record, evaluate}
use Rattle.verdict.specs.Claims.{applied_settings, aligns, is_pass, passed_or_temperror, walked_domains}
use Rattle.sheet.specs.Printed.{printed}
use Rattle.sheet.specs.Marked.{table}

pub record VerdictsHold : Type 0 where
  -- "Where the answers hold no error and a usable record applies, the result is pass exactly when some passing SPF or DKIM domain aligns
  -- with the author domain", and beside errors too
  pub pass_exactly : (α : Name → Reply) (m : Message) (s : Settings) → applied_settings (value α (applied_record m.author)) ≡ Some s
      → is_pass (value α (evaluate m)).result ≡ any (aligns α s m.author) m.identifiers
  -- "A lookup without an answer is never read as an empty one": with an error among the answers asked for, the result is pass or temperror
  pub error_shows : (α : Name → Reply) (m : Message) → holds_error α (list α (evaluate m)) ≡ true → passed_or_temperror (value α (evaluate m)).result ≡ true
  -- "at most eight for the author domain, and eight more for each distinct passing domain that 01 says must be walked"
  pub asked_at_most : (α : Name → Reply) (m : Message) → length (list α (evaluate m)) ≤ 8 + 8 * length (walked_domains α m)
  -- "The twelve marked sheets are proved of the definitions as a single table under one claim"
  pub marked_sheets : map (λ r. printed (flatten r.sheet)) table ≡ map (λ r. flatten (map octets r.text)) table
  -- "Report file name and Identity-Alignment field are exactly those of 01": computed
  pub file_names : Examples
  pub fields : FieldsWritten
