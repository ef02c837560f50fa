-- The first refusal that is due of a list that was cleared.
use Rattle.std.specs.Prelude.{List, Bool, not, if◌then◌else◌, Result, Ok, Err}
use Rattle.octets.specs.Octets.{all}
use Rattle.octets.specs.Refusing.{refusal}
use Rattle.octets.specs.declared.Refusal.{Refusal}
use Rattle.domain.specs.Domain.{Domain}
use Rattle.rows.specs.declared.Row.{Row}
use Rattle.rows.specs.Lists.{Lists}
use Rattle.report.specs.Report.{Reporter, good_texts, good_file}
use Rattle.report_judge.specs.declared.Test.{Test}
use Rattle.report_judge.specs.code.Judging.{passes_test}

unfoldable pub fault_by : (free named texts file lines : Bool) → Result (Unit {0}) Refusal
fault_by free named texts file lines =
    if free then Err (refusal 18 0)
    else if not named then Err (refusal 28 0)
    else if not texts then Err (refusal 19 0)
    else if not file then Err (refusal 11 0)
    else if not lines then Err (refusal 11 0)
    else Ok tt

unfoldable pub first_fault : Domain → Lists → List Row → Reporter → Result (Unit {0}) Refusal
first_fault d l rows by = fault_by
    (all (passes_test Test.Free l) rows)
    (all (passes_test Test.Named l) rows)
    (good_texts by.organization by.email by.contact)
    (good_file d by.id by.begin by.end)
    (all (passes_test Test.Ruled l) rows)
