-- `report_check::is_file` meets its contract.
use Rattle.std.proofs.Common.{◌≡◌, ◌&&◌, leb, arith}
use Rattle.std.proofs.lemmas.Grind.{common_steps}
use Rattle.domain.specs.Domain.{is_domain}
use Rattle.reporting.specs.FileName.{alphanumeric, good_id}
use Rattle.report.specs.Report.{good_file}
use Rattle.report_check.proofs.is_file.Goals as goal

pub returns-then-is_made_of : goal.returns-then-is_made_of
unfolding good_file good_id alphanumeric
returns-then-is_made_of c =
    let a = c.args in
    let first : c.if-is_domain.value ≡ (is_domain a.domain.now && good_id a.id.now) = grind (arith, common_steps) in
    let all : good_file a.domain.now a.id.now a.begin a.end ≡ (c.if-is_domain.value && leb a.begin a.end) = rw first in
    rw (all, c.if-is_made_of.true)

pub returns-else-is_made_of : goal.returns-else-is_made_of
unfolding good_file good_id alphanumeric
returns-else-is_made_of c =
    let a = c.args in
    let first : c.if-is_domain.value ≡ (is_domain a.domain.now && good_id a.id.now) = grind (arith, common_steps) in
    let all : good_file a.domain.now a.id.now a.begin a.end ≡ (c.if-is_domain.value && leb a.begin a.end) = rw first in
    rw (all, c.if-is_made_of.false)
