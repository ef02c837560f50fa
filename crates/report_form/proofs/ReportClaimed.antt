-- What is proved of reading an aggregate report.
use Rattle.report_form.specs.code.ReportReading.{reading_report as report}
use Rattle.report_form.specs.ReportClaims.{ReportClaims, WritesClaims, ReportParts}
use Rattle.parsing.proofs.ReadsClaimed.{parts}
use Rattle.report_form.proofs.WhichClaimed.{number}
use Rattle.report_form.proofs.Writes.{writes_form, reads_written}
use Rattle.report_form.proofs.FrontLaws.{end_below}
use Rattle.report_form.proofs.Handing.{handed_out}
use Rattle.report_form.proofs.Packing.{written}
use Rattle.report_form.proofs.FormClaimed.{reads_back, accepted, place, early}

pub report_claims : ReportClaims
report_claims = record { reads_back = reads_back; handed_out = handed_out; accepted = accepted; place = place; number = number; end_below = end_below; early = early }

pub writes_claims : WritesClaims
writes_claims = record { in_form = writes_form; all_of_it = written; reads_written = reads_written }

pub report_parts : ReportParts
report_parts = parts report
