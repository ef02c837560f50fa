-- `report_write::put_records` meets its contract.
use Rattle.std.proofs.Common.{◌-◌}
use Rattle.report_write.proofs.WritingLaws.{records_of}
use Rattle.rows_gather.specs.code.Gathered.{rows_of}
use Rattle.report_write.specs.code.Records.{AllBrief}
use Rattle.report_texts.proofs.Going.{Goes}
use Rattle.report_write.proofs.put_records.Given as goal

abbrev pub invariant-loop : goal.invariant-loop
invariant-loop l = record {
  going : Goes (records_of (record { authors = l.authors; sets = l.sets }) (rows_of l.count l.rows)) (records_of (record { authors = l.authors; sets = l.sets }) (rows_of (l.count - l.counter) l.t)) l.at l.initial.out l.end l.out;
  brief : AllBrief (rows_of (l.count - l.counter) l.t) → AllBrief (rows_of l.count l.rows);
}
