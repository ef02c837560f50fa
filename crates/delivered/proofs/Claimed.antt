-- All that is claimed holds: each claim by the theorem of its crate.
use Rattle.report_form.specs.code.ReportReading.{new_reader}
use Rattle.report_form.proofs.ReportClaimed.{report_claims, writes_claims, report_parts}
use Rattle.report_parts.proofs.PartsClaimed.{parts_claimed}
use Rattle.claims.proofs.Claimed.{rules_hold, verdicts_hold, calls_hold, requests_hold}
use Rattle.delivered.specs.Received.{TextsRead, CallsRead}
use Rattle.delivered.specs.Delivered.{Delivered}

texts_read : TextsRead
unfolding new_reader
texts_read = record {
  written_in_form = writes_claims.in_form;
  form_written = writes_claims.all_of_it;
  reads_written = writes_claims.reads_written;
  accepted_exactly = report_claims.accepted;
  handed_out = report_claims.handed_out;
  rows_before = report_parts.rows_before;
  first_octet = report_claims.place;
  numbered = report_claims.number;
  end_below = report_claims.end_below;
  ends_early = report_claims.early;
}

calls_read : CallsRead
calls_read = record {
  all_used = parts_claimed.all_used;
  rows_uncut = λ s row new cs called. (parts_claimed.as_uncut s row new cs called).rows_uncut;
  told_uncut = λ s row new cs called. (parts_claimed.as_uncut s row new cs called).told_uncut;
  end_uncut = λ s row new cs called. (parts_claimed.as_uncut s row new cs called).end_uncut;
  same_again = parts_claimed.same_again;
  same_at_the_end = parts_claimed.same_at_the_end;
  same_after_the_end = parts_claimed.same_after_the_end;
}

pub delivered : Delivered
delivered = record {
  rules = rules_hold;
  verdicts = verdicts_hold;
  calls = calls_hold;
  requests = requests_hold;
  received_texts = texts_read;
  received_parts = calls_read;
}
