-- All that is claimed holds: each claim by the theorem of its crate.
use mathlib.Core.Path.{refl, ap, ◌∙◌}
use mathlib.Core.List.{List, []}
use Rattle.lookup.specs.Lookup.{Lookups}
use Rattle.asking.specs.Asking.{Asking}
use Rattle.asking.specs.Claims.{AskingClaims, AskingClaimed}
use Rattle.asking.proofs.AskingLaws.{asking_claimed, no_verdict_yet}
use Rattle.domain.specs.Claims.{AskedNames}
use Rattle.domain.proofs.WalkLaws.{walk_targets}
use Rattle.domain.proofs.AskedLaws.{asked_names}
use Rattle.domain.proofs.DotLaws.{taken}
use Rattle.domain.proofs.Dotted.{final_dot}
use Rattle.policy.proofs.Repeated.{repeated}
use Rattle.publishing.proofs.Claimed.{publishing_claims}
use Rattle.publishing.proofs.NumbersBack.{numbers_claims}
use Rattle.publishing.proofs.RecordExamples.{records_written}
use Rattle.txt.proofs.Claimed.{reply_claims}
use Rattle.reporting.proofs.Examples.{examples}
use Rattle.book.proofs.FieldExamples.{fields_written}
use Rattle.field.specs.Numbers.{field_read_numbers}
use Rattle.field.proofs.Claimed.{field_claims}
use Rattle.field.proofs.ReadBack.{reads_back}
use Rattle.field.proofs.Said.{said_again}
use Rattle.field.proofs.Examples.{fields_read}
use Rattle.field_states.proofs.ExactLaws.{exactly}
use Rattle.field_states.proofs.PlaceLaws.{at_parenthesis}
use Rattle.walk.proofs.Claimed.{walk_claims}
use Rattle.verdict.specs.Claims.{PassExactly, ErrorShows, AskedAtMost}
use Rattle.verdict.specs.Mending.{ErrorsMended}
use Rattle.verdict.proofs.PassExactly.{pass_exactly}
use Rattle.verdict.proofs.ErrorShows.{error_shows}
use Rattle.verdict.proofs.Bounds.{asked_at_most}
use Rattle.verdict.proofs.Mended.{errors_mended}
use Rattle.verdict.proofs.StoredExamples.{stored_examples}
use Rattle.verdict.specs.Message.{Message}
use Rattle.book.specs.Start.{Opened, AsTheSingleStart}
use Rattle.book.specs.Book.{Call}
use Rattle.book.specs.BookClaims.{BookClaims, BookClaimed, SameState, NextCloses}
use Rattle.book.proofs.StartLaws.{as_the_single_start}
use Rattle.book.proofs.BookLaws.{next_closes, same_state, book_claimed, nothing_yet}
use Rattle.book.proofs.DotLaws.{same_start, one_name}
use Rattle.book.proofs.AddingCalls.{adding_calls}
use Rattle.records.proofs.Claimed.{sheet_claims}
use Rattle.sheet.specs.Marked.{MarkedSheets}
use Rattle.sheet.specs.Dotted.{DottedSheets}
use Rattle.sheet.proofs.Marked.{marked}
use Rattle.sheet.proofs.Dotted.{dotted_sheets}
use Rattle.rows.proofs.JudgedExactly.{judged_exactly}
use Rattle.rows.proofs.ServesNamed.{serves_named}
use Rattle.rows.specs.Rows.{on_list}
use Rattle.rows_day.specs.Day.{listing}
use Rattle.rows_day.proofs.Claimed.{day_claims}
use Rattle.report.specs.Report.{report}
use Rattle.report.proofs.Claimed.{of_the_list, of_counted_rows, longest}
use Rattle.report.proofs.Examples.{examples as report_examples}
use Rattle.address.proofs.NameLaws.{names_of_check}
use Rattle.address.proofs.CheckLaws.{check_claimed}
use Rattle.address.proofs.Marked.{marked_checks, marked_answers, marked_hosts}
use Rattle.address_place.proofs.Claimed.{answer_claims}
use Rattle.address_check.proofs.Claimed.{check_demand_3}
use Rattle.evaluation.specs.Promises.{changing, Changes, opened_view}
use Rattle.evaluation.specs.MendedRuns.{RunsMended}
use Rattle.evaluation.specs.StoredAfter.{RunsStore, SameMessage}
use Rattle.evaluation.proofs.Claimed.{demand_3}
use Rattle.evaluation.proofs.Mended.{runs_mended}
use Rattle.evaluation.proofs.Stored.{runs_store}
use Rattle.evaluation.proofs.Messages.{same_message}
use Rattle.evaluation_finding.specs.FoundAfter.{FindsTheBook}
use Rattle.evaluation_finding.proofs.FoundBook.{finds_the_book}
use Rattle.evaluation_numbers.specs.Numbers.{result_said, policy_said, disposition_said, accepted_numbers, ask_numbers, refused_numbers}
use Rattle.evaluation_numbers.proofs.Claimed.{by_numbers}
use Rattle.claims.specs.Rules.{RulesHold}
use Rattle.claims.specs.Verdicts.{VerdictsHold}
use Rattle.claims.specs.Runs.{RunHolds}
use Rattle.claims.specs.Addresses.{AddressesHold}
use Rattle.claims.specs.Calls.{Defers, BookHolds, CallsHold}
use Rattle.claims.specs.Reports.{ReportsHold}
use Rattle.claims.specs.Requests.{RowsHold, RecordsHold, DotsHold, ErrorsHold, FieldsHold, RequestsHold}

pub rules_hold : RulesHold
unfolding AskedNames
rules_hold = record {
  first_target = λ d. (walk_targets d).starts;
  target_count = λ d. (walk_targets d).number;
  labels_left = λ d. (walk_targets d).labels_left;
  marked_by_place = λ d. (walk_targets d).ends;
  names_keep_the_rule = asked_names;
  two_records = reply_claims.two_records;
  timeout = reply_claims.timeout;
  none = reply_claims.none;
  zero_bytes = reply_claims.zero_bytes;
  unknown_exactly = walk_claims.unknown_exactly;
  eight_names = walk_claims.at_most_eight;
  psd_at_start = walk_claims.psd_at_start;
  farthest = walk_claims.farthest;
  sheet_limit = sheet_claims.limit;
  answered_once = sheet_claims.twice;
}

pub verdicts_hold : VerdictsHold
unfolding PassExactly ErrorShows AskedAtMost MarkedSheets
verdicts_hold = record {
  pass_exactly = pass_exactly;
  error_shows = error_shows;
  asked_at_most = asked_at_most;
  marked_sheets = marked;
  file_names = examples;
  fields = fields_written;
}

run_holds : {R A : Type 0} (t : Lookups R A) (s : Asking R) → AskingClaims t s → RunHolds t s
run_holds t s c = record {
  each_once = c.each_once;
  names_at_verdict = c.at_verdict;
  same_verdict = c.that_verdict;
  count_is_length = c.counted;
  both_report = c.reported;
  first_of_those = c.until_then;
  comes_to_verdict = c.comes;
  not_after_last = c.not_after;
  not_before_last = c.answered;
  readable_is_kept = c.accepts;
  refused_answer_stands = c.refused_stands;
  lacking_is_asked = (no_verdict_yet t s).asks;
  lacking_has_no_result = (no_verdict_yet t s).no_result;
}

book_holds : (m : Message) (cs : List Call) → BookClaims m cs → BookHolds m cs
book_holds m cs c = record {
  asked_are_given = c.asked;
  count_bounded = c.bounded;
  refused_call_stands = c.refused_stands;
  sixteen_identifiers = c.up_to_16;
  adding_in_time = c.in_time;
  adding_too_late = c.too_late;
  identifiers_as_added = c.as_they_stand;
}

pub calls_hold : CallsHold
unfolding AskingClaimed BookClaimed NextCloses changing Changes opened_view SameMessage Defers result_said policy_said disposition_said accepted_numbers ask_numbers refused_numbers
calls_hold = record {
  any_run = λ R A t s r. run_holds t s (asking_claimed R A t s r);
  book_run = λ m o cs. run_holds _ _ (book_claimed m o cs).of_its_run;
  book = λ m o cs. book_holds m cs (book_claimed m o cs);
  next_hands_out = λ b. (next_closes b).0;
  next_closes = λ b. (next_closes b).1;
  asks = λ b. (nothing_yet b).asks;
  no_result = λ b. (nothing_yet b).no_result;
  no_field = λ b. (nothing_yet b).no_field;
  opening_accepted = λ author existence support before r c m e. (rw e at c).0;
  opening_refused = λ author existence support before r c f e. rw e at c;
  evaluation_stands = λ before after c g f d e. d.stands (ap changing e);
  as_the_book = demand_3.as_the_book;
  same_message = same_message;
  before_opening = demand_3.before_opening;
  by_numbers = by_numbers;
  accepted_defers = λ n. (refl, refl, refl);
  asked_defers = λ w p. (refl, refl, refl);
  refused_defers = λ f. (refl, refl, refl);
}

rows_hold : RowsHold
unfolding FindsTheBook
rows_hold = record {
  sum = λ first last before after h never ran is_cleared. ((day_claims first last before after h).tallies never ran is_cleared).sum;
  by_disposition = λ first last before after h never ran is_cleared. ((day_claims first last before after h).tallies never ran is_cleared).by_disposition;
  by_any = λ first last before after h never ran is_cleared. ((day_claims first last before after h).tallies never ran is_cleared).by_any;
  past_untouched = λ first last before after h ran. ((day_claims first last before after h).untouched ran).past;
  as_many_rows = λ first last before after h ran. ((day_claims first last before after h).untouched ran).as_many;
  day_end_counts = λ d list before r after does accepted. ((day_claims list list before before []).day_end d r after does accepted).counts;
  day_end_no_more = λ d list before r after does accepted. ((day_claims list list before before []).day_end d r after does accepted).no_more;
  judged_exactly = λ m α. (judged_exactly m α).judged;
  serves_named = λ d before after. (serves_named d before after).serves_it;
  finds_the_book = finds_the_book;
}

reports_hold : ReportsHold
unfolding listing
reports_hold = record {
  of_gathered_rows = λ list rows g e lists by s. ap (λ rs. report (listing list rs) lists by s) e ∙ (of_the_list (listing list rows) lists by s).same_report;
  each_row_counts = λ rows. (of_counted_rows rows).each_counts;
  in_list_order = λ rows. (of_counted_rows rows).in_order;
  counts_what_was_entered = λ first last before after h never ran is_cleared f.
      (of_counted_rows (on_list after)).nothing_lost f ∙ ((day_claims first last before after h).tallies never ran is_cleared).by_any f;
  longest_report = λ l lists by s. (longest l lists by s).at_most;
  reports_written = report_examples;
}

records_hold : RecordsHold
records_hold = record {
  reads_back = publishing_claims.reads_back;
  same_settings = publishing_claims.same_settings;
  no_octet = publishing_claims.no_octet;
  numbers_back = numbers_claims.back;
  records_written = records_written;
}

dots_hold : DotsHold
unfolding DottedSheets
dots_hold = record {
  one_dropped = λ d. (taken d).dropped;
  none_to_drop = λ d. (taken d).kept;
  author_dot = λ d. (same_start d).author;
  identifier_dot = λ d. (same_start d).identifier;
  no_dot_asked = λ m cs. (one_name m cs).no_dot;
  answer_dot = λ m cs. (one_name m cs).either;
  sheet_dot = sheet_claims.no_dot;
  dots_judged = final_dot;
  dotted_sheets = dotted_sheets;
}

errors_hold : ErrorsHold
unfolding ErrorsMended RunsMended
errors_hold = record {
  same = λ m α β h. (errors_mended m α β h).same;
  delayed = λ m α β h. (errors_mended m α β h).delayed;
  fails = λ m α β h. (errors_mended m α β h).fails;
  of_calls = runs_mended;
}

fields_hold : FieldsHold
unfolding field_read_numbers
fields_hold = record {
  accepted_exactly = exactly;
  refused_24 = λ text. (field_claims text).refused_24;
  depth_aside = λ text. (field_claims text).depth_aside;
  refused_25 = λ text p e. ((at_parenthesis text p e).0, (at_parenthesis text p e).1, ((field_claims text).refused_25 p e).0, ((field_claims text).refused_25 p e).1);
  refused_26 = λ text. (field_claims text).refused_26;
  no_other_number = λ text. (field_claims text).numbers;
  earliest = λ text. (field_claims text).nothing_before;
  field_reads_back = reads_back;
  field_numbers_say = said_again;
  refused_names_both = λ r. refl;
  fields_read = fields_read;
}

addresses_hold : AddressesHold
addresses_hold = record {
  names_of_checks = λ p h α. record {
    inside_exactly = (names_of_check p h α).exactly_inside;
    equal_domains_ask_nothing = (names_of_check p h α).nothing_asked;
    seventeen_names = (names_of_check p h α).at_most_17;
    confirming_last = (names_of_check p h α).last;
    confirming_exactly = (names_of_check p h α).asked_exactly;
    too_long_is_no = (names_of_check p h α).too_long;
    outcome_by_the_answer = (names_of_check p h α).by_the_answer;
    policy_domain_first = (names_of_check p h α).policy_first;
    not_known_exactly = (names_of_check p h α).not_known_exactly;
  };
  calls_of_checks = λ cs. record {
    names_of_the_check = (check_claimed.calls cs).asked;
    check_run = λ c e. run_holds _ _ ((check_claimed.calls cs).of_its_run c e);
    seventeen_asked = (check_claimed.calls cs).at_most_17;
    confirming_last_so_far = (check_claimed.calls cs).last;
    after_an_error = (check_claimed.calls cs).after_an_error;
    refused_check_call_stands = (check_claimed.calls cs).refused_stands;
  };
  first_host_decides = answer_claims.first_decides;
  record_confirms = answer_claims.record_or_no;
  in_the_scratch = answer_claims.in_the_scratch;
  checks_as_the_book = check_demand_3.after_a_start;
  before_a_start = check_demand_3.before_a_start;
  check_stands = check_demand_3.stands;
  not_known_else = check_demand_3.not_known_else;
  marked_checks = marked_checks;
  marked_answers = marked_answers;
  marked_hosts = marked_hosts;
}

pub requests_hold : RequestsHold
unfolding RunsStore AsTheSingleStart SameState
requests_hold = record {
  daily_rows = rows_hold;
  repeated_tags = repeated;
  written_records = records_hold;
  final_dots = dots_hold;
  errors = errors_hold;
  stored_afresh = runs_store;
  stored_examples = stored_examples;
  as_the_single_start = as_the_single_start;
  same_state = same_state;
  adding_calls = adding_calls;
  aggregate_reports = reports_hold;
  read_fields = fields_hold;
  outside_addresses = addresses_hold;
}
