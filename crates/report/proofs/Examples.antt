-- The examples, computed.
use mathlib.Core.Path.{refl}
use mathlib.Core.List.{flatten}
use Rattle.domain.proofs.Computing.{domain_computes}
use Rattle.octets.specs.Octets.{is_set as is_flag}
use Rattle.rows.specs.Lists.{first_body, body_at, reported, body_or_empty, set_most, set_in, with_good_domain, good_set, set_of, both_named, named_by}
use Rattle.rows.specs.Rows.{is_free, on_list}
use Rattle.book.specs.Start.{is_spf, too_many, identifier_from, identifiers_from}
use Rattle.force.specs.InForce.{is_set, is_absent, usable, as_none}
use Rattle.reporting.specs.FileName.{alphanumeric, good_id}
use Rattle.publishing.specs.Publishing.{setting_value}
use Rattle.report.specs.Xml.{element, optional_element, entity, with_entities, after_mark, parted, hex_octet, hex_digits, groups, is_mapped, address}
use Rattle.report.specs.Report.{date_range, metadata, published, published_mode, published_testing, policy_published, row_policy, reported_disposition, result_of_alignment, policy_evaluated, row_element, outcome_word, dkim_element, spf_element, auth_results, record_element, report_text, counted_rows, add_line, lines, good_text, good_texts, good_identifier, good_line, good_file, report}
use Rattle.report.specs.Subject.{subject_text, subject_of, subject}
use Rattle.report.specs.Examples.{list_record, an_identifier, two_lists, of_one, an_ipv4, an_ipv6, a_row, a_first_row, of_example, by_gate, with_policies, all_three, ReportExamples}

pub examples : ReportExamples
unfolding domain_computes is_flag flatten first_body body_at reported body_or_empty set_most set_in with_good_domain good_set set_of both_named named_by is_free on_list is_spf too_many identifier_from identifiers_from is_set is_absent usable as_none alphanumeric good_id setting_value element optional_element entity with_entities after_mark parted hex_octet hex_digits groups is_mapped address date_range metadata published published_mode published_testing policy_published row_policy reported_disposition result_of_alignment policy_evaluated row_element outcome_word dkim_element spf_element auth_results record_element report_text counted_rows add_line lines good_text good_texts good_identifier good_line good_file report subject_text subject_of subject list_record an_identifier two_lists of_one an_ipv4 an_ipv6 a_row a_first_row of_example by_gate with_policies all_three
examples = record {
  one_row = refl;
  not_usable = refl;
  two_rows = refl;
  never_cleared = refl;
  no_count = refl;
  past_authors = refl;
  past_sets = refl;
  no_organization = refl;
  begin_after_end = refl;
  forged_list = refl;
  bad_author = refl;
  bad_domain = refl;
  bad_selector = refl;
  kind_2 = refl;
  outcome_3 = refl;
  second_spf = refl;
  seventeen = refl;
  cut_off = refl;
  sixteen = refl;
  texts_judged = refl;
  a_subject = refl;
  no_id = refl;
}
