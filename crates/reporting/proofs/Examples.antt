-- The examples, computed.
use mathlib.Core.Path.{refl}
use Rattle.domain.proofs.Computing.{domain_computes}
use Rattle.reporting.specs.FileName.{alphanumeric, good_id, good_id_if_any, good_report, domains_part, times_part, end_part, file_name_text, report_name, file_name}
use Rattle.reporting.specs.Examples.{Examples}

pub examples : Examples
unfolding domain_computes alphanumeric good_id good_id_if_any good_report domains_part times_part end_part file_name_text report_name file_name
examples = record { example = refl; dotted = refl; lone = refl; two = refl }
