-- The records, computed.
use mathlib.Core.Path.{refl}
use mathlib.Core.List.{flatten}
use Rattle.policy.proofs.Computing.{policy_computes}
use Rattle.force.proofs.Computing.{force_computes}
use Rattle.publishing.specs.Publishing.{setting_value, mode_value, psd_value, testing_value, tag_values, tag_text, record_octets, good_entries, good_rua, written_record}
use Rattle.publishing.specs.RecordExamples.{record_table, RecordsWritten}

pub records_written : RecordsWritten
unfolding flatten policy_computes force_computes setting_value mode_value psd_value testing_value tag_values tag_text record_octets good_entries good_rua written_record record_table RecordsWritten
records_written = refl
