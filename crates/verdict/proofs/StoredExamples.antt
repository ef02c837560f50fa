-- The examples, computed.
use mathlib.Core.Path.{refl}
use Rattle.domain.specs.Domain.{begin_of}
use Rattle.verdict.specs.Claims.{applied_settings}
use Rattle.verdict.specs.Stored.{ended_number, once_ended, settings_so_far, numbers_each, numbers_walked, numbers_stored}
use Rattle.verdict.specs.StoredExamples.{StoredExamples}
use Rattle.verdict.proofs.Computing.{verdict_computes}

pub stored_examples : StoredExamples
unfolding verdict_computes begin_of applied_settings ended_number once_ended settings_so_far numbers_each numbers_walked numbers_stored
stored_examples = record { not_begun = refl; still_open = refl; ended = refl; in_order = refl; failed = refl; author_failed = refl; completing_failed = refl }
