-- The marked tables, by computation.
use mathlib.Core.Path.{refl}
use mathlib.Core.List.{flatten}
use Rattle.address.specs.Marked.{walked, check_table, MarkedChecks, answer_table, MarkedAnswers, host_table, MarkedHosts}
use Rattle.address.proofs.Computing.{address_computes}

pub marked_checks : MarkedChecks
unfolding address_computes flatten walked check_table MarkedChecks
marked_checks = refl

pub marked_answers : MarkedAnswers
unfolding address_computes flatten answer_table MarkedAnswers
marked_answers = refl

pub marked_hosts : MarkedHosts
unfolding address_computes host_table MarkedHosts
marked_hosts = refl
