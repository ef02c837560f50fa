-- `policy_reports::has_valid_entry` meets its contract: std's parts of the list are its entries.
use Rattle.std.proofs.Common.{◌∙◌, ℕ, sym, rules, tests}
use Rattle.std.proofs.lemmas.Iterator.Search.{any_from_yields_List}
use Rattle.std.proofs.lemmas.Iterator.Splits.{YieldsList-from_slice_split}
use lib.Dec.{eqb}
use Rattle.octets.specs.Octets.{Octets, trim}
use Rattle.policy.specs.Reports.{valid_entry, has_valid_entry}
use Rattle.policy_reports.proofs.ReportLaws.{an_entry}
use Rattle.policy_reports.proofs.has_valid_entry.Goals as goal

pub returns : goal.returns
unfolding has_valid_entry
returns c =
    let s = c.args.list.now in
    let cut = c.split.ensures in
    any_from_yields_List (λ (e : Octets). valid_entry (trim e)) _ _ _ c.any.ensures.ran
    (YieldsList-from_slice_split _ (λ (b : ℕ). eqb b 44) s cut.rest cut.done cut.closure (λ x b q k. search (rules, tests)))
    (λ x b q k. search (rules, tests))
    ∙ sym (an_entry (λ e. valid_entry (trim e)) s)
