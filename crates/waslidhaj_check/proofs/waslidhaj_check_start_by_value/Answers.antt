-- `waslidhaj_check::waslidhaj_check_start_by_value` meets its contract, by what its calls promise.
use Rattle.address_check.specs.code.View.{acceptance_back}
use Rattle.waslidhaj_check.proofs.waslidhaj_check_start_by_value.Goals as goal

pub returns : goal.returns
returns c =
    let changed = c.start-changed in
    record { back = acceptance_back changed.result.acceptance; tells = c.number_acceptance.ensures changed.result.check; does = changed.ensures }
