-- `waslidhaj_check::waslidhaj_check_result_by_value` meets its contract, by what its calls promise.
use Rattle.address_check.specs.code.View.{resulting_back}
use Rattle.waslidhaj_check.proofs.waslidhaj_check_result_by_value.Goals as goal

pub returns : goal.returns
returns c =
    let found = c.result in
    record { back = resulting_back found.result; tells = c.number_resulting.ensures _; does = found.ensures }
