-- `waslidhaj_check::waslidhaj_check_next_by_value` meets its contract, by what its calls promise.
use Rattle.address_check.specs.code.View.{step_back}
use Rattle.waslidhaj_check.proofs.waslidhaj_check_next_by_value.Goals as goal

pub returns : goal.returns
returns c =
    let stepped = c.next-stepped in
    record { back = step_back stepped.result.check stepped.result.step; tells = c.number_step.ensures stepped.result.check; does = stepped.ensures }
