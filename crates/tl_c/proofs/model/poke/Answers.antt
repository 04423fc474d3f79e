-- The number of the fault.
use Rattle.tl_c.proofs.Numbers.{device_told, not_device, not_nowhere, nowhere_told, number_other}
use Rattle.tl_c.proofs.model.poke.Goals as goal

pub returns-clause-nowhere : goal.returns-clause-nowhere
returns-clause-nowhere c =
    rw (← c.model.view_is) (not_nowhere c.poke.result c.in_default.field-0 c.in_default.is c.poke.ensures.nowhere)

pub returns-in-Err-clause-nowhere : goal.returns-in-Err-clause-nowhere
returns-in-Err-clause-nowhere c =
    rw (← c.model.view_is, c.byte_number.ensures)
    (nowhere_told c.poke.result c.in-Err.fault c.in-Err.is c.poke.ensures.nowhere)

pub returns-in-Err-clause-device : goal.returns-in-Err-clause-device
returns-in-Err-clause-device c = record {
  of = λ number port is.
      let own = rw (← c.model.view_is) at is in
      rw (c.byte_number.ensures)
      (device_told c.poke.result c.in-Err.fault c.in-Err.is (c.poke.ensures.device number port own));
}

pub returns-clause-device : goal.returns-clause-device
returns-clause-device c = record {
  of = λ number port is.
      let own = rw (← c.model.view_is) at is in
      not_device c.poke.result c.in_default.field-0 c.in_default.is (c.poke.ensures.device number port own);
}

pub returns-in-Err-clause-other : goal.returns-in-Err-clause-other
returns-in-Err-clause-other c = rw (c.byte_number.ensures) (number_other c.in-Err.fault)
