-- A system's map is lawful, so that each request goes to one port.
use Rattle.tl_map.specs.Map.{IsLawfulAddressMap}
use Rattle.tl_serial.proofs.Exactness.{histories_same, traces_same}
use Rattle.tl_serial.proofs.laws.a_system_has_one_serial_run.Goals as goal

pub returns : goal.returns
returns c =
    let lawful : IsLawfulAddressMap c.args.system.now.ranges = rw c.map.ensures at c.ports-lawful.ensures.lawful in
    record { traces = traces_same c.args.system.now lawful; histories = histories_same c.args.system.now lawful }
