-- The devices are those of the map's ranges.
use Rattle.tl_script.proofs.Banks.{devices_are_lawful}
use Rattle.tl_script.proofs.system.System.into_crossbar.Goals as goal

pub returns-clause-banks : goal.returns-clause-banks
returns-clause-banks c =
    devices_are_lawful c.self.inside.devices.items c.self.inside.map c.self.invariant.ranges c.self.invariant.lengths c.ports-lawful.ensures.lawful
