-- The buses of a system's links. This project's own.
use Rattle.std.specs.Prelude.{List, map}
use Rattle.check_beats.specs.declared.bus.Bus.{Bus}
use Rattle.check_description.specs.Master.{Master}
use Rattle.check_description.specs.Port.{Port}

-- the bus of each master's link, in order
abbrev pub master_buses : List Master → List Bus
master_buses masters = map (λ (master : Master). master.bus) masters

-- the bus of each port's link, in order
abbrev pub port_buses : List Port → List Bus
port_buses ports = map (λ (port : Port). port.bus) ports
