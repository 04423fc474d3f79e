-- What a system says of its links. This project's own.
use Rattle.std.specs.Prelude.{List}
use Rattle.check_beats.specs.declared.bus.Bus.{Bus}
use Rattle.check_description.specs.Buses.{master_buses, port_buses}
use Rattle.check_description.specs.Description.{Description}
use Rattle.check_signals.specs.Names.{SignalNames, names_view}
use Rattle.check_waves.specs.declared.system.WaveLinks as code_links

-- the buses of the masters' links and of the ports', and the names of all signals
pub record WaveLinks : Type 0 where
  pub masters : List Bus
  pub ports : List Bus
  pub names : SignalNames

-- the links of a system whose signals have these names
abbrev pub wave_links_of : Description → SignalNames → WaveLinks
wave_links_of system names =
    record { masters = master_buses system.masters; ports = port_buses system.ports; names = names }

-- what contracts see
abbrev pub wave_links_view : code_links.WaveLinks → WaveLinks
wave_links_view links = record {
  masters = links.master_buses.items;
  ports = links.port_buses.items;
  names = names_view links.names;
}
