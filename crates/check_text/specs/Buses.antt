-- What is known of the system whose capture is read: the buses of its links, the numbers of sources at ports' links, and whether a
-- capture may have rows of resets. This project's own.
use Rattle.std.specs.Prelude.{◌≡◌, ℕ, Bool, List, Option, Result, Ok, Err}
use Rattle.check_beats.specs.declared.bus.Bus.{Bus}
use Rattle.check_rows.specs.declared.buses.Buses as code_buses
use Rattle.check_rows.specs.PortNumbers.{PortNumbers, numbered_row, numbers_in}
use Rattle.check_rows.specs.Row.{SeenRow, row_of}
use Rattle.check_rows.specs.declared.fault.RowFault.{RowFault}
use Rattle.check_review.specs.View.{Layout}

-- the buses of the masters' links, and those of the ports'; whether there may be rows of resets; and by port the numbers of
-- sources at its link, if it has any of its own
pub record LinkBuses : Type 0 where
  pub masters : List Bus
  pub ports : List Bus
  pub resets : Bool
  pub numbers : List (Option PortNumbers)

-- what contracts see of them
abbrev pub link_buses : code_buses.Buses → LinkBuses
link_buses buses = record {
  masters = buses.masters.now;
  ports = buses.ports.now;
  resets = buses.resets;
  numbers = numbers_in buses.numbers.now;
}

-- a row that was read, as it is judged: a beat at a port's link has the system's source
abbrev pub as_judged : List (Option PortNumbers) → Result SeenRow RowFault → Result SeenRow RowFault
as_judged numbers (Ok row) = Ok (numbered_row numbers row)
as_judged numbers (Err fault) = Err fault

-- the row that the columns of a record on a line spell, as it is judged
abbrev pub row_on : LinkBuses → ℕ → List (List ℕ) → Result SeenRow RowFault
row_on buses line columns = as_judged buses.numbers (row_of buses.resets buses.masters buses.ports line columns)

-- a judge of beats judges links with these buses
pub record HasBuses (layout : Layout) (buses : LinkBuses) : Type 0 where
  pub masters : layout.master_buses ≡ buses.masters
  pub ports : layout.port_buses ≡ buses.ports
