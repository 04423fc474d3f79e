-- The buses of the links of a system, those of the masters' links and those of the ports': a link exists if it has one.
-- This project's own.
use Rattle.std.specs.Prelude.{◌≡◌, ℕ, ◌<◌, Bool, true, false, List, length, Some, slice_get}
use Rattle.check_beats.specs.declared.bus.Bus.{Bus}
use Rattle.check_flight.specs.Side.{bus_at}
use Rattle.check_watch.specs.declared.beat.Link.{Link}
use Rattle.check_watch.specs.declared.beat.Link.TheVariants.{Master, Port}

-- the system has the link
abbrev pub IsLinkOf : List Bus → List Bus → Link → Type 0
IsLinkOf masters ports (Master number) = number < length masters
IsLinkOf masters ports (Port number) = number < length ports

-- the link has this bus
abbrev pub HasBus : List Bus → List Bus → Link → Bus → Type 0
HasBus masters ports (Master number) bus = slice_get masters number ≡ Some bus
HasBus masters ports (Port number) bus = slice_get ports number ≡ Some bus

-- how many bytes the bus of a link has
abbrev pub bus_of_link : List Bus → List Bus → Link → ℕ
bus_of_link masters ports (Master number) = bus_at masters number
bus_of_link masters ports (Port number) = bus_at ports number

-- a beat is of a link that the system has, with that link's bus; a reset of the whole system is of none, and a link that
-- each system has stands in its place
abbrev pub IsLinkOfRow : Bool → List Bus → List Bus → Link → Bus → Type 0
IsLinkOfRow true masters ports link bus = link ≡ Master 0
IsLinkOfRow false masters ports link bus = IsLinkOf masters ports link × HasBus masters ports link bus
