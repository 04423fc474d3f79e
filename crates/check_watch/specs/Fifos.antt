-- At which links replies begin in the order of their requests. The standard lets replies to requests of different sources
-- come in any order; a queue before a slave, or a master that can't sort replies, needs them in order. This project's own.
use Rattle.std.specs.Prelude.{Bool, false, List, slice_index_or}
use Rattle.check_watch.specs.declared.beat.Link.{Link}
use Rattle.check_watch.specs.declared.beat.Link.TheVariants.{Master, Port}

-- a flag for each master's link, and one for each port's
pub record FifoFlags : Type 0 where
  pub masters : List Bool
  pub ports : List Bool

-- the flag of a link, which has none if it is not in its list
abbrev pub is_fifo_by : FifoFlags → Link → Bool
is_fifo_by flags (Master m) = slice_index_or flags.masters m false
is_fifo_by flags (Port p) = slice_index_or flags.ports p false
