-- Where the memory of a port has the bytes of a request, if it is seen at several places: `check_memory` says it. It is this
-- project's own.
use Rattle.std.specs.Prelude.{◌≡◌, ℕ, ◌^◌, List, [], slice_get, unwrap_or}
use Rattle.tl_map.specs.declared.range.Range.{Range}
use Rattle.check_beats.specs.declared.beat.AskHead.{AskHead}
use Rattle.check_memory.specs.Partial.{first_of, start_in}
use Rattle.check_memory.specs.declared.slave.Slave.{Slave}
use Rattle.check_memory.specs.declared.slave.Slave.TheVariants.{Memory, Device}
use Rattle.check_watch.specs.Past.{slave_at}
use Rattle.check_sides.specs.Plan.{Plan}

-- from where a memory is seen: its first range, and the other addresses from which that is seen too
pub record MirrorsView : Type 0 where
  pub range : Range
  pub others : List ℕ

-- no address but its own
abbrev pub no_mirrors : MirrorsView
no_mirrors = record { range = first_of []; others = [] }

-- from where a slave is seen; a device sees each address as it is sent
abbrev pub mirrors_of : Slave → MirrorsView
mirrors_of (Memory memory) = record { range = first_of memory.ranges; others = memory.mirrors }
mirrors_of Device = no_mirrors

-- the same of the slave of a port
abbrev pub mirrors_at : Plan → ℕ → MirrorsView
mirrors_at plan port = mirrors_of (slave_at plan.resets port).kept

-- the memory of each port is seen from the same places in both systems
abbrev pub HaveSameMirrors : Plan → Plan → Type 0
HaveSameMirrors plan later = (port : ℕ) → mirrors_at later port ≡ mirrors_at plan port

-- where the window of a request begins
abbrev pub place_of : MirrorsView → AskHead → ℕ
place_of mirrors beat = start_in mirrors.range mirrors.others beat.address (2 ^ beat.size)

-- ---- what is kept

-- that of a port in a list of those of the ports
abbrev pub mirrors_in : List MirrorsView → ℕ → MirrorsView
mirrors_in all port = unwrap_or (slice_get all port) no_mirrors

-- the list is that of the ports of the system
abbrev pub HasMirrors : Plan → List MirrorsView → Type 0
HasMirrors plan all = (port : ℕ) → mirrors_in all port ≡ mirrors_at plan port
