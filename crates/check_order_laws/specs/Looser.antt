-- Two systems that are the same, but that nobody knows of some slaves of one when they do their requests. It is this
-- project's own.
use Rattle.std.specs.Prelude.{◌≡◌, ◌⊎◌, ℕ, ◌<◌, List, length, All}
use Rattle.std.specs.List.{AllByRecursion}
use Rattle.tl_ops.specs.declared.kind.Kind.TheVariants.{ClearRegs}
use Rattle.check_memory.specs.Partial.{Partial, AreWithin}
use Rattle.check_memory.specs.declared.slave.Slave.{Slave}
use Rattle.check_memory.specs.declared.slave.Slave.TheVariants.{Memory, Device}
use Rattle.check_contests.specs.Moments.{AreBytes}
use Rattle.check_flight.specs.declared.order.Order.TheVariants.{Any}
use Rattle.check_flight.specs.PortSlave.{PortSlave}
use Rattle.check_watch.specs.Plan.{Plan, Sighting}
use Rattle.check_watch_laws.specs.Memories.{reset_of}

-- ---- systems

-- a slave is another one, or it is that one but that nobody knows when it does its requests
abbrev pub IsSameOrAny : PortSlave → PortSlave → Type 0
IsSameOrAny loose strict = (loose ≡ strict) ⊎ (loose ≡ record strict { order = Any })

-- a plan is another one, but for the orders of some slaves that nobody knows. With `accept` a request takes effect right
-- after its last beat, and with `reply` right before the first beat of its reply. Both are moments between the two, so
-- `any` allows them.
pub record IsLooser (loose strict : Plan) : Type 0 where
  pub same : loose ≡ record strict { resets = loose.resets }
  pub slaves : (port : ℕ) → IsSameOrAny (reset_of loose port) (reset_of strict port)

-- ---- what systems and captures have anyway

-- the ranges of a memory end where its cells do, or below; and if writing a one clears there, each byte that is known
-- is below 256
pub record IsSoundMemory (memory : Partial) : Type 0 where
  pub within : AreWithin memory.ranges (length memory.cells)
  pub bytes : memory.kind ≡ ClearRegs → AreBytes memory.cells

-- the same of a slave: a device is always sound.
abbrev pub IsSoundSlave : Slave → Type 0
IsSoundSlave (Memory memory) = IsSoundMemory memory
IsSoundSlave Device = Unit {0}

-- so it is of each slave at reset
abbrev pub AreSoundSlaves : Plan → Type 0
AreSoundSlaves plan = (port : ℕ) → IsSoundSlave (reset_of plan port).kept

-- each lane has a byte
abbrev pub HaveByteLanes : List Sighting → Type 0
HaveByteLanes past = AllByRecursion (λ (x : Sighting). All (λ (lane : ℕ). lane < 256) x.lanes) past
