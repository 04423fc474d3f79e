-- A reset in the midst of requests: which bytes of a memory nobody knows after it, since requests that it cut short may have
-- taken effect, or not, or in part. It is this project's own.
use Rattle.std.specs.Prelude.{◌≡◌, ℕ, true, false, length, Option, None, slice_index_or}
use Rattle.tl_types.specs.Request.{Request}
use Rattle.check_memory.specs.Partial.{Partial}
use Rattle.check_memory.specs.declared.slave.Slave.{Slave}
use Rattle.check_memory.specs.declared.slave.Slave.TheVariants.{Memory, Device}
use Rattle.check_contests.specs.Writes.{may_write, unknown_where}

-- ---- one request that was cut short

-- a memory without the bytes that it may write
abbrev pub memory_cut : Partial → Request → Partial
memory_cut memory ask = record memory { cells = unknown_where (may_write memory ask) memory.cells }

-- the same of a slave; of a device nothing is kept.
abbrev pub slave_cut : Slave → Request → Slave
slave_cut (Memory memory) ask = Memory (memory_cut memory ask)
slave_cut Device ask = Device

-- ---- all that were cut short

-- the byte at an address, if it is known
abbrev pub byte_at : Partial → ℕ → Option ℕ
byte_at memory address = slice_index_or memory.cells address None

-- what a reset that keeps the bytes of a memory leaves of it, if it cuts these requests short: a byte that one of them may
-- write is unknown, each other one is what it was, and what was unknown still is
pub record IsLeftMemory (Cut : Request → Type 0) (memory left : Partial) : Type 0 where
  pub same : left ≡ record memory { cells = left.cells }
  pub counted : length left.cells ≡ length memory.cells
  pub lost : (ask : Request) (address : ℕ) → Cut ask → may_write memory ask address ≡ true → byte_at left address ≡ None
  pub fades : (address : ℕ) → byte_at memory address ≡ None → byte_at left address ≡ None
  pub stays : (address : ℕ) → ((ask : Request) → Cut ask → may_write memory ask address ≡ false)
      → byte_at left address ≡ byte_at memory address

-- the same of a slave; a device keeps nothing
abbrev pub IsLeftSlave : (Request → Type 0) → Slave → Slave → Type 0
IsLeftSlave Cut (Memory memory) left = (kept : Partial) × (left ≡ Memory kept) × IsLeftMemory Cut memory kept
IsLeftSlave Cut Device left = left ≡ Device
