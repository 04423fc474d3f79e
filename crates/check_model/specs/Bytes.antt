-- Bytes of a model that are looked at, or put, without a request. This project's own.
use Rattle.std.specs.Prelude.{◌≡◌, ℕ, ◌<◌, List, [], ◌∷◌, length, set, true, Option, None, Some, Result, Ok, Err, slice_get}
use Rattle.tl_map.specs.Map.{RoutesBytes}
use Rattle.check_memory.specs.Cells.{forgotten}
use Rattle.check_memory.specs.Known.{known, replaced}
use Rattle.check_memory.specs.Partial.{Partial, byte_seen, place_of_byte}
use Rattle.check_memory.specs.declared.slave.Slave.{Slave}
use Rattle.check_memory.specs.declared.slave.Slave.TheVariants as stands
use Rattle.check_model.specs.Model.{ModelState}
use Rattle.check_model.specs.declared.fault.ByteFault.{ByteFault}
use Rattle.check_model.specs.declared.fault.ByteFault.TheVariants.{Device}
use Rattle.check_model.specs.declared.port.ModelPort.{ModelPort}

-- the port of this number has a range that has the address, and this is kept of it
pub record IsPortOf (model : ModelState) (address number : ℕ) (port : ModelPort) : Type 0 where
  pub routed : RoutesBytes model.layout.ports address 0 number
  pub some : number < length model.layout.ports
  pub at : slice_get model.ports number ≡ Some port

-- no port has a range that has the address
abbrev pub IsNowhere : ModelState → ℕ → Type 0
IsNowhere model address = RoutesBytes model.layout.ports address 0 (length model.layout.ports)

-- ---- a byte that is looked at

-- what is seen of the byte at an address; a device keeps none
abbrev pub shown_at : Slave → ℕ → Result (Option ℕ) ByteFault
shown_at (stands.Memory memory) address = Ok (byte_seen memory address)
shown_at stands.Device address = Err Device

-- ---- a byte that is put

-- cells with this byte at a place, known or unknown
abbrev pub cells_with : List (Option ℕ) → ℕ → Option ℕ → List (Option ℕ)
cells_with cells place None = forgotten (true ∷ []) place cells
cells_with cells place (Some byte) = replaced cells place (known (byte ∷ []))

-- a memory with this byte at an address; nobody sees it if the byte there changes by itself
abbrev pub with_byte : Partial → ℕ → Option ℕ → Partial
with_byte memory address byte = record memory { cells = cells_with memory.cells (place_of_byte memory address) byte }

-- what stands there is a memory, and is the one with this byte afterwards
abbrev pub Puts : Slave → ℕ → Option ℕ → Slave → Type 0
Puts (stands.Memory memory) address byte new = new ≡ stands.Memory (with_byte memory address byte)
Puts stands.Device address byte new = ⊥

-- the port of an address has this byte afterwards, and nothing else changes
pub record IsPoked (old : ModelState) (address : ℕ) (byte : Option ℕ) (new : ModelState) : Type 0 where
  pub number : ℕ
  pub port : ModelPort
  pub slave : Slave
  pub is_of : IsPortOf old address number port
  pub puts : Puts port.slave address byte slave
  pub is : new ≡ record old { ports = set old.ports number (record port { slave = slave }) }
