-- What stands at a port: a memory, or a device, which keeps nothing and decides for itself. This project's own.
use Rattle.std.specs.Prelude.{ℕ, List, Bool, false}
use Rattle.tl_types.specs.Request.{Request}
use Rattle.check_memory.specs.declared.slave.Slave.{Slave}
use Rattle.check_memory.specs.declared.slave.Slave.TheVariants.{Memory, Device}
use Rattle.check_memory.specs.Partial.{after_partial, after_forgetting, takes_bytes}
use Rattle.check_memory.specs.Pattern.{Pattern, FitsCaptured, FitsDevice, pattern, device_pattern}

-- the slave after a request
abbrev pub slave_after : Slave → Request → Slave
slave_after (Memory memory) ask = Memory (after_partial memory ask)
slave_after Device ask = Device

-- the slave after a request, of which each byte that is flagged, from an address on, is then unknown; a device has none
-- to forget
abbrev pub slave_after_forgetting : Slave → Request → ℕ → List Bool → Slave
slave_after_forgetting (Memory memory) ask first flags = Memory (after_forgetting memory ask first flags)
slave_after_forgetting Device ask first flags = Device

-- whether it takes the bytes of a request: a device keeps none
abbrev pub slave_takes_bytes : Slave → Request → Bool
slave_takes_bytes (Memory memory) ask = takes_bytes memory ask
slave_takes_bytes Device ask = false

-- the answer that is expected of it
abbrev pub expected_of : Slave → Request → Pattern
expected_of (Memory memory) ask = pattern memory ask
expected_of Device ask = device_pattern ask

-- a captured reply is one that the slave may give
abbrev pub MayReply : Slave → Request → Pattern → Type 0
MayReply (Memory memory) ask captured = FitsCaptured (pattern memory ask) captured
MayReply Device ask captured = FitsDevice ask captured
