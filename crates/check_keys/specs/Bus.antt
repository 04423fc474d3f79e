-- The data bus of a link, as a file says how many bytes it has. This project's own.
use Rattle.std.specs.Prelude.{ℕ, ◌==◌, Option, None, Some, Result, Ok, if◌then◌else◌, ok_or}
use Rattle.toml.specs.Data.{Members}
use Rattle.check_beats.specs.declared.bus.Bus.{Bus}
use Rattle.check_beats.specs.declared.bus.Bus.TheVariants.{One, Two, Four, Eight, Sixteen, ThirtyTwo, SixtyFour}
use Rattle.check_beats.specs.declared.bus.TheConstants.{MAX_LANES}
use Rattle.tl_text.specs.Reading.{◌>>=◌}
use Rattle.check_keys.specs.Value.{number_if_any}
use Rattle.check_keys.specs.declared.fault.Key.TheVariants.{Bus as BusKey}
use Rattle.check_keys.specs.declared.fault.SystemFault.{SystemFault}
use Rattle.check_keys.specs.declared.fault.SystemFault.TheVariants.{OutOfRange}

-- the bus of so many bytes, if there is one
abbrev pub bus_of_bytes : ℕ → Option Bus
bus_of_bytes bytes =
    if bytes == 1 then Some One
    else if bytes == 2 then Some Two
    else if bytes == 4 then Some Four
    else if bytes == 8 then Some Eight
    else if bytes == 16 then Some Sixteen
    else if bytes == 32 then Some ThirtyTwo
    else if bytes == 64 then Some SixtyFour
    else None

-- the bus of what was read, or else the one that is handed in
abbrev pub bus_or : Bus → Option ℕ → Result Bus SystemFault
bus_or absent None = Ok absent
bus_or absent (Some bytes) = ok_or (bus_of_bytes bytes) (OutOfRange BusKey)

-- the bus that a table says, or else the one that is handed in
unfoldable pub bus_in_table : Bus → Members → Result Bus SystemFault
bus_in_table absent members = number_if_any BusKey 1 MAX_LANES members >>= bus_or absent
