-- What a reset of the whole system does to the memory of a port. This project's own.
use Rattle.std.specs.Prelude.{ℕ, Bool, true, false, List, codes, Option, Some, None, Result, Ok, unwrap_or, if◌then◌else◌, ok_or}
use Rattle.std.specs.Str.{bytes_eq}
use Rattle.toml.specs.Data.{Members}
use Rattle.tl_ops.specs.declared.kind.Kind.TheVariants.{Ram, Rom, Regs, ClearRegs, NoDevice}
use Rattle.tl_text.specs.Reading.{◌>>=◌, if_any}
use Rattle.check_keys.specs.Value.{text_if_any}
use Rattle.check_keys.specs.declared.fault.Key.TheVariants.{OnReset as OnResetKey}
use Rattle.check_keys.specs.declared.fault.SystemFault.{SystemFault}
use Rattle.check_keys.specs.declared.fault.SystemFault.TheVariants.{OutOfRange}
use Rattle.check_description.specs.declared.kind.PortKind.{PortKind}
use Rattle.check_description.specs.declared.kind.PortKind.TheVariants.{Memory, Device}
use Rattle.check_description.specs.declared.on_reset.OnReset.{OnReset}
use Rattle.check_description.specs.declared.on_reset.OnReset.TheVariants.{Never, Keep, Load}

-- what a word names: that a port keeps its bytes, or that it is loaded again with what it held at the beginning
abbrev pub on_reset_of : List ℕ → Option OnReset
on_reset_of word =
    if bytes_eq word (codes "keep") then Some Keep else if bytes_eq word (codes "load") then Some Load else None

-- what a port of this kind does that does not say it: registers are loaded, and all else keeps its bytes
abbrev pub usual_on_reset : PortKind → OnReset
usual_on_reset (Memory Ram) = Keep
usual_on_reset (Memory Rom) = Keep
usual_on_reset (Memory Regs) = Load
usual_on_reset (Memory ClearRegs) = Load
usual_on_reset (Memory NoDevice) = Keep
usual_on_reset Device = Keep

-- the word of a port, if it says one
unfoldable pub said_on_reset : Members → Result (Option OnReset) SystemFault
said_on_reset members =
    text_if_any OnResetKey members >>= if_any (λ word. ok_or (on_reset_of word) (OutOfRange OnResetKey))

-- a system that has no resets has none at any port
abbrev pub if_resets : Bool → OnReset → OnReset
if_resets true on_reset = on_reset
if_resets false on_reset = Never

-- what a reset does to a port of this kind, in a system that has resets or none. The word of the port is looked at in
-- either
unfoldable pub on_reset_at : Bool → PortKind → Members → Result OnReset SystemFault
on_reset_at resets kind members =
    said_on_reset members >>= (λ said. Ok (if_resets resets (unwrap_or said (usual_on_reset kind))))
