-- What stands at a port. This project's own.
use Rattle.std.specs.Prelude.{ℕ, List, codes, Option, Some, None, Result, if◌then◌else◌, ok_or}
use Rattle.std.specs.Str.{bytes_eq}
use Rattle.toml.specs.Data.{Members}
use Rattle.tl_ops.specs.declared.kind.Kind.TheVariants.{Ram, Rom, Regs, ClearRegs}
use Rattle.tl_text.specs.Reading.{◌>>=◌}
use Rattle.check_keys.specs.Value.{value_at, text_of}
use Rattle.check_keys.specs.declared.fault.Key.TheVariants.{Kind}
use Rattle.check_keys.specs.declared.fault.SystemFault.{SystemFault}
use Rattle.check_keys.specs.declared.fault.SystemFault.TheVariants.{OutOfRange}
use Rattle.check_description.specs.declared.kind.PortKind.{PortKind}
use Rattle.check_description.specs.declared.kind.PortKind.TheVariants.{Memory, Device}

-- the kind that a word names
abbrev pub port_kind_of : List ℕ → Option PortKind
port_kind_of word =
    if bytes_eq word (codes "ram") then Some (Memory Ram)
    else if bytes_eq word (codes "rom") then Some (Memory Rom)
    else if bytes_eq word (codes "regs") then Some (Memory Regs)
    else if bytes_eq word (codes "w1c") then Some (Memory ClearRegs)
    else if bytes_eq word (codes "device") then Some Device
    else None

-- what stands at a port by its table: the key has to be there, its value has to be a text, and the text one of the five
-- words.
unfoldable pub kind_at : Members → Result PortKind SystemFault
kind_at members = do
  value ← value_at Kind members
  word ← text_of Kind value
  ok_or (port_kind_of word) (OutOfRange Kind)
