-- The ports of a script: the slave of each at reset. This project's own.
use Rattle.std.specs.Prelude.{ℕ, ◌-◌, ◌*◌, ◌^◌, nat_lt, List, [], ◌∷◌, ◌++◌, codes, length, replicate, Option, Some, None, option_map, option_and_then, Result, Ok, Err, if◌then◌else◌, ok_or}
use Rattle.std.specs.Str.{bytes_eq}
use Rattle.toml.specs.Data.{Data, Members, get_member}
use Rattle.tl_ops.specs.Store.{Store}
use Rattle.tl_ops.specs.declared.kind.Kind as kind_of_slave
use Rattle.tl_ops.specs.declared.kind.Kind.TheVariants.{Ram, Rom, Regs, ClearRegs}
use Rattle.tl_ops.specs.declared.bank.TheConstants.{MAX_LENGTH}
use Rattle.tl_text.specs.Number.{pair_of}
use Rattle.tl_script.specs.Key.{script_key_name}
use Rattle.tl_text.specs.Reading.{◌>>=◌, each}
use Rattle.tl_script.specs.Value.{script_value_at, script_number_at, script_text_of, script_tables_of}
use Rattle.tl_script.specs.declared.fault.ScriptKey.TheVariants.{Port, Kind, Base, Length, Reset}
use Rattle.tl_script.specs.declared.fault.ScriptFault.{ScriptFault}
use Rattle.tl_script.specs.declared.fault.ScriptFault.TheVariants.{OutOfRange}

-- the kind that a word names
abbrev pub script_kind_of : List ℕ → Option kind_of_slave.Kind
script_kind_of word =
    if bytes_eq word (codes "ram") then Some Ram
    else if bytes_eq word (codes "rom") then Some Rom
    else if bytes_eq word (codes "regs") then Some Regs
    else if bytes_eq word (codes "w1c") then Some ClearRegs
    else None

-- the kind that a port's table names: the key has to be there, its value has to be a text, and the text one of the four
-- words.
unfoldable pub kind_at : Members → Result kind_of_slave.Kind ScriptFault
kind_at members = do
  value ← script_value_at Kind members
  word ← script_text_of Kind value
  ok_or (script_kind_of word) (OutOfRange Kind)

-- the bytes that pairs of hexadecimal digits spell
abbrev pub pairs_of : List ℕ → Option (List ℕ)
pairs_of [] = Some []
pairs_of (high ∷ []) = None
pairs_of (high ∷ low ∷ more) =
    option_and_then (λ byte. option_map (λ bytes. byte ∷ bytes) (pairs_of more)) (pair_of high low)

-- the bytes of a reset: those that its pairs spell, at most `count`, and zero bytes after them up to `count`. Digits may
-- be in either case.
unfoldable pub filled : ℕ → List ℕ → Result (List ℕ) ScriptFault
filled count text =
    if nat_lt (2 * count) (length text) then Err (OutOfRange Reset)
    else ok_or (pairs_of text) (OutOfRange Reset) >>= (λ bytes. Ok (bytes ++ replicate (count - length bytes) 0))

-- the text of a reset, which is empty if there is none
abbrev pub reset_text : Option Data → Result (List ℕ) ScriptFault
reset_text None = Ok []
reset_text (Some value) = script_text_of Reset value

-- the bytes of a slave of this many bytes
unfoldable pub reset_at : ℕ → Members → Result (List ℕ) ScriptFault
reset_at count members = reset_text (get_member (script_key_name Reset) members) >>= filled count

-- the last address that a range may start at: the largest integer of a document
abbrev pub last_base : ℕ
last_base = 2 ^ 63 - 1

-- the slave of a port. Its kind is read first, then its base, from 0 to 2^63 - 1, its length, from 0 to 65,536, and its
-- reset.
unfoldable pub port_of : Members → Result Store ScriptFault
port_of members = do
  kind ← kind_at members
  base ← script_number_at Base 0 last_base members
  count ← script_number_at Length 0 MAX_LENGTH members
  bytes ← reset_at count members
  Ok (record { kind = kind; base = base; bytes = bytes })

-- the tables of the ports, of which there may be none
abbrev pub script_port_tables : Option Data → Result (List Members) ScriptFault
script_port_tables None = Ok []
script_port_tables (Some value) = script_tables_of Port value

-- the slave of each port
unfoldable pub script_ports : Members → Result (List Store) ScriptFault
script_ports members = script_port_tables (get_member (script_key_name Port) members) >>= each port_of
