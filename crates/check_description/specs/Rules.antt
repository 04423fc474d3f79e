-- What a system file says of the whole system. This project's own.
use Rattle.std.specs.Prelude.{Bool, true, false, List, ℕ, codes, Option, Some, None, Result, Ok, unwrap_or, if◌then◌else◌, ok_or}
use Rattle.std.specs.Str.{bytes_eq}
use Rattle.toml.specs.Data.{Members}
use Rattle.tl_text.specs.Reading.{◌>>=◌, if_any}
use Rattle.check_keys.specs.Value.{flag_at, last_integer, number_if_any, text_if_any}
use Rattle.check_keys.specs.declared.fault.Key.TheVariants.{Unaligned, Corrupt, Decode, Resets, Period}
use Rattle.check_keys.specs.declared.fault.SystemFault.{SystemFault}
use Rattle.check_keys.specs.declared.fault.SystemFault.TheVariants.{OutOfRange}
use Rattle.check_description.specs.declared.rules.SystemRules.{SystemRules}

-- whether decoders look at the address alone, by the word for what they look at
abbrev pub by_address_of : List ℕ → Option Bool
by_address_of word =
    if bytes_eq word (codes "bytes") then Some false else if bytes_eq word (codes "address") then Some true else None

-- the same by a table; if it says nothing, decoders look at all bytes
unfoldable pub by_address_in : Members → Result Bool SystemFault
by_address_in members =
    text_if_any Decode members >>= if_any (λ word. ok_or (by_address_of word) (OutOfRange Decode))
    >>= (λ by_address. Ok (unwrap_or by_address false))

-- what a document's table says: nothing beyond the standard, a clock for each unit of time, and no resets, unless it has the
-- keys
unfoldable pub rules_in : Members → Result SystemRules SystemFault
rules_in members = do
  unaligned ← flag_at Unaligned members
  corrupt ← flag_at Corrupt members
  by_address ← by_address_in members
  resets ← flag_at Resets members
  period ← number_if_any Period 1 last_integer members
  Ok (record {
    links = record { unaligned = unaligned; corrupt = corrupt; by_address = by_address; period = unwrap_or period 1 };
    resets = resets;
  })
