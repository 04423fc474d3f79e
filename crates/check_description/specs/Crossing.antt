-- How messages to a port are judged if both sides are watched. This project's own.
use Rattle.std.specs.Prelude.{ℕ, Bool, true, false, List, codes, Option, Some, None, Result, Ok, unwrap_or, if◌then◌else◌, ok_or}
use Rattle.std.specs.Str.{bytes_eq}
use Rattle.toml.specs.Data.{Members}
use Rattle.tl_text.specs.Reading.{◌>>=◌, if_any}
use Rattle.check_keys.specs.Value.{text_if_any}
use Rattle.check_keys.specs.declared.fault.Key.TheVariants.{Crossing}
use Rattle.check_keys.specs.declared.fault.SystemFault.{SystemFault}
use Rattle.check_keys.specs.declared.fault.SystemFault.TheVariants.{OutOfRange}
use Rattle.check_description.specs.declared.crossing.PortCrossing.{PortCrossing}
use Rattle.check_description.specs.declared.crossing.PortCrossing.TheVariants.{Same, Apart}

-- the port's link is judged by itself if both sides are watched
abbrev pub is_apart_by : PortCrossing → Bool
is_apart_by Same = false
is_apart_by Apart = true

-- what a word names: that messages cross as they are, or that nothing is said of both sides together
abbrev pub port_crossing_of : List ℕ → Option PortCrossing
port_crossing_of word =
    if bytes_eq word (codes "same") then Some Same else if bytes_eq word (codes "none") then Some Apart else None

-- the word of a port, if it says one
unfoldable pub said_crossing : Members → Result (Option PortCrossing) SystemFault
said_crossing members =
    text_if_any Crossing members >>= if_any (λ word. ok_or (port_crossing_of word) (OutOfRange Crossing))

-- how messages to a port cross; those to one that does not say it cross as they are
unfoldable pub port_crossing_at : Members → Result PortCrossing SystemFault
port_crossing_at members = said_crossing members >>= (λ said. Ok (unwrap_or said Same))
