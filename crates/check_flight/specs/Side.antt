-- What is kept of one side of a crossbar, and what beats make of that. It is this project's own.
use Rattle.std.specs.Prelude.{ℕ, List, Option, Some, None, map, slice_get, slice_set, unwrap_or, option_map}
use Rattle.check_beats.specs.Bus.{bus_bytes}
use Rattle.check_beats.specs.State.{Under, nothing_under, ask_after, reply_after}
use Rattle.check_beats.specs.declared.beat.AskHead.{AskHead}
use Rattle.check_beats.specs.declared.beat.ReplyHead.{ReplyHead}
use Rattle.check_beats.specs.declared.bus.Bus.{Bus}
use Rattle.check_flight.specs.declared.answer.Answer.{Answer}
use Rattle.check_flight.specs.Flight.{Flight, idle, flight_due}

-- one side: the messages under way at each of its links, and what is in flight of each wide source
pub record SideView : Type 0 where
  pub links : List Under
  pub flights : List Flight

-- ---- what stands at a place, and something for places that are not there

-- how many bytes the bus of a link has
abbrev pub bus_at : List Bus → ℕ → ℕ
bus_at buses number = unwrap_or (option_map bus_bytes (slice_get buses number)) 1

-- the messages under way at the link of this number; nothing on a bus of 1 byte if there is no such link.
abbrev pub under_at : List Under → ℕ → Under
under_at links number = unwrap_or (slice_get links number) (nothing_under 1)

-- what is in flight of a wide source; nothing if the list does not reach as far as the source.
abbrev pub flight_at : List Flight → ℕ → Flight
flight_at flights wide = unwrap_or (slice_get flights wide) idle

-- ---- what is under way at a link

-- after one beat more of channel A
abbrev pub ask_crossed : Under → AskHead → List ℕ → Under
ask_crossed under beat lanes = record under { asking = ask_after under.bus under.asking beat lanes }

-- after the last beat of a request
abbrev pub ask_ended : Under → Under
ask_ended under = record under { asking = None }

-- after one beat more of channel D
abbrev pub reply_crossed : Under → ReplyHead → ℕ → List ℕ → Under
reply_crossed under beat known lanes =
    record under { replying = reply_after under.bus under.replying beat known lanes }

-- after the last beat of a reply
abbrev pub reply_ended : Under → Under
reply_ended under = record under { replying = None }

-- ---- steps

-- this is under way at a link from then on, and nothing else changes
abbrev pub side_under : SideView → ℕ → Under → SideView
side_under side number under = record side { links = slice_set side.links number under }

-- this is under way at a link, and this is in flight of a wide source, from then on
abbrev pub side_with : SideView → ℕ → Under → ℕ → Flight → SideView
side_with side number under wide flight = record {
  links = slice_set side.links number under;
  flights = slice_set side.flights wide flight;
}

-- what is in flight of a wide source, with what its reply has to fit
abbrev pub flights_due : List Flight → ℕ → Option Answer → List Flight
flights_due flights wide None = flights
flights_due flights wide (Some answer) = slice_set flights wide (flight_due (flight_at flights wide) (Some answer))

-- this is what the reply to a wide source has to fit, from then on, if it is known; nothing else changes.
abbrev pub side_due : SideView → ℕ → Option Answer → SideView
side_due side wide answer = record side { flights = flights_due side.flights wide answer }

-- nothing is under way at the links, and nothing is in flight
abbrev pub side_reset : SideView → SideView
side_reset side = record {
  links = map (λ (under : Under). nothing_under under.bus) side.links;
  flights = map (λ (flight : Flight). idle) side.flights;
}
