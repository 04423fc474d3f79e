-- Which requests are in flight after some rows, of those that are counted. Lists of rows have the latest first; they are rows of
-- links that are watched. This project's own.
use Rattle.std.specs.Prelude.{ℕ, ◌+◌, ◌-◌, ◌≤◌, ◌*◌, ◌/◌, ◌%◌, ◌^◌, ◌==◌, Bool, true, false, not, nat_lt, if◌then◌else◌, List, [], ◌∷◌, ◌++◌, length, map, filter, Option}
use Rattle.std.specs.List.{list_any, range_with_len}
use Rattle.tl_types.specs.declared.limits.TheConstants.{MAX_SIZE}
use Rattle.tl_map.specs.declared.owners.Owner.{Owner}
use Rattle.check_beats.specs.declared.beat.AskHead.{AskHead}
use Rattle.check_watch.specs.declared.beat.Beat.{Beat}
use Rattle.check_watch.specs.declared.beat.Beat.TheVariants.{A, D}
use Rattle.check_watch.specs.declared.beat.Link.{Link}
use Rattle.check_watch.specs.declared.beat.Link.TheVariants.{Master, Port}
use Rattle.check_watch.specs.declared.seen.Ended.{Ended}
use Rattle.check_watch.specs.declared.seen.Ended.TheVariants as ends
use Rattle.check_watch.specs.Plan.{Sighting, route_of, source_of, wide_of}
use Rattle.check_watch.specs.Scene.{ended_by}
use Rattle.check_watch.specs.declared.links.Links.{Links}
use Rattle.check_watch.specs.declared.links.Links.TheVariants.{Both, Masters, Ports, Each}
use Rattle.check_sides.specs.Lawful.{what_is_seen}
use Rattle.check_sides.specs.Plan.{Plan, bus_of}
use Rattle.check_rows.specs.Row.{SeenRow, beats_of}
use Rattle.check_coverage.specs.Ranges.{place_at}
use Rattle.check_coverage.specs.Shape.{given_in, marks_of}
use Rattle.check_coverage.specs.declared.ranges.RangePlace.{RangePlace}
use Rattle.check_coverage.specs.declared.flight.CountedFlight.{CountedFlight}

-- messages are counted at the masters' links if these are watched, else at the ports'
abbrev pub is_counted : Links → Link → Bool
is_counted Both (Master m) = true
is_counted Both (Port p) = false
is_counted Masters (Master m) = true
is_counted Masters (Port p) = false
is_counted Ports (Master m) = false
is_counted Ports (Port p) = true
is_counted Each (Master m) = true
is_counted Each (Port p) = false

-- ---- sources

-- the wide source of a beat
abbrev pub wide_at : Plan → Sighting → ℕ
wide_at plan x = wide_of plan x.link (source_of x.beat)

-- some source of the owner has this wide source
abbrev pub owns : Owner → ℕ → Bool
owns owner wide = list_any (λ source. owner.first + owner.stride * source == wide) (range_with_len 0 owner.count)

-- the master that has a wide source
abbrev pub master_of : List Owner → ℕ → ℕ
master_of [] wide = 0
master_of (owner ∷ owners) wide = if owns owner wide then 0 else master_of owners wide + 1

-- the master's own source that has a wide source: it stands so many strides after the owner's first one
abbrev pub own_source : List Owner → ℕ → ℕ
own_source [] wide = 0
own_source (owner ∷ owners) wide =
    if owns owner wide then (wide - owner.first) / owner.stride else own_source owners wide

-- ---- beats

-- the size of the beat's message is within the limit
abbrev pub HasSize : Beat → Type 0
HasSize (A beat) = beat.size ≤ MAX_SIZE
HasSize (D beat) = beat.size ≤ MAX_SIZE

-- what the beat of a row ends after the rows before it
abbrev pub end_of : Plan → List SeenRow → SeenRow → Ended
end_of plan before row = ended_by (what_is_seen plan (beats_of before) row.sighting)

-- a beat ends a request
abbrev pub ends_an_ask : Ended → Bool
ends_an_ask ends.Part = false
ends_an_ask ends.Ask = true
ends_an_ask ends.Reply = false

-- a beat ends a reply
abbrev pub ends_a_reply : Ended → Bool
ends_a_reply ends.Part = false
ends_a_reply ends.Ask = false
ends_a_reply ends.Reply = true

-- ---- requests in flight

-- a request in flight: its wide source, its master, the master's own source, its port, its first beat, whether decoders find
-- a port for it, where it stands in the ranges of its port, whether its beats so far give each of their bytes, and whether it
-- is whole
pub record InFlight : Type 0 where
  pub wide : ℕ
  pub master : ℕ
  pub source : ℕ
  pub port : ℕ
  pub first : AskHead
  pub is_found : Bool
  pub place : Option RangePlace
  pub given : List Bool
  pub is_whole : Bool

-- the request is of this wide source
abbrev pub is_of : ℕ → InFlight → Bool
is_of wide flight = flight.wide == wide

-- decoders find a port for a request
abbrev pub is_found : Plan → AskHead → Bool
is_found plan beat = nat_lt (plan.decode beat.address beat.size) (length plan.layout.ports)

-- the request that begins with a beat
abbrev pub begun : Plan → ℕ → AskHead → InFlight
begun plan wide beat = record {
  wide = wide;
  master = master_of plan.layout.owners wide;
  source = own_source plan.layout.owners wide;
  port = route_of plan (master_of plan.layout.owners wide) beat.address beat.size;
  first = beat;
  is_found = is_found plan beat;
  place = place_at plan (route_of plan (master_of plan.layout.owners wide) beat.address beat.size) beat;
  given = [];
  is_whole = false;
}

-- a beat of channel A begins a request if none of its source is in flight
abbrev pub with_begun : Plan → ℕ → AskHead → List InFlight → List InFlight
with_begun plan wide beat flights =
    if list_any (is_of wide) flights then flights else flights ++ begun plan wide beat ∷ []

-- a request with one beat more
abbrev pub grown : ℕ → AskHead → Bool → InFlight → InFlight
grown bus beat is_whole flight = record flight { given = flight.given ++ given_in bus beat; is_whole = is_whole }

-- it is one beat more of the request of its source
abbrev pub with_beat : ℕ → ℕ → AskHead → Bool → InFlight → InFlight
with_beat bus wide beat is_whole flight = if is_of wide flight then grown bus beat is_whole flight else flight

-- those in flight after one beat more, which ends this: a request is in flight from its first beat to the last beat of
-- its reply
abbrev pub flights_after : Plan → ℕ → ℕ → List InFlight → Beat → Ended → List InFlight
flights_after plan bus wide flights (A beat) end =
    map (with_beat bus wide beat (ends_an_ask end)) (with_begun plan wide beat flights)
flights_after plan bus wide flights (D beat) end =
    if ends_a_reply end then filter (λ flight. not (is_of wide flight)) flights else flights

-- the requests in flight after some rows, the one that began first in front
abbrev pub in_flight : Plan → List SeenRow → List InFlight
in_flight plan [] = []
in_flight plan (row ∷ before) =
    if is_counted plan.layout.links row.sighting.link
    then flights_after plan (bus_of plan.layout row.sighting.link) (wide_at plan row.sighting) (in_flight plan before)
    row.sighting.beat (end_of plan before row)
    else in_flight plan before

-- ---- how a request in flight is kept

-- the address is no multiple of the size
abbrev pub is_unaligned : AskHead → Bool
is_unaligned beat = not (beat.address % 2 ^ beat.size == 0)

-- what is kept of a request in flight
abbrev pub kept : InFlight → CountedFlight
kept flight = record {
  wide = flight.wide;
  master = flight.master;
  source = flight.source;
  port = flight.port;
  first = flight.first;
  span = 2 ^ flight.first.size;
  is_unaligned = is_unaligned flight.first;
  is_found = flight.is_found;
  place = flight.place;
  marks = marks_of flight.first.size flight.given;
  is_whole = flight.is_whole;
}
