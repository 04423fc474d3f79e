-- The latest request of each port that is whole. Lists of rows have the latest first; they are rows of links that are watched.
-- This project's own.
use Rattle.std.specs.Prelude.{ℕ, ◌==◌, Bool, false, if◌then◌else◌, List, [], ◌∷◌, find, Option, Some, None}
use Rattle.check_watch.specs.declared.beat.Beat.{Beat}
use Rattle.check_watch.specs.declared.beat.Beat.TheVariants.{A, D}
use Rattle.check_watch.specs.declared.seen.Ended.{Ended}
use Rattle.check_sides.specs.Plan.{Plan, bus_of}
use Rattle.check_rows.specs.Row.{SeenRow}
use Rattle.check_coverage.specs.Flights.{InFlight, end_of, ends_an_ask, flights_after, in_flight, is_counted, is_of, wide_at}

-- a beat that ends this is the last one of a request
abbrev pub is_last_ask : Beat → Ended → Bool
is_last_ask (A beat) end = ends_an_ask end
is_last_ask (D beat) end = false

-- the latest one of a port, after a request that was found
abbrev pub latest_of : Option InFlight → (ℕ → Option InFlight) → ℕ → Option InFlight
latest_of None before port = before port
latest_of (Some flight) before port = if flight.port == port then Some flight else before port

-- after a beat of a wide source, which ends a request or not, when these are in flight after it
abbrev pub latest_by : ℕ → Bool → List InFlight → (ℕ → Option InFlight) → ℕ → Option InFlight
latest_by wide is_asked after before port =
    if is_asked then latest_of (find (is_of wide) after) before port else before port

-- after some rows
abbrev pub latest_at : Plan → List SeenRow → ℕ → Option InFlight
latest_at plan [] port = None
latest_at plan (row ∷ before) port =
    if is_counted plan.layout.links row.sighting.link
    then latest_by (wide_at plan row.sighting) (is_last_ask row.sighting.beat (end_of plan before row))
    (flights_after plan (bus_of plan.layout row.sighting.link) (wide_at plan row.sighting) (in_flight plan before)
    row.sighting.beat (end_of plan before row)) (λ other. latest_at plan before other) port
    else latest_at plan before port
