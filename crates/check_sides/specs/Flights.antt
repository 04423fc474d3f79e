-- What is in flight of each source at one port's link. It is this project's own.
use Rattle.std.specs.Prelude.{◌≡◌, ℕ, if◌then◌else◌, ◌==◌, List, Option, Some, unwrap_or, option_map}
use Rattle.tl_types.specs.Request.{Request}
use Rattle.std.specs.Map.{lookup}
use Rattle.std.specs.Ordering.{is_eq, nat_cmp}
use Rattle.check_flight.specs.Flight.{Flight, idle, IsEndedAsk}

-- what is kept of a source, if something is
abbrev pub flight_kept : List (ℕ × Flight) → ℕ → Option Flight
flight_kept kept source = lookup (λ key. is_eq (nat_cmp source key)) kept

-- nothing is in flight of a source of which nothing is kept
abbrev pub flight_of : List (ℕ × Flight) → ℕ → Flight
flight_of kept source = unwrap_or (flight_kept kept source) idle

-- this is kept of a source from then on, and of each other what was
abbrev pub IsFlightKept : List (ℕ × Flight) → List (ℕ × Flight) → ℕ → Option Flight → Type 0
IsFlightKept before after source now =
    (other : ℕ) → flight_kept after other ≡ (if source == other then now else flight_kept before other)

-- this is in flight of a source from then on
abbrev pub IsPut : List (ℕ × Flight) → List (ℕ × Flight) → ℕ → Flight → Type 0
IsPut before after source flight = IsFlightKept before after source (Some flight)

-- this is made of what is in flight of a source, if something is kept of it
abbrev pub IsChanged : List (ℕ × Flight) → List (ℕ × Flight) → ℕ → (Flight → Flight) → Type 0
IsChanged before after source f = IsFlightKept before after source (option_map f (flight_kept before source))

-- ---- requests that a reset cuts short

-- the request of a source has ended at the link of a port, and the reply that is under way is not its own
abbrev pub IsOpenFlight : ℕ → Option ℕ → ℕ → Flight → Request → Type 0
IsOpenFlight port answering source flight ask = IsEndedAsk port ask flight.turn × (answering ≡ Some source → ⊥)

-- the same of one of the sources
abbrev pub IsOpenOf : List (ℕ × Flight) → ℕ → Option ℕ → Request → Type 0
IsOpenOf kept port answering ask = (source : ℕ) × IsOpenFlight port answering source (flight_of kept source) ask
