-- Which requests a port has accepted and not answered, and when none of them is contested: no two of them have a byte
-- in common that one of them may write. It is this project's own.
use Rattle.std.specs.Prelude.{◌≡◌, ◌≢◌, ℕ, List, ◌∷◌, ◌++◌}
use Rattle.std.specs.List.{AllByRecursion}
use Rattle.check_cells.specs.Sent.{Sent}
use Rattle.check_contests.specs.Laws.{AreUncontested}
use Rattle.check_memory.specs.declared.slave.Slave.{Slave}
use Rattle.check_memory.specs.declared.slave.Slave.TheVariants.{Memory, Device}
use Rattle.check_flight.specs.declared.order.Order.TheVariants.{Accept}
use Rattle.check_watch.specs.Plan.{Plan, Sighting}
use Rattle.check_watch_laws.specs.Memories.{order_at, reset_of}
use Rattle.check_watch_laws.specs.Moments.{RequestMoment, moments}
use Rattle.check_watch_laws.specs.Moments.Act.{Accepts}

-- among these moments of a port is one at which it accepts the request of a wide source, and later comes no moment of
-- that source: the request is accepted and not answered
pub record IsOpen (moments : List RequestMoment) (wide : ℕ) (sent : Sent) : Type 0 where
  pub before : List RequestMoment
  pub later : List RequestMoment
  pub accepted : moments ≡ before ++ record { act = Accepts; wide = wide; sent = sent } ∷ later
  pub unanswered : AllByRecursion (λ (moment : RequestMoment). moment.wide ≢ wide) later

-- no two requests that are open have a byte in common that one of them may write; a device keeps no bytes
abbrev pub AreApart : Slave → List RequestMoment → Type 0
AreApart (Memory memory) moments =
    (wide other : ℕ) (sent with : Sent) → wide ≢ other → IsOpen moments wide sent → IsOpen moments other with
    → AreUncontested memory sent.ask with.ask
AreApart Device moments = Unit {0}

-- so it is at each moment of a port
abbrev pub NothingIsContested : Plan → ℕ → List Sighting → Type 0
NothingIsContested plan port past =
    (before later : List RequestMoment) → before ++ later ≡ moments plan port past
    → AreApart (reset_of plan port).kept before

-- ---- two systems

-- if two systems say another order of a port, by one its requests take effect as they are accepted, and none of them is
-- contested
abbrev pub DifferByAccept : Plan → Plan → List Sighting → Type 0
DifferByAccept loose strict past =
    (port : ℕ) → order_at loose port ≢ order_at strict port
    → (order_at strict port ≡ Accept) × NothingIsContested strict port past
