-- What a reset of the whole system loads into the slaves of its ports. This project's own.
use Rattle.std.specs.Prelude.{◌≡◌, ℕ, ◌+◌, ◌≤◌, Bool, true, false, if◌then◌else◌, List, [], ◌∷◌, ◌++◌, length, map, Option, None, Some, IsTrue, slice_get, slice_index_or}
use Rattle.check_memory.specs.declared.slave.Slave.{Slave}
use Rattle.check_flight.specs.PortSlave.{PortSlave}
use Rattle.check_watch.specs.Past.{slave_at}
use Rattle.check_watch.specs.Reset.{loaded_at}
use Rattle.check_turns.specs.View.{are_apart}
use Rattle.check_watch.specs.Plan.{Plan}
use Rattle.check_description.specs.Port.{Port}
use Rattle.check_description.specs.Ranges.{first_length}
use Rattle.check_description.specs.Slave.{kept_at_reset}
use Rattle.check_description.specs.declared.on_reset.OnReset.{OnReset}
use Rattle.check_description.specs.declared.on_reset.OnReset.TheVariants.{Never, Keep, Load}
use Rattle.check_start.specs.Slaves.{image_at}

-- ---- which ports are loaded

-- a reset loads a port that does this
abbrev pub is_loaded : OnReset → Bool
is_loaded Never = false
is_loaded Keep = false
is_loaded Load = true

-- which ports a reset loads, by number
abbrev pub loads_of : List Port → List Bool
loads_of ports = map (λ (port : Port). is_loaded port.on_reset) ports

-- what is known of a system ahead: the plan by which it begins, which of its ports a reset loads, and the longest time from a
-- request's first beat to that of its reply, if there is a limit
pub record SystemPlan : Type 0 where
  pub begins : Plan
  pub loads : List Bool
  pub within : Option ℕ

-- ---- what is loaded

-- a reset loads these into slaves: into that of each port that is to be loaded what it held at the beginning, and nothing
-- into any other, the error port's among them
abbrev pub AreLoads : List Bool → List PortSlave → List (Option Slave) → Type 0
AreLoads loads slaves loaded =
    (port : ℕ) → loaded_at loaded port ≡ (if slice_index_or loads port false then Some (slave_at slaves port).kept else None)

-- the same of all slaves of a plan: those that are judged together, and those of ports' links that are judged each by
-- itself, if some are judged so
pub record AreLoadsOf (plan : SystemPlan) (loaded : List (Option Slave)) : Type 0 where
  pub counted : length loaded ≡ length plan.begins.layout.ports + 1
  pub shared : AreLoads plan.loads plan.begins.resets loaded
  pub own : IsTrue (are_apart plan.begins.layout) → AreLoads plan.loads plan.begins.own loaded

-- ---- how it is made

-- what is loaded into a port with these bytes of its image
abbrev pub load_of : Port → List ℕ → Option Slave
load_of port image = if is_loaded port.on_reset then Some (kept_at_reset port image) else None

-- the same of ports, the first of which has this number
abbrev pub loads_from : List (List ℕ) → ℕ → List Port → List (Option Slave)
loads_from images number [] = []
loads_from images number (port ∷ ports) = load_of port (image_at images number) ∷ loads_from images (number + 1) ports

-- the same of all ports, and nothing into the error port, which is the last
abbrev pub loads_at_reset : List (List ℕ) → List Port → List (Option Slave)
loads_at_reset images ports = loads_from images 0 ports ++ None ∷ []

-- the image of each port fits in its first range
abbrev pub ImagesFit : List (List ℕ) → List Port → Type 0
ImagesFit images ports =
    (number : ℕ) (port : Port) → slice_get ports number ≡ Some port → length (image_at images number) ≤ first_length port.ranges
