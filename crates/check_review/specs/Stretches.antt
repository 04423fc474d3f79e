-- The course of a capture: the stretches between resets of the whole system. Lists of rows have the latest first. This
-- project's own.
use Rattle.std.specs.Prelude.{◌≡◌, Bool, true, false, List, [], ◌∷◌, ◌++◌, Option, IsTrue}
use Rattle.check_watch.specs.Plan.{Sighting}
use Rattle.check_memory.specs.declared.slave.Slave.{Slave}
use Rattle.check_flight.specs.PortSlave.{PortSlave}
use Rattle.check_sides.specs.Groups.{are_apart}
use Rattle.check_turns.specs.Lawful.{IsLawfulInOrder}
use Rattle.check_sides.specs.Plan.{IsPlan, Plan}
use Rattle.check_sides.specs.Reset.{IsReset}
use Rattle.check_rows.specs.Row.{SeenRow}
use Rattle.check_coverage.specs.Bins.{bins}
use Rattle.check_bins.specs.declared.bin.Bin.{Bin}
use Rattle.check_start.specs.Loads.{AreLoads, SystemPlan}
use Rattle.check_review.specs.Order.{sightings_of, watched}

-- what crossed since a reset, or since the beginning, and the plan by which the system goes on since then
pub record Stretch : Type 0 where
  pub plan : Plan
  pub rows : List SeenRow

-- its rows at the links that are watched, and what was seen there
abbrev pub watched_in : Stretch → List SeenRow
watched_in stretch = watched stretch.plan.layout stretch.rows

-- what was seen of the rows of a stretch at the links that are watched
abbrev pub sightings_in : Stretch → List Sighting
sightings_in stretch = sightings_of stretch.plan.layout stretch.rows

-- that is lawful
abbrev pub IsLawfulStretch : Stretch → Type 0
IsLawfulStretch stretch = IsLawfulInOrder stretch.plan (sightings_in stretch)

-- a reset ends a lawful stretch, and after it the system goes on by this plan: ports hold what is loaded into them, or
-- what the reset has left. That plan differs from the one before in the slaves alone.
pub record EndsStretch (system : SystemPlan) (last : Stretch) (next : Plan) : Type 0 where
  pub lawful : IsLawfulStretch last
  pub loaded : List (Option Slave)
  pub own_loaded : List (Option Slave)
  pub resets : List PortSlave
  pub own : List PortSlave
  pub loads : AreLoads system.loads system.begins.resets loaded
  pub own_loads : IsTrue (are_apart system.begins.layout) → AreLoads system.loads system.begins.own own_loaded
  pub is : IsReset last.plan (sightings_in last) loaded own_loaded resets own
  pub goes_on : next ≡ record last.plan { resets = resets; own = own }
  pub plan : IsPlan next

-- ---- stretches

-- one row more: a beat is one of the stretch that goes on, and a reset ends that
abbrev pub GoOnWith : Bool → SystemPlan → SeenRow → (Stretch → List Stretch → Type 0) → Stretch → List Stretch → Type 0
GoOnWith false system row Before now ended =
    (rows : List SeenRow) × (now.rows ≡ row ∷ rows) × Before (record now { rows = rows }) ended
GoOnWith true system row Before now ended =
    (last : Stretch) × (others : List Stretch) × (now.rows ≡ []) × (ended ≡ last ∷ others) × Before last others
    × EndsStretch system last now.plan

-- the rows that crossed are those of these stretches: the one that goes on, and those that resets have ended, the latest first
abbrev pub AreStretches : SystemPlan → List SeenRow → Stretch → List Stretch → Type 0
AreStretches system [] now ended = (now ≡ record { plan = system.begins; rows = [] }) × (ended ≡ [])
AreStretches system (row ∷ before) now ended = GoOnWith row.is_reset system row (AreStretches system before) now ended

-- the stretches of rows that crossed. They are one list alone, since what a reset leaves is one thing alone.
pub record Stretches (system : SystemPlan) (crossed : List SeenRow) : Type 0 where
  pub now : Stretch
  pub ended : List Stretch
  pub are : AreStretches system crossed now ended

-- all of them, the latest first
abbrev pub stretches : {system : SystemPlan} {crossed : List SeenRow} → Stretches system crossed → List Stretch
stretches course = course.now ∷ course.ended

-- what they cover
abbrev pub bins_in : List Stretch → List Bin
bins_in [] = []
bins_in (stretch ∷ ended) = bins stretch.plan (watched_in stretch) ++ bins_in ended

-- what stands before the stretch that goes on: what is known of the system ahead, and the stretches that have ended
pub record Earlier : Type 0 where
  pub system : SystemPlan
  pub ended : List Stretch

-- the stretch that goes on, and those that have ended
abbrev pub with_now : Earlier → Plan → List SeenRow → List Stretch
with_now earlier plan rows = record { plan = plan; rows = rows } ∷ earlier.ended
