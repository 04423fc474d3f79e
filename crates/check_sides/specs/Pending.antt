-- Which requests are in flight at the links that are judged together, and what one beat does to them; with `Each` these
-- are the masters' links. Lists of sightings have the latest first. It is this project's own.
use Rattle.std.specs.Prelude.{ℕ, List, ◌∷◌}
use Rattle.check_watch.specs.declared.pending.Change.{Change}
use Rattle.check_watch.specs.Pending as group
use Rattle.check_watch.specs.Pending.{IsChangeBy}
use Rattle.check_watch.specs.Plan.{LinkSide, Plan, Sighting}
use Rattle.check_sides.specs.Groups.{shared_past}

-- a request of the wide source is in flight on this side
abbrev pub IsInFlightAt : Plan → List Sighting → LinkSide → ℕ → Type 0
IsInFlightAt plan past side wide = group.IsInFlightInGroup plan (shared_past plan.layout past) side wide

-- what a beat does to the requests in flight
abbrev pub IsChange : Plan → List Sighting → Sighting → Change → Type 0
IsChange plan past x change =
    IsChangeBy (IsInFlightAt plan past) (IsInFlightAt plan (x ∷ past)) plan.layout.owners
    (group.EndsReply plan (shared_past plan.layout past) x) x change
