-- What a lawful list of beats is, said of each group of links. Lists of sightings have the latest first. It is this
-- project's own.
use Rattle.std.specs.Prelude.{◌≤◌, List, length}
use Rattle.std.specs.List.{AllByRecursion}
use Rattle.check_watch.specs.declared.beat.Link.{Link}
use Rattle.check_watch.specs.Plan.{Sighting}
use Rattle.check_watch_laws.specs.Rules as group
use Rattle.check_sides.specs.Groups.{plan_at, past_at}
use Rattle.check_sides.specs.Plan.{Layout, Plan, HasLink, IsWatched, bus_of}

-- a sighting is at a link of the system that is watched, and has a lane for each byte of its bus
pub record IsAtWatchedLink (layout : Layout) (x : Sighting) : Type 0 where
  pub link : HasLink layout x.link
  pub watched : IsWatched layout.links x.link
  pub lanes : bus_of layout x.link ≤ length x.lanes

-- each of these sightings is at a link that is watched, and has a lane for each byte of its bus.
abbrev pub AreAllWatched : Layout → List Sighting → Type 0
AreAllWatched layout past = AllByRecursion (IsAtWatchedLink layout) past

-- the beats of each group are whole messages that come in turn; replies fit what slaves may reply that do one request at
-- a time, each group's from reset on; and if both sides are watched together messages cross: so it is at each moment
abbrev pub EachGroupKeepsRules : Plan → List Sighting → Type 0
EachGroupKeepsRules plan past =
    (link : Link) → group.AlwaysKeepsRules (plan_at plan link) (past_at plan.layout link past)

-- each request has an address that is a multiple of its size, if that is asked; a beat is marked corrupt only if that is
-- allowed; and each lane that carries a byte, and has to be known, was known
abbrev pub AreAllCompliant : Plan → List Sighting → Type 0
AreAllCompliant plan past = (link : Link) → group.AreCompliant (plan_at plan link) (past_at plan.layout link past)
