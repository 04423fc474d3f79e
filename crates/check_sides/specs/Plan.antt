-- What a judge knows of a crossbar ahead is what `check_watch` says; which links are watched is this project's own.
use Rattle.std.specs.Prelude.{ℕ, ◌≤◌, List, length}
use Rattle.check_watch.specs.declared.beat.Link.{Link}
use Rattle.check_watch.specs.declared.beat.Link.TheVariants.{Master, Port}
use Rattle.check_watch.specs.declared.links.Links.{Links}
use Rattle.check_watch.specs.declared.links.Links.TheVariants.{Both, Masters, Ports, Each}
pub use Rattle.check_watch.specs.Plan.{HasLink, IsPlan, Layout, Plan, bus_of}

-- the link is one that is watched
abbrev pub IsWatched : Links → Link → Type 0
IsWatched Both link = Unit {0}
IsWatched Masters (Master m) = Unit {0}
IsWatched Masters (Port p) = ⊥
IsWatched Ports (Master m) = ⊥
IsWatched Ports (Port p) = Unit {0}
IsWatched Each link = Unit {0}

-- a beat may be handed in at a link with these lanes: the system has the link, it is watched, and its bus has no more lanes
pub record CanCross (layout : Layout) (link : Link) (given : List ℕ) : Type 0 where
  pub known : HasLink layout link
  pub watched : IsWatched layout.links link
  pub lanes : bus_of layout link ≤ length given
