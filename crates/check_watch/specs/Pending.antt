-- Which requests are in flight after some beats, and what one beat does to them. Lists of sightings have the latest
-- first. It is this project's own.
use Rattle.std.specs.Prelude.{◌≡◌, ◌≢◌, ℕ, ◌<◌, ◌↔◌, Bool, false, IsTrue, List, ◌∷◌}
use Rattle.tl_map.specs.Owner.{IsWideSource}
use Rattle.tl_map.specs.declared.owners.Owner.{Owner}
use Rattle.check_beats.specs.State.{Under, ends_reply}
use Rattle.check_beats.specs.declared.beat.AskHead.{AskHead}
use Rattle.check_flight.specs.Flight.Turn.{Idle}
use Rattle.check_watch.specs.declared.beat.Beat.{Beat}
use Rattle.check_watch.specs.declared.beat.Beat.TheVariants.{A, D}
use Rattle.check_watch.specs.declared.beat.Link.{Link}
use Rattle.check_watch.specs.declared.pending.Change.{Change}
use Rattle.check_watch.specs.declared.pending.Change.TheVariants.{Nothing, Begins, Ends}
use Rattle.check_watch.specs.declared.pending.Origin.{Origin}
use Rattle.check_watch.specs.Plan.{Layout, Plan, Sighting, LinkSide, side_of, link_number, IsWideAt}
use Rattle.check_watch.specs.Past.{state}

-- a request of the wide source is in flight on this side
abbrev pub IsInFlightInGroup : Plan → List Sighting → LinkSide → ℕ → Type 0
IsInFlightInGroup plan past side wide = ((state plan past).flights side wide).turn ≢ Idle

-- a source of a link has this wide source, which is that master's own source
pub record IsOriginAt (layout : Layout) (link : Link) (source : ℕ) (origin : Origin) : Type 0 where
  pub wide : IsWideAt layout link source origin.wide
  pub own : IsWideSource layout.owners origin.master origin.source origin.wide

-- the beat is the last one of a reply, after what was under way at its link
abbrev pub is_last_of_reply : Under → Beat → Bool
is_last_of_reply under (A ask) = false
is_last_of_reply under (D reply) = ends_reply under.bus under.replying reply

-- after this past, the beat of the sighting is the last one of a reply.
abbrev pub EndsReply : Plan → List Sighting → Sighting → Type 0
EndsReply plan past x = IsTrue (is_last_of_reply ((state plan past).links (side_of x.link) (link_number x.link)) x.beat)

-- ---- what one beat does, by the wide sources that have a request in flight on each side before it, and after it

-- what is in flight is what was, but for this wide source of the beat's side
abbrev pub OthersStay : (LinkSide → ℕ → Type 0) → (LinkSide → ℕ → Type 0) → Sighting → ℕ → Type 0
OthersStay Before After x wide =
    (side : LinkSide) (other : ℕ) → ((side_of x.link ≡ side) × (wide ≡ other) → ⊥) → After side other ↔ Before side other

-- the beat begins a request of this source, of which none was in flight
pub record IsBegin (Before After : LinkSide → ℕ → Type 0) (owners : List Owner) (x : Sighting) (origin : Origin) : Type 0 where
  pub ask : AskHead
  pub is : x.beat ≡ A ask
  pub own : IsWideSource owners origin.master origin.source origin.wide
  pub free : Before (side_of x.link) origin.wide → ⊥
  pub begun : After (side_of x.link) origin.wide
  pub others : OthersStay Before After x origin.wide

-- the beat ends a reply, to the request of this wide source, which was in flight
pub record IsEnd (Before After : LinkSide → ℕ → Type 0) (EndsOne : Type 0) (x : Sighting) (wide : ℕ) : Type 0 where
  pub last : EndsOne
  pub busy : Before (side_of x.link) wide
  pub ended : After (side_of x.link) wide → ⊥
  pub others : OthersStay Before After x wide

-- what a beat does to the requests in flight
abbrev pub IsChangeBy : (LinkSide → ℕ → Type 0) → (LinkSide → ℕ → Type 0) → List Owner → Type 0 → Sighting → Change → Type 0
IsChangeBy Before After owners EndsOne x Nothing = (side : LinkSide) (wide : ℕ) → After side wide ↔ Before side wide
IsChangeBy Before After owners EndsOne x (Begins origin) = IsBegin Before After owners x origin
IsChangeBy Before After owners EndsOne x (Ends wide) = IsEnd Before After EndsOne x wide

-- what the beat of a sighting does to the requests in flight after this past.
abbrev pub IsGroupChange : Plan → List Sighting → Sighting → Change → Type 0
IsGroupChange plan past x change =
    IsChangeBy (IsInFlightInGroup plan past) (IsInFlightInGroup plan (x ∷ past)) plan.layout.owners (EndsReply plan past x) x
    change

-- the wide source of what begins is one of so many
abbrev pub IsInLimit : ℕ → Change → Type 0
IsInLimit wides Nothing = Unit {0}
IsInLimit wides (Begins origin) = origin.wide < wides
IsInLimit wides (Ends wide) = Unit {0}
