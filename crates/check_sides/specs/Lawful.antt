-- Which lists of sightings are lawful, the latest first: each beat is lawful after those before it of the links that are
-- judged with its own. What is lawful of links that are judged together is said by `check_watch`.
use Rattle.std.specs.Prelude.{◌≡◌, ℕ, ◌⊎◌, List, [], ◌∷◌, IsTrue}
use Rattle.std.specs.List.{AllByRecursion}
use Rattle.check_beats.specs.State.{Under}
use Rattle.check_watch.specs.declared.beat.Beat.{Beat}
use Rattle.check_watch.specs.declared.beat.Beat.TheVariants.{A, D}
use Rattle.check_watch.specs.declared.beat.Link.{Link}
use Rattle.check_watch.specs.declared.fault.Fault.{Fault}
use Rattle.check_watch.specs.declared.seen.Seen.{Seen}
use Rattle.check_watch.specs.Plan.{Sighting, link_number, side_of}
use Rattle.check_watch.specs.Scene.{Scene}
use Rattle.check_watch.specs.Past as group
use Rattle.check_watch.specs.Lawful as group_lawful
use Rattle.check_watch.specs.Lawful.{IsAllowed}
pub use Rattle.check_watch.specs.Lawful.{OfFault}
use Rattle.check_sides.specs.Plan.{Plan}
use Rattle.check_sides.specs.Groups.{is_alone, plan_at, past_at}

-- the messages under way at a link
abbrev pub under_way : Plan → List Sighting → Link → Under
under_way plan past link =
    (group.state (plan_at plan link) (past_at plan.layout link past)).links (side_of link) (link_number link)

-- what a beat finds
abbrev pub scene : Plan → List Sighting → Sighting → Scene
scene plan past x = group.scene_in_group (plan_at plan x.link) (past_at plan.layout x.link past) x

-- each beat is lawful by the plan of its link, after those before it of the links that are judged with its own.
abbrev pub IsLawful : Plan → List Sighting → Type 0
IsLawful plan [] = Unit {0}
IsLawful plan (x ∷ past) = IsLawful plan past × IsAllowed (plan_at plan x.link) (scene plan past x) x

-- the fault is the first one, in the order in which they are tried, that the beat has after this past
abbrev pub IsFirstFault : Plan → List Sighting → Sighting → Fault → Type 0
IsFirstFault plan past x =
    group_lawful.IsFirstGroupFault (plan_at plan x.link) (past_at plan.layout x.link past) x

-- what a beat ends after this past
abbrev pub what_is_seen : Plan → List Sighting → Sighting → Seen
what_is_seen plan past x =
    group_lawful.seen_in_group (plan_at plan x.link) (past_at plan.layout x.link past) x

-- ---- what may need memory

-- a port's slave may need memory with a beat after this past
abbrev pub SlaveMayNeedMemory : Plan → List Sighting → Sighting → Type 0
SlaveMayNeedMemory plan past x =
    group_lawful.GroupMayNeedMemory (plan_at plan x.link) (past_at plan.layout x.link past) x

-- the beat is one of a request of this source
abbrev pub IsAskOf : Beat → ℕ → Type 0
IsAskOf (A beat) source = beat.source ≡ source
IsAskOf (D beat) source = ⊥

-- none of these beats is one of a request of this source
abbrev pub IsNew : List Sighting → ℕ → Type 0
IsNew past source = AllByRecursion (λ (x : Sighting). IsAskOf x.beat source → ⊥) past

-- the beat is one of a request of a source that has made none before
abbrev pub IsFirstRequest : List Sighting → Beat → Type 0
IsFirstRequest past (A beat) = IsNew past beat.source
IsFirstRequest past (D beat) = ⊥

-- a source makes its first request with a beat after this past, at a port's link that is judged by itself
abbrev pub IsNewcomer : Plan → List Sighting → Sighting → Type 0
IsNewcomer plan past x =
    IsTrue (is_alone plan.layout x.link) × IsFirstRequest (past_at plan.layout x.link past) x.beat

-- a beat may need memory after this past: its port's slave, or a source for its room
abbrev pub MayNeedMemory : Plan → List Sighting → Sighting → Type 0
MayNeedMemory plan past x = SlaveMayNeedMemory plan past x ⊎ IsNewcomer plan past x
