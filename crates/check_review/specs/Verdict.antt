-- The verdict over the rows of a capture. Lists of what crossed have the latest first. This project's own. Crates above
-- that take `SystemPlan` from here need not list `check_start`.
use Rattle.std.specs.Prelude.{◌≡◌, ◌⊎◌, ℕ, ◌%◌, ◌^◌, ◌<◌, Bool, true, false, List, [], ◌∷◌, ◌++◌, Option, Some, None, IsTrue, Contains, length, option_to_list, reverse}
use Rattle.std.specs.List.{AllByRecursion}
use Rattle.check_watch.specs.declared.fault.Fault.{Fault}
use Rattle.check_sides.specs.Plan.{Plan}
use Rattle.check_turns.specs.Lawful.{IsLawfulInOrder, IsFirstFaultInOrder, MayNeedMemory}
pub use Rattle.check_start.specs.Loads.{SystemPlan}
use Rattle.check_rows.specs.Row.{SeenRow, row_with}
use Rattle.check_rows.specs.declared.row.Row.{Row}
use Rattle.check_unanswered.specs.Began.{IsComplete, IsLeft}
use Rattle.check_rows.specs.declared.request.Left.{Left}
use Rattle.check_review.specs.declared.waiting.Waiting.{Waiting}
use Rattle.check_review.specs.Waiting.{first_late, is_late_reply, waiting_in}
use Rattle.check_lines.specs.declared.breach.Breach.{Breach}
use Rattle.check_lines.specs.declared.breach.Breach.TheVariants as breach
pub use Rattle.check_lines.specs.declared.verdict.VerdictCounts.{VerdictCounts}
use Rattle.check_review.specs.declared.stop.Refusal.{Refusal}
use Rattle.check_review.specs.declared.stop.Refusal.TheVariants as refusal
use Rattle.check_review.specs.declared.stop.Stop.{Stop}
use Rattle.check_review.specs.declared.stop.Stop.TheVariants as stop
use Rattle.check_review.specs.declared.stop.Unlawful.{Unlawful}
use Rattle.check_review.specs.Order.{IsCrossing, IsLater, HasRowFault, is_watched}
use Rattle.check_review.specs.Stretches.{Stretches, IsLawfulStretch, Stretch, sightings_in, stretches, watched_in}
use Rattle.check_review.specs.Times.{IsNamedAs, StretchesInTime, StretchesInTimeBefore}
use Rattle.check_review.specs.Count.{asked_in, answered_in}
use Rattle.check_review.specs.Told.{GrowsTold, IsToldOfAll}

-- the rows of a file, in the order in which their beats cross, are lawful at the links that are watched: those since the last
-- reset, and those of each stretch that a reset has ended; and replies come in time, if there is a limit
pub record IsLawfulFile (plan : SystemPlan) (file : List SeenRow) : Type 0 where
  pub crossed : List SeenRow
  pub crossing : IsCrossing file crossed
  pub course : Stretches plan crossed
  pub lawful : IsLawfulStretch course.now
  pub in_time : StretchesInTime plan.within (stretches course)

-- how many rows a file has, and how many whole requests and replies are seen of them
pub record HasCounts (plan : SystemPlan) (file : List SeenRow) (counts : VerdictCounts) : Type 0 where
  pub crossed : List SeenRow
  pub crossing : IsCrossing file crossed
  pub course : Stretches plan crossed
  pub rows : counts.rows ≡ length file % 2 ^ 64
  pub requests : counts.requests ≡ asked_in (stretches course)
  pub answered : counts.answered ≡ answered_in (stretches course)

-- what is answered of the requests that are left after some rows: nothing unless that is asked for; else that none is, or
-- how many there are and the oldest
abbrev pub IsWhatIsLeft : Bool → Plan → List SeenRow → Option Left → Type 0
IsWhatIsLeft false plan rows left = left ≡ None
IsWhatIsLeft true plan rows None = IsComplete plan rows
IsWhatIsLeft true plan rows (Some left) = IsLeft plan rows left

-- the same after the rows of a file, in the order in which their beats cross, at the links that are watched: a reset leaves
-- nothing in flight
pub record HasLeft (asked : Bool) (plan : SystemPlan) (file : List SeenRow) (left : Option Left) : Type 0 where
  pub crossed : List SeenRow
  pub crossing : IsCrossing file crossed
  pub course : Stretches plan crossed
  pub is : IsWhatIsLeft asked course.now.plan (watched_in course.now) left

-- a row is named by all but its lanes
abbrev pub IsNamedBy : SeenRow → Row → Type 0
IsNamedBy row named = row_with named row.sighting.lanes ≡ row

-- a row breaks the rules by its beat, of whose fault this is said
abbrev pub OfBeat : (Fault → Type 0) → Breach → Type 0
OfBeat P (breach.Beat fault) = P fault
OfBeat P breach.LateReply = ⊥
OfBeat P breach.NoReply = ⊥

-- the rows of a stretch are lawful, and this one is not, after them: it has this first fault
pub record IsUnlawfulAfter (stretch : Stretch) (row : SeenRow) (found : Unlawful) : Type 0 where
  pub named : IsNamedBy row found.row
  pub watched : IsTrue (is_watched stretch.plan.layout row.sighting.link)
  pub lawful : IsLawfulStretch stretch
  pub unlawful : IsLawfulInOrder stretch.plan (row.sighting ∷ sightings_in stretch) → ⊥
  pub fault : OfBeat (IsFirstFaultInOrder stretch.plan (sightings_in stretch) row.sighting) found.breach

-- the beat of this row is lawful after those of a stretch, and begins a reply to a request that has waited for more than the limit
pub record IsLateAfter (within : Option ℕ) (stretch : Stretch) (row : SeenRow) (found : Unlawful) : Type 0 where
  pub named : IsNamedBy row found.row
  pub watched : IsTrue (is_watched stretch.plan.layout row.sighting.link)
  pub lawful : IsLawfulStretch (record stretch { rows = row ∷ stretch.rows })
  pub limit : ℕ
  pub asked : within ≡ Some limit
  pub late : is_late_reply limit stretch.plan (watched_in stretch) row ≡ true
  pub breach : found.breach ≡ breach.LateReply

-- the rows of a stretch are lawful, the last of which is of this time, and after them a request has waited for more than the limit
-- by that time: of all that have this is the one that began first
pub record IsUnanswered (within : Option ℕ) (time : ℕ) (stretch : Stretch) (found : Unlawful) : Type 0 where
  pub row : SeenRow
  pub before : List SeenRow
  pub are : stretch.rows ≡ row ∷ before
  pub now : row.time ≡ time
  pub lawful : IsLawfulStretch stretch
  pub limit : ℕ
  pub asked : within ≡ Some limit
  pub first : Waiting
  pub late : first_late limit time (waiting_in stretch.plan (watched_in stretch)) ≡ Some first
  pub named : IsNamedAs first found.row
  pub breach : found.breach ≡ breach.NoReply

-- a stretch goes on with this row of this time, whose beat is not lawful or begins a late reply; or it ends for now with rows of
-- this time, after which a request has waited for too long
abbrev pub IsBreach : Option ℕ → ℕ → Stretch → Option SeenRow → Unlawful → Type 0
IsBreach within time stretch (Some row) found =
    (row.time ≡ time) × (row.is_reset ≡ false) × (IsUnlawfulAfter stretch row found ⊎ IsLateAfter within stretch row found)
IsBreach within time stretch None found = IsUnanswered within time stretch found

-- the row is the first one, in the order in which beats cross, that makes the file unlawful, with its first fault; or after all
-- rows of the last time no row has, but a request waits that has waited for too long, and the row is the one with which it began
pub record IsFirstUnlawful (plan : SystemPlan) (file : List SeenRow) (found : Unlawful) : Type 0 where
  pub next : Option SeenRow
  pub time : ℕ
  pub after : List SeenRow
  pub before : List SeenRow
  pub crossing : IsCrossing file (after ++ (option_to_list next ++ before))
  pub course : Stretches plan before
  pub in_time : StretchesInTimeBefore time plan.within (stretches course)
  pub is : IsBreach plan.within time course.now next found
  pub last : next ≡ None → after ≡ []

-- the rows of a file are lawful, and this is told of them
pub record IsToldFile (trace : Bool) (plan : SystemPlan) (file : List SeenRow) (text : List ℕ) : Type 0 where
  pub lawful : IsLawfulFile plan file
  pub told : IsToldOfAll trace (stretches lawful.course) text

-- the row is the first one that makes a file unlawful, and this is told of those that cross before it
pub record IsToldBefore (trace : Bool) (plan : SystemPlan) (file : List SeenRow) (text : List ℕ) (found : Unlawful)
    : Type 0 where
  pub first : IsFirstUnlawful plan file found
  pub told : IsToldOfAll trace (stretches first.course) text

-- rows of a file are lawful that cross before all others of it, and this is told of them
pub record IsToldPart (trace : Bool) (plan : SystemPlan) (file : List SeenRow) (text : List ℕ) : Type 0 where
  pub after : List SeenRow
  pub before : List SeenRow
  pub crossing : IsCrossing file (after ++ before)
  pub course : Stretches plan before
  pub lawful : IsLawfulStretch course.now
  pub told : IsToldOfAll trace (stretches course) text

-- the rows of a file that are of an earlier time than its last are lawful, and this is told of them
pub record IsToldEarlier (trace : Bool) (plan : SystemPlan) (file : List SeenRow) (text : List ℕ) : Type 0 where
  pub time : ℕ
  pub part : IsToldPart trace plan file text
  pub now : AllByRecursion (λ row. row.time ≡ time) part.after
  pub earlier : AllByRecursion (λ row. row.time < time) part.before
  pub none : part.after ≡ [] → part.before ≡ []

-- what is said of the unlawful row, if rows are refused for one
abbrev pub OfUnlawful : (Unlawful → Type 0) → Refusal → Type 0
OfUnlawful P (refusal.Unlawful found) = P found
OfUnlawful P refusal.Memory = Unit {0}

-- how rows of one time, which cross in this order after those before, break the rules
pub record StopsAt (plan : SystemPlan) (rows before : List SeenRow) (found : Unlawful) : Type 0 where
  pub next : Option SeenRow
  pub some : SeenRow
  pub there : Contains rows some
  pub done : List SeenRow
  pub left : List SeenRow
  pub are : rows ≡ done ++ (option_to_list next ++ left)
  pub course : Stretches plan (reverse done ++ before)
  pub is : IsBreach plan.within some.time course.now next found
  pub last : next ≡ None → left ≡ []

-- and a text grew by what is told of those that cross before it
pub record StopsTelling (trace : Bool) (plan : SystemPlan) (rows before : List SeenRow) (course : Stretches plan before)
    (old new : List ℕ) (found : Unlawful) : Type 0 where
  pub stops : StopsAt plan rows before found
  pub told : GrowsTold trace (stretches course) (stretches stops.course) old new

-- ---- want of memory

-- memory can be refused to a reset; and to the lawful beat of a row after those of a stretch: for what is told or counted of
-- it, if it is to be, or for what is kept
abbrev pub MayWantAfter : Bool → Stretch → SeenRow → Type 0
MayWantAfter wants stretch row =
    (row.is_reset ≡ true) ⊎ ((wants ≡ true) ⊎ (IsLawfulInOrder stretch.plan (row.sighting ∷ sightings_in stretch)
    × MayNeedMemory stretch.plan (sightings_in stretch) row.sighting))

-- it can be refused to one of these rows, which cross in this order after those before
pub record MayWantAmong (wants : Bool) (plan : SystemPlan) (rows before : List SeenRow) : Type 0 where
  pub row : SeenRow
  pub done : List SeenRow
  pub left : List SeenRow
  pub are : rows ≡ done ++ row ∷ left
  pub course : Stretches plan (reverse done ++ before)
  pub is : MayWantAfter wants course.now row

-- it can be refused to a row of a file, in the order in which beats cross
pub record MayWantMemory (wants : Bool) (plan : SystemPlan) (file : List SeenRow) : Type 0 where
  pub row : SeenRow
  pub after : List SeenRow
  pub before : List SeenRow
  pub crossing : IsCrossing file (after ++ row ∷ before)
  pub course : Stretches plan before
  pub is : MayWantAfter wants course.now row

-- why a row is not taken after those of the file: it may not stand there, or it is of a later time, and they are not
-- lawful, or memory was refused
abbrev pub IsStop : SystemPlan → List SeenRow → SeenRow → Stop → Type 0
IsStop plan file row (stop.Row fault) = HasRowFault file row fault
IsStop plan file row (stop.Beat found) = IsLater file row × IsFirstUnlawful plan file found
IsStop plan file row stop.Memory = IsLater file row

-- what becomes of a row if those before it are refused
abbrev pub stop_of : Refusal → Stop
stop_of (refusal.Unlawful found) = stop.Beat found
stop_of refusal.Memory = stop.Memory
