-- What `lawful` means of a file of rows, and of the text of a capture. It is this project's own.
use Rattle.std.specs.Prelude.{◌≡◌, ℕ, ◌≤◌, Bool, false, List, [], ◌∷◌, ◌++◌, Option, Some, None, length, option_to_list}
use Rattle.std.specs.List.{AllByRecursion}
use Rattle.check_sides.specs.Plan.{Layout, bus_of}
use Rattle.check_turns.specs.Turns.{AreInTurn}
use Rattle.check_rows.specs.Row.{SeenRow}
use Rattle.check_rows.specs.declared.row.Row.{Row}
use Rattle.check_review.specs.Verdict.{SystemPlan, HasCounts, HasLeft, IsNamedBy, VerdictCounts}
use Rattle.check_review.specs.declared.waiting.Waiting.{Waiting}
use Rattle.check_review.specs.Waiting.{first_late, is_late_reply, waiting_in}
use Rattle.check_review.specs.Order.{IsCrossing}
use Rattle.check_review.specs.Stretches.{Stretch, Stretches, sightings_in, stretches, watched_in}
use Rattle.check_review.specs.Times.{IsNamedAs, StretchesInTime, StretchesInTimeBefore}
use Rattle.check_rows.specs.declared.request.Left.{Left}
use Rattle.check_review.specs.declared.stop.Unlawful.{Unlawful}
use Rattle.check_records.specs.Text.{TextPlace}
use Rattle.check_text.specs.Capture.{Begins, IsCapture}
use Rattle.check_text.specs.Rows.{IsTimeOver}
use Rattle.check_text.specs.Buses.{LinkBuses}
use Rattle.check_text_laws.specs.Groups.{EachGroupKeepsRules, AreAllCompliant}

-- each row of a beat has a lane for each byte of its link's bus
abbrev pub HaveLanes : Layout → List SeenRow → Type 0
HaveLanes layout rows =
    AllByRecursion (λ row. row.is_reset ≡ false → bus_of layout row.sighting.link ≤ length row.sighting.lanes) rows

-- what the rows of a stretch show of the links that are watched keeps the rules at each moment, each lane that carries a
-- byte, and has to be known, was known, and where the system says so replies begin in the order of their requests
pub record StretchKeepsRules (stretch : Stretch) : Type 0 where
  pub keeps : EachGroupKeepsRules stretch.plan (sightings_in stretch)
  pub whole : AreAllCompliant stretch.plan (sightings_in stretch)
  pub turns : AreInTurn stretch.plan (sightings_in stretch)

-- in the order in which the rows of a file cross, each stretch between resets keeps the rules, by the plan by which the system
-- goes on since the reset before it; and whenever a row crosses, no request has waited for more than the limit, if there is one
pub record FileKeepsRules (plan : SystemPlan) (file : List SeenRow) : Type 0 where
  pub crossed : List SeenRow
  pub crossing : IsCrossing file crossed
  pub course : Stretches plan crossed
  pub each : AllByRecursion StretchKeepsRules (stretches course)
  pub in_time : StretchesInTime plan.within (stretches course)

-- with this row more the rules are not kept: or a lane of it that carries a byte, and has to be known, was not, or it begins a reply
-- out of turn, or a late one
pub record IsBrokenBy (within : Option ℕ) (stretch : Stretch) (row : SeenRow) (named : Row) : Type 0 where
  pub is : IsNamedBy row named
  pub broken : AreAllCompliant stretch.plan (row.sighting ∷ sightings_in stretch)
      → EachGroupKeepsRules stretch.plan (row.sighting ∷ sightings_in stretch)
      → AreInTurn stretch.plan (row.sighting ∷ sightings_in stretch)
      → ((limit : ℕ) → within ≡ Some limit → is_late_reply limit stretch.plan (watched_in stretch) row ≡ false) → ⊥

-- after the last row of a stretch, of this time, a request has waited for more than the limit: the first that has is named
pub record IsBrokenByWaiting (within : Option ℕ) (time : ℕ) (stretch : Stretch) (named : Row) : Type 0 where
  pub row : SeenRow
  pub before : List SeenRow
  pub are : stretch.rows ≡ row ∷ before
  pub now : row.time ≡ time
  pub limit : ℕ
  pub asked : within ≡ Some limit
  pub first : Waiting
  pub late : first_late limit time (waiting_in stretch.plan (watched_in stretch)) ≡ Some first
  pub is : IsNamedAs first named

-- the one or the other
abbrev pub IsBroken : Option ℕ → ℕ → Stretch → Option SeenRow → Row → Type 0
IsBroken within time stretch (Some row) named = (row.time ≡ time) × IsBrokenBy within stretch row named
IsBroken within time stretch None named = IsBrokenByWaiting within time stretch named

-- up to some row the rules are kept at each moment, and rows of earlier times are in time. With it they are not, and it is named;
-- or there is none more, and a request has waited for too long, which is named
pub record BreaksRules (plan : SystemPlan) (file : List SeenRow) (named : Row) : Type 0 where
  pub next : Option SeenRow
  pub time : ℕ
  pub after : List SeenRow
  pub before : List SeenRow
  pub crossing : IsCrossing file (after ++ (option_to_list next ++ before))
  pub course : Stretches plan before
  pub each : AllByRecursion StretchKeepsRules (stretches course)
  pub in_time : StretchesInTimeBefore time plan.within (stretches course)
  pub broken : IsBroken plan.within time course.now next named
  pub last : next ≡ None → after ≡ []

-- from a place on a text is a capture, its rows keep the rules, and so many they are; if it is asked, no request is left
pub record CaptureKeepsRules (asked : Bool) (plan : SystemPlan) (buses : LinkBuses) (from : TextPlace) (counts : VerdictCounts) : Type 0 where
  pub rows : List SeenRow
  pub is : IsCapture buses from rows
  pub keeps : FileKeepsRules plan rows
  pub counted : HasCounts plan rows counts
  pub complete : HasLeft asked plan rows None

-- from a place on a text is a capture, its rows keep the rules, and these requests are left at its end
pub record CaptureLeaves (asked : Bool) (plan : SystemPlan) (buses : LinkBuses) (from : TextPlace) (over : Left) : Type 0 where
  pub rows : List SeenRow
  pub is : IsCapture buses from rows
  pub keeps : FileKeepsRules plan rows
  pub left : HasLeft asked plan rows (Some over)

-- from a place on a text has the header and rows up to the end of some time, and they break the rules by this row
pub record CaptureBreaksRules (plan : SystemPlan) (buses : LinkBuses) (from : TextPlace) (found : Unlawful) : Type 0 where
  pub rows : List SeenRow
  pub place : TextPlace
  pub begins : Begins buses from rows place
  pub over : IsTimeOver buses rows place
  pub breaks : BreaksRules plan rows found.row
