-- Which requests wait for their replies after some rows, and how long. Lists of rows have the latest first; they are rows of
-- links that are watched. This project's own: the standard sets no limit of time.
use Rattle.std.specs.Prelude.{ℕ, ◌+◌, ◌==◌, Bool, false, ◌&&◌, not, nat_lt, if◌then◌else◌, List, [], ◌∷◌, ◌++◌, filter, find, Option}
use Rattle.std.specs.List.{list_any}
use Rattle.check_watch.specs.declared.beat.Beat.{Beat}
use Rattle.check_watch.specs.declared.beat.Beat.TheVariants.{A, D}
use Rattle.check_sides.specs.Plan.{Plan}
use Rattle.check_rows.specs.Row.{SeenRow}
use Rattle.check_coverage.specs.Flights.{is_counted, wide_at}
use Rattle.check_review.specs.declared.waiting.Waiting.{Waiting}

-- the request is of this wide source
abbrev pub is_waiting_of : ℕ → Waiting → Bool
is_waiting_of wide waiting = waiting.wide == wide

-- the request that begins with a row
abbrev pub waiting_from : ℕ → SeenRow → Waiting
waiting_from wide row = record {
  wide = wide;
  line = row.line;
  time = row.time;
  link = row.sighting.link;
  beat = row.sighting.beat;
}

-- a beat of channel A begins a request if none of its source waits, and a beat of channel D is a reply to the one that does
abbrev pub waiting_after : ℕ → SeenRow → Beat → List Waiting → List Waiting
waiting_after wide row (A beat) requests =
    if list_any (is_waiting_of wide) requests then requests else requests ++ waiting_from wide row ∷ []
waiting_after wide row (D beat) requests = filter (λ waiting. not (is_waiting_of wide waiting)) requests

-- the requests that wait after some rows, the one that began first in front. A request waits from its first beat to the first
-- beat of its reply, where messages are counted
abbrev pub waiting_in : Plan → List SeenRow → List Waiting
waiting_in plan [] = []
waiting_in plan (row ∷ before) =
    if is_counted plan.layout.links row.sighting.link
    then waiting_after (wide_at plan row.sighting) row row.sighting.beat (waiting_in plan before)
    else waiting_in plan before

-- ---- how long

-- the request has waited for more than the limit by this time
abbrev pub is_late : ℕ → ℕ → Waiting → Bool
is_late limit time waiting = nat_lt (waiting.time + limit) time

-- the first of these, in the order in which they began, that has
abbrev pub first_late : ℕ → ℕ → List Waiting → Option Waiting
first_late limit time requests = find (is_late limit time) requests

-- a beat answers a request that has waited for more than the limit by this time
abbrev pub answers_late : ℕ → ℕ → ℕ → Beat → List Waiting → Bool
answers_late limit time wide (A beat) requests = false
answers_late limit time wide (D beat) requests =
    list_any (λ waiting. is_waiting_of wide waiting && is_late limit time waiting) requests

-- a row after these begins a late reply, where messages are counted
abbrev pub is_late_reply : ℕ → Plan → List SeenRow → SeenRow → Bool
is_late_reply limit plan before row =
    is_counted plan.layout.links row.sighting.link
    && answers_late limit row.time (wide_at plan row.sighting) row.sighting.beat (waiting_in plan before)

-- ---- what is kept

-- the longest time that a request may wait, and those that wait, the one that began first in front
pub record WaitsView : Type 0 where
  pub limit : ℕ
  pub requests : List Waiting
