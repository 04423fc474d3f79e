-- Which requests are in flight after some rows, and with which row each began. Lists of rows have the latest first; they
-- are rows of links that are watched. This project's own.
use Rattle.std.specs.Prelude.{◌≡◌, ◌⊎◌, ◌↔◌, ℕ, ◌≤◌, ◌%◌, ◌^◌, Bool, true, false, if◌then◌else◌, List, [], ◌∷◌, length, Contains, Option, Some, None}
use Rattle.std.specs.List.Sorted.{IsStrictlyIncreasing}
use Rattle.tl_map.specs.Owner.{IsWideSource}
use Rattle.check_watch.specs.Plan.{LinkSide}
use Rattle.check_flight.specs.Flight.{Turn}
use Rattle.check_flight.specs.Flight.Turn.{Idle, Asking, Asked}
use Rattle.check_watch.specs.Plan.LinkSide.{AtMasters, AtPorts}
use Rattle.check_watch.specs.Past.{state}
use Rattle.check_sides.specs.Groups.{shared_past}
use Rattle.check_sides.specs.Pending.{IsInFlightAt}
use Rattle.check_sides.specs.Plan.{Plan}
use Rattle.check_rows.specs.Row.{SeenRow, beats_of}
use Rattle.check_rows.specs.declared.request.Began.{Began}
use Rattle.check_rows.specs.declared.request.Left.{Left}

-- what is in flight of a wide source, on a side of the links that are judged together
abbrev pub turn_at : Plan → List SeenRow → LinkSide → ℕ → Turn
turn_at plan rows side wide =
    ((state plan (shared_past plan.layout (beats_of rows))).flights side wide).turn

-- nothing is in flight.
abbrev pub is_idle : Turn → Bool
is_idle Idle = true
is_idle (Asking number) = false
is_idle (Asked number ask) = false

-- how a request begins with a row, before which so many were judged
abbrev pub began_with : SeenRow → ℕ → Began
began_with row place = record { line = row.line; time = row.time; beat = row.sighting.beat; place = place }

-- how the request in flight of a wide source began: it is in flight after that row, and none was before it
abbrev pub began : Plan → List SeenRow → LinkSide → ℕ → Option Began
began plan [] side wide = None
began plan (row ∷ before) side wide =
    if is_idle (turn_at plan (row ∷ before) side wide) then None
    else if is_idle (turn_at plan before side wide) then Some (began_with row (length before % 2 ^ 64))
    else began plan before side wide

-- no request is in flight on a side
abbrev pub IsCompleteOn : Plan → List SeenRow → LinkSide → Type 0
IsCompleteOn plan rows side = (wide : ℕ) → IsInFlightAt plan (beats_of rows) side wide → ⊥

-- no request is in flight at the links that are judged together
abbrev pub IsComplete : Plan → List SeenRow → Type 0
IsComplete plan rows = (side : LinkSide) → IsCompleteOn plan rows side

-- so many requests are in flight on a side, and this is the one that began first, with its owner
pub record IsLeftOn (plan : Plan) (rows : List SeenRow) (side : LinkSide) (left : Left) : Type 0 where
  pub wides : List ℕ
  pub rising : IsStrictlyIncreasing wides
  pub are : (wide : ℕ) → Contains wides wide ↔ IsInFlightAt plan (beats_of rows) side wide
  pub count : left.requests ≡ length wides
  pub own : IsWideSource plan.layout.owners left.first.origin.master left.first.origin.source left.first.origin.wide
  pub is : began plan rows side left.first.origin.wide ≡ Some left.first.began
  pub oldest : (wide : ℕ) (other : Began) → began plan rows side wide ≡ Some other
      → left.first.began.place ≤ other.place

-- what is left when no more rows come: of the masters' links; if nothing is left there, of the ports'
abbrev pub IsLeft : Plan → List SeenRow → Left → Type 0
IsLeft plan rows left =
    IsLeftOn plan rows AtMasters left ⊎ (IsCompleteOn plan rows AtMasters × IsLeftOn plan rows AtPorts left)
