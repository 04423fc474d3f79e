-- The rows of one time, in the order in which their beats cross. This project's own.
use Rattle.std.specs.Prelude.{◌≡◌, ℕ, ◌+◌, ◌*◌, ◌<◌, ◌≤◌, ⊤, true, false, Bool, List, [], ◌∷◌, All, Contains, drop, length, get_or, map}
use Rattle.std.specs.List.Sorted.{IsPermutation}
use Rattle.check_beats.specs.Bus.{bus_bytes}
use Rattle.check_beats.specs.declared.bus.TheConstants.{MAX_LANES}
use Rattle.tl_map.specs.declared.limits.TheConstants.{MAX_JUDGED_MASTERS, MAX_JUDGED_PORTS}
use Rattle.check_watch.specs.declared.beat.Beat.{Beat}
use Rattle.check_watch.specs.declared.beat.Beat.TheVariants.{A, D}
use Rattle.check_watch.specs.declared.beat.Link.{Link}
use Rattle.check_watch.specs.declared.beat.Link.TheVariants.{Master, Port}
use Rattle.check_rows.specs.declared.fault.RowFault.{RowFault}
use Rattle.check_rows.specs.declared.fault.RowFault.TheVariants as fault
use Rattle.check_rows.specs.Row.{SeenRow, seen_row}
use Rattle.check_rows.specs.declared.moment.Kept.{Kept}

-- a link that some system has
abbrev pub IsLink : Link → Type 0
IsLink (Master number) = number < MAX_JUDGED_MASTERS
IsLink (Port number) = number < MAX_JUDGED_PORTS

-- where a beat stands among those of one time: channel A of the masters' links, A of the ports', D of the ports', D of
-- the masters', each by rising number
abbrev pub place_at : Link → Beat → ℕ
place_at (Master number) (A beat) = number
place_at (Port number) (A beat) = MAX_JUDGED_MASTERS + number
place_at (Port number) (D beat) = MAX_JUDGED_MASTERS + MAX_JUDGED_PORTS + number
place_at (Master number) (D beat) = MAX_JUDGED_MASTERS + 2 * MAX_JUDGED_PORTS + number

-- the same of a row: a reset comes before all beats of its time
abbrev pub place_by : Bool → Link → Beat → ℕ
place_by true link beat = 0
place_by false link beat = place_at link beat + 1

-- where a row stands among those of one time: 0 for a reset, and from 1 on for beats.
abbrev pub place_of_row : SeenRow → ℕ
place_of_row row = place_by row.is_reset row.sighting.link row.sighting.beat

-- each row crosses after those before it, and the first stands at `low` or after it
unfoldable pub Cross : ℕ → List SeenRow → Type 0
Cross low [] = ⊤
Cross low (row ∷ more) = (low ≤ place_of_row row) × Cross (place_of_row row + 1) more

-- the rows of one time, so far
pub record Moment : Type 0 where
  pub time : ℕ
  pub rows : List SeenRow

-- they cross one after the other, each at that time
pub record IsMoment (moment : Moment) : Type 0 where
  pub in_order : Cross 0 moment.rows
  pub at_time : All (λ row. row.time ≡ moment.time) moment.rows
  pub links : All (λ row. IsLink row.sighting.link) moment.rows

-- a row of the moment is of the same channel of the same link
abbrev pub HasBeat : Moment → SeenRow → Type 0
HasBeat moment row = (other : SeenRow) × Contains moment.rows other × (place_of_row other ≡ place_of_row row)

-- why a row may not follow
abbrev pub HasFault : Moment → SeenRow → RowFault → Type 0
HasFault moment row fault.TimeFalls = row.time < moment.time
HasFault moment row fault.TwoBeats = (row.time ≡ moment.time) × HasBeat moment row
HasFault moment row fault.Cut = ⊥
HasFault moment row fault.Columns = ⊥
HasFault moment row fault.Number = ⊥
HasFault moment row fault.Range = ⊥
HasFault moment row fault.Link = ⊥
HasFault moment row fault.Channel = ⊥

-- the row is of this time, and what was the moment's rows is now them and this row
pub record Takes (moment : Moment) (row : SeenRow) (next : Moment) : Type 0 where
  pub now : row.time ≡ moment.time
  pub time : next.time ≡ moment.time
  pub rows : IsPermutation (row ∷ moment.rows) next.rows

-- the row is taken, or it is of a later time, and nothing is changed
abbrev pub Puts : Moment → SeenRow → Moment → Bool → Type 0
Puts moment row next true = Takes moment row next
Puts moment row next false = (moment.time < row.time) × (next ≡ moment)

-- ---- what is kept

-- a row that is kept, with its lanes, which begin at its place among those of the moment
abbrev pub kept_row : List ℕ → Kept → SeenRow
kept_row lanes kept = seen_row kept.row (drop kept.first lanes)

-- the rows that are kept of a time, each with its lanes, as a moment.
abbrev pub moment_of : ℕ → List Kept → List ℕ → Moment
moment_of time rows lanes = record { time = time; rows = map (kept_row lanes) rows }

-- the lanes of each row are kept, and there is room for those of the others that the moment can have
pub record AreLanesKept (time : ℕ) (rows : List Kept) (lanes : List ℕ) : Type 0 where
  pub moment : IsMoment (moment_of time rows lanes)
  pub inside : All (λ kept. kept.first + bus_bytes kept.row.bus ≤ length lanes) rows
  pub room : length lanes ≤ MAX_LANES * length rows

-- so many rows cross before a place, the others after it, and none there
pub record IsGap (rows : List SeenRow) (place i : ℕ) : Type 0 where
  pub inside : i ≤ length rows
  pub before : (k : ℕ) (row : SeenRow) → k + 1 ≡ i → place_of_row (get_or rows k row) < place
  pub behind : (row : SeenRow) → i < length rows → place < place_of_row (get_or rows i row)

-- where a row that is kept stands among those of one time.
abbrev pub kept_place : Kept → ℕ
kept_place kept = place_by kept.row.is_reset kept.row.link kept.row.beat

-- so many rows that are kept cross before a place, the others after it, and none there.
pub record IsKeptGap (rows : List Kept) (place i : ℕ) : Type 0 where
  pub inside : i ≤ length rows
  pub before : (k : ℕ) (kept : Kept) → k + 1 ≡ i → kept_place (get_or rows k kept) < place
  pub behind : (kept : Kept) → i < length rows → place < kept_place (get_or rows i kept)
