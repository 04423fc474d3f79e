-- The rows of a capture in the order in which their beats cross. Lists of what crossed have the latest first. This
-- project's own.
use Rattle.std.specs.Prelude.{◌≡◌, ◌<◌, ◌⊎◌, Bool, true, false, ◌&&◌, nat_lt, List, [], ◌∷◌, map, filter, length, All, Contains}
use Rattle.std.specs.List.{AllByRecursion}
use Rattle.std.specs.List.Sorted.{IsPermutation, IsNonDecreasingBy}
use Rattle.check_watch.specs.declared.beat.Link.{Link}
use Rattle.check_watch.specs.declared.beat.Link.TheVariants.{Master, Port}
use Rattle.check_watch.specs.Plan.{Sighting}
use Rattle.check_watch.specs.declared.links.Links.{Links}
use Rattle.check_watch.specs.declared.links.Links.TheVariants.{Both, Masters, Ports, Each}
use Rattle.check_sides.specs.Plan.{Layout}
use Rattle.check_rows.specs.Moment.{place_of_row}
use Rattle.check_rows.specs.declared.fault.RowFault.{RowFault}
use Rattle.check_rows.specs.declared.fault.RowFault.TheVariants as fault
use Rattle.check_rows.specs.Row.{SeenRow}

-- one row's beat crosses before another's: by time, and at one time by place
abbrev pub CrossesBefore : SeenRow → SeenRow → Type 0
CrossesBefore one other = (one.time < other.time) ⊎ ((one.time ≡ other.time) × (place_of_row one < place_of_row other))

-- each row crosses after all those that follow it in the list
abbrev pub AreInOrder : List SeenRow → Type 0
AreInOrder [] = Unit {0}
AreInOrder (row ∷ before) = AllByRecursion (λ earlier. CrossesBefore earlier row) before × AreInOrder before

-- these are the rows of a file, in the order in which their beats cross. There is at most one such list.
pub record IsCrossing (file crossed : List SeenRow) : Type 0 where
  pub same : IsPermutation file crossed
  pub in_order : AreInOrder crossed

-- ---- the file, its rows in the order in which they stand there

-- times never fall
abbrev pub NeverFalls : List SeenRow → Type 0
NeverFalls file = IsNonDecreasingBy (λ row. row.time) file

-- why a row may not follow these
abbrev pub HasRowFault : List SeenRow → SeenRow → RowFault → Type 0
HasRowFault file row fault.TimeFalls = (other : SeenRow) × Contains file other × (row.time < other.time)
HasRowFault file row fault.TwoBeats =
    (other : SeenRow) × Contains file other × (other.time ≡ row.time) × (place_of_row other ≡ place_of_row row)
HasRowFault file row fault.Cut = ⊥
HasRowFault file row fault.Columns = ⊥
HasRowFault file row fault.Number = ⊥
HasRowFault file row fault.Range = ⊥
HasRowFault file row fault.Link = ⊥
HasRowFault file row fault.Channel = ⊥

-- the row is of a later time than all of these
abbrev pub IsLater : List SeenRow → SeenRow → Type 0
IsLater file row = All (λ other. other.time < row.time) file

-- ---- what is seen of them

-- the masters' links are watched
abbrev pub are_masters_watched : Links → Bool
are_masters_watched Both = true
are_masters_watched Masters = true
are_masters_watched Ports = false
are_masters_watched Each = true

-- the ports' links are watched
abbrev pub are_ports_watched : Links → Bool
are_ports_watched Both = true
are_ports_watched Masters = false
are_ports_watched Ports = true
are_ports_watched Each = true

-- the system has the link, and it is watched
abbrev pub is_watched : Layout → Link → Bool
is_watched layout (Master m) = are_masters_watched layout.links && nat_lt m (length layout.owners)
is_watched layout (Port p) = are_ports_watched layout.links && nat_lt p (length layout.ports)

-- the rows at links that are watched
abbrev pub watched : Layout → List SeenRow → List SeenRow
watched layout crossed = filter (λ row. is_watched layout row.sighting.link) crossed

-- their sightings
abbrev pub sightings_of : Layout → List SeenRow → List Sighting
sightings_of layout crossed = map (λ row. row.sighting) (watched layout crossed)
