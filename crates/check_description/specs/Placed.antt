-- The masters that reach a port which lists them, their sources at its link, and the ports to which each master has a path. The
-- standard leaves sources and paths to the system. This project's own.
use Rattle.std.specs.Prelude.{ℕ, ◌+◌, ◌==◌, ◌&&◌, ◌||◌, Bool, true, false, not, List, [], ◌∷◌, length, map, Option, None, Some, is_some, option_map, Result, Ok, if◌then◌else◌, ok_or, slice_index_or, Vec}
use Rattle.std.specs.Global.{Global}
use Rattle.std.specs.List.{list_any}
use Rattle.tl_text.specs.Reading.{◌>>=◌, each, if_any, unless}
use Rattle.check_keys.specs.declared.fault.Key.{Key}
use Rattle.check_keys.specs.declared.fault.Key.TheVariants.{Reach}
use Rattle.check_keys.specs.declared.fault.SystemFault.{SystemFault}
use Rattle.check_keys.specs.declared.fault.SystemFault.TheVariants.{OutOfRange}
use Rattle.check_description.specs.Called.{said_by}
use Rattle.check_description.specs.Listed.{ListedMaster, ListedMasters}
use Rattle.check_description.specs.Master.{Master}
use Rattle.check_description.specs.Port.{Port}
use Rattle.check_description.specs.Reach.{are_distinct}
use Rattle.check_description.specs.declared.placed.PlacedMaster.{PlacedMaster}

-- ---- lists

-- the master that a list says, among masters with these names
unfoldable pub placed_by : List (Option (List ℕ)) → Key → ListedMaster → Result PlacedMaster SystemFault
placed_by names key listed = do
  master ← ok_or (said_by names listed.master) (OutOfRange key)
  Ok (record { master = master; first = listed.first; stride = listed.stride })

-- the numbers of masters
abbrev pub master_numbers : List PlacedMaster → List ℕ
master_numbers placed = map (λ (one : PlacedMaster). one.master) placed

-- the masters that a port lists, each of them another one
unfoldable pub placed_in : List (Option (List ℕ)) → ListedMasters → Result (List PlacedMaster) SystemFault
placed_in names list = do
  placed ← each (placed_by names list.key) list.masters
  unless (not (are_distinct (length names) (master_numbers placed))) (OutOfRange list.key) placed

-- the masters that a port lists, by their numbers; none if it lists none.
abbrev pub placed_at : List (Option (List ℕ)) → Port → Result (Option (List PlacedMaster)) SystemFault
placed_at names port = if_any (placed_in names) port.listed

-- those of each port that lists any
abbrev pub placed_of : List (Option (List ℕ)) → List Port → Result (List (Option (List PlacedMaster))) SystemFault
placed_of names ports = each (placed_at names) ports

-- the name of each master that has one
abbrev pub names_of_masters : List Master → List (Option (List ℕ))
names_of_masters masters = map (λ (master : Master). master.name) masters

-- ---- paths

-- a master is one of those that a port lists
abbrev pub is_listed : ℕ → List PlacedMaster → Bool
is_listed master placed = list_any (λ (one : PlacedMaster). one.master == master) placed

-- a master has a path to a port: it is one of those that the port lists; or the port lists none, and the master's own words say so
abbrev pub has_path_by : ℕ → Bool → Option (List PlacedMaster) → Bool
has_path_by master said None = said
has_path_by master said (Some placed) = is_listed master placed

-- what a master says itself of the port of a number; if it says nothing, it has a path to each
abbrev pub said_at : Option (List Bool) → ℕ → Bool
said_at None port = true
said_at (Some flags) port = slice_index_or flags port false

-- the same of the port of a number, which lists these masters or none
abbrev pub path_at : ℕ → Option (List Bool) → ℕ → Option (List PlacedMaster) → Bool
path_at master said port list = has_path_by master (said_at said port) list

-- for each port whether a master has a path to it; the first of the ports has this number
abbrev pub flags_from : ℕ → ℕ → Option (List Bool) → List (Option (List PlacedMaster)) → List Bool
flags_from port master said [] = []
flags_from port master said (list ∷ lists) = path_at master said port list ∷ flags_from (port + 1) master said lists

-- one of two flags is set, and the other one is not.
abbrev pub differ : Bool → Bool → Bool
differ one other = (one && not other) || (not one && other)

-- what a master says itself is not what ports list, of which the first has this number
abbrev pub contradicts_from : ℕ → ℕ → Option (List Bool) → List (Option (List PlacedMaster)) → Bool
contradicts_from port master said [] = false
contradicts_from port master said (list ∷ lists) =
    differ (path_at master said port list) (said_at said port) || contradicts_from (port + 1) master said lists

-- the paths of a master: to all ports if neither it nor any port says something else
abbrev pub paths_by : List (Option (List PlacedMaster)) → ℕ → Option (List Bool) → Option (List Bool)
paths_by lists master None = if list_any is_some lists then Some (flags_from 0 master None lists) else None
paths_by lists master (Some flags) = Some flags

-- the paths of a master with this number; its own words have to be what the ports list.
unfoldable pub paths_at : List (Option (List PlacedMaster)) → ℕ → Option (List Bool) → Result (Option (List Bool)) SystemFault
paths_at lists master said = unless (is_some said && contradicts_from 0 master said lists) (OutOfRange Reach) (paths_by lists master said)

-- those of masters, of which the first has this number
abbrev pub paths_from : List (Option (List PlacedMaster)) → ℕ → List Master → Result (List (Option (List Bool))) SystemFault
paths_from lists number [] = Ok []
paths_from lists number (master ∷ masters) =
    paths_at lists number master.reach
    >>= (λ paths. paths_from lists (number + 1) masters >>= (λ rest. Ok (paths ∷ rest)))

-- ---- what contracts see

-- what contracts see of the masters that each port lists.
abbrev pub lists_view : Vec (Option (Vec PlacedMaster Global)) Global → List (Option (List PlacedMaster))
lists_view lists = map (option_map (λ placed. placed.items)) lists.items

-- what contracts see of the paths of each master.
abbrev pub paths_view : Vec (Option (Vec Bool Global)) Global → List (Option (List Bool))
paths_view paths = map (option_map (λ flags. flags.items)) paths.items
