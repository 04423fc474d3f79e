-- The numbers of sources at the links of ports that list masters. This project's own.
use Rattle.std.specs.Prelude.{ℕ, Bool, if◌then◌else◌, List, map, Option, None, option_map, slice_get}
use Rattle.std.specs.List.{filter_map, zip}
use Rattle.tl_map.specs.declared.owners.Owner.{Owner}
use Rattle.check_turns.specs.View.{is_port_alone}
use Rattle.check_watch.specs.declared.links.Links.{Links}
use Rattle.check_rows.specs.PortNumbers.{PortNumbers}
use Rattle.check_rows.specs.declared.port_numbers.SourcePlace.{SourcePlace}
use Rattle.check_description.specs.Description.{Description}
use Rattle.check_description.specs.Port.{apart_of}
use Rattle.check_description.specs.declared.placed.PlacedMaster.{PlacedMaster}

-- the sources of a master that a port lists, at the port's link and in the system, in which masters have these
abbrev pub place_of : List Owner → PlacedMaster → Option SourcePlace
place_of owners placed = option_map
    (λ there. record {
      here = record { first = placed.first; count = there.count; stride = placed.stride };
      there = there;
    }) (slice_get owners placed.master)

-- the numbers at the link of a port that lists these masters
abbrev pub port_numbers : List Owner → ℕ → List PlacedMaster → PortNumbers
port_numbers owners nobody placed = record { places = filter_map (place_of owners) placed; nobody = nobody }

-- those of a port, if it lists masters. A link that is judged by itself has sources of its own: of such a port there are none
abbrev pub numbers_there : Links → List Owner → ℕ → (Bool × Option (List PlacedMaster)) → Option PortNumbers
numbers_there links owners nobody port =
    if is_port_alone links port.0 then None else option_map (port_numbers owners nobody) port.1

-- those of each port
abbrev pub numbers_by : Links → List Owner → ℕ → List Bool → List (Option (List PlacedMaster)) → List (Option PortNumbers)
numbers_by links owners nobody apart lists = map (numbers_there links owners nobody) (zip apart lists)

-- the numbers of sources at each port's link of a system
abbrev pub numbers_of : Links → Description → List (Option PortNumbers)
numbers_of links system = numbers_by links system.owners system.nobody (apart_of system.ports) system.lists
