-- What a judge knows of a crossbar ahead: which links are watched, which sources the masters have, which port serves
-- which addresses, to which ports each master has a path, and which bus each link has. It is this project's own.
use Rattle.std.specs.Prelude.{◌≡◌, ◌↔◌, ℕ, ◌<◌, Bool, true, false, ◌&&◌, ◌==◌, not, max, if◌then◌else◌, nat_lt, slice_index_or, List, Option, length}
use Rattle.tl_map.specs.declared.range.Range.{Range}
use Rattle.tl_map.specs.Owner.{IsOf, IsOwned, IsWideSource}
use Rattle.tl_map.specs.Map.{RoutesBytes}
use Rattle.tl_map.specs.Owners.{AreLawfulOwners}
use Rattle.tl_map.specs.declared.owners.Owner.{Owner}
use Rattle.check_beats.specs.declared.bus.Bus.{Bus}
use Rattle.check_beats.specs.Rules.{decoded_size}
use Rattle.check_beats.specs.declared.rules.LinkRules.{LinkRules}
use Rattle.check_flight.specs.PortSlave.{PortSlave}
use Rattle.check_flight.specs.Side.{bus_at}
use Rattle.check_watch.specs.declared.beat.Beat.{Beat}
use Rattle.check_watch.specs.declared.beat.Beat.TheVariants.{A, D}
use Rattle.check_watch.specs.declared.beat.Link.{Link}
use Rattle.check_watch.specs.declared.beat.Link.TheVariants.{Master, Port}
use Rattle.check_watch.specs.declared.links.Links.{Links}
use Rattle.check_watch.specs.declared.links.Links.TheVariants.{Both, Masters, Ports, Each}
use Rattle.check_watch.specs.Fifos.{FifoFlags, is_fifo_by}
use Rattle.check_watch.specs.Paths.{has_path}

-- the links that are watched, for which ports messages are not compared across, at which links replies begin in the order
-- of their requests, what the system says of all links, the sources of each master, the ranges of each port, the ports to
-- which each master has a path, and the buses of the masters' links and of the ports' links
pub record Layout : Type 0 where
  pub links : Links
  pub apart : List Bool
  pub fifos : FifoFlags
  pub rules : LinkRules
  pub owners : List Owner
  pub ports : List (List Range)
  pub paths : List (Option (List Bool))
  pub master_buses : List Bus
  pub port_buses : List Bus

-- decoders find this port for requests at this address and of this size: as much of them as decoders look at is in one of
-- its ranges, or in none of any port's, and this is the error port
abbrev pub DecodesTo : Layout → ℕ → ℕ → ℕ → Type 0
DecodesTo layout address size port = RoutesBytes layout.ports address (decoded_size layout.rules size) port

-- the port to which a master's request goes if decoders find this one: the error port, if the master has no path to it
abbrev pub reached : Layout → ℕ → ℕ → ℕ
reached layout master found = if has_path layout.paths master found then found else length layout.ports

-- requests of a master at this address and of this size go to this port
pub record RoutesAt (layout : Layout) (master address size port : ℕ) : Type 0 where
  pub found : ℕ
  pub decodes : DecodesTo layout address size found
  pub reaches : reached layout master found ≡ port

-- the same of the master that has this wide source
pub record RoutesWide (layout : Layout) (wide address size port : ℕ) : Type 0 where
  pub master : ℕ
  pub owns : IsOf layout.owners master wide
  pub routes : RoutesAt layout master address size port

-- the slave of each port at reset, the error port's last; the slaves that ports' links have at reset where each is judged by
-- itself; and as functions the wide source of a master's source, and the port that decoders find for requests at an address
-- and of a size
pub record Plan : Type 0 where
  pub layout : Layout
  pub resets : List PortSlave
  pub own : List PortSlave
  pub wide : ℕ → ℕ → ℕ
  pub decode : ℕ → ℕ → ℕ

-- no two masters have a wide source in common, and the functions are those of the layout
pub record IsPlan (plan : Plan) : Type 0 where
  pub owners : AreLawfulOwners plan.layout.owners
  pub wide : (master source wide : ℕ) → IsWideSource plan.layout.owners master source wide → plan.wide master source ≡ wide
  pub decode : (address size port : ℕ) → (plan.decode address size ≡ port) ↔ DecodesTo plan.layout address size port

-- the port of a master's requests at an address and of a size
abbrev pub route_of : Plan → ℕ → ℕ → ℕ → ℕ
route_of plan master address size = reached plan.layout master (plan.decode address size)

-- ---- beats that were seen

-- a beat that crossed a link: the bits of its lanes that were known, and its lanes
pub record Sighting : Type 0 where
  pub link : Link
  pub beat : Beat
  pub known : ℕ
  pub lanes : List ℕ

-- the sighting of a beat at a link, with the bits of its lanes that were known, and its lanes.
abbrev pub seen_at : Link → Beat → ℕ → List ℕ → Sighting
seen_at link beat known lanes = record { link = link; beat = beat; known = known; lanes = lanes }

-- ---- sides and links

-- the two sides of a crossbar: the masters' links, and the ports' links.
pub data LinkSide : Type 0 where
  AtMasters : LinkSide
  AtPorts : LinkSide

-- the side of a link.
abbrev pub side_of : Link → LinkSide
side_of (Master m) = AtMasters
side_of (Port p) = AtPorts

-- the number of a link among those of its side: that of its master or of its port.
abbrev pub link_number : Link → ℕ
link_number (Master m) = m
link_number (Port p) = p

-- whether two sides are the same one.
abbrev pub same_side : LinkSide → LinkSide → Bool
same_side AtMasters AtMasters = true
same_side AtMasters AtPorts = false
same_side AtPorts AtMasters = false
same_side AtPorts AtPorts = true

-- the link is this one
abbrev pub is_link : Link → LinkSide → ℕ → Bool
is_link link side number = same_side (side_of link) side && (link_number link == number)

-- the system has the link
abbrev pub HasLink : Layout → Link → Type 0
HasLink layout (Master m) = m < length layout.owners
HasLink layout (Port p) = p < length layout.ports

-- the buses of all links of a side, by the numbers of the links.
abbrev pub buses_of : Layout → LinkSide → List Bus
buses_of layout AtMasters = layout.master_buses
buses_of layout AtPorts = layout.port_buses

-- how many bytes the bus of a link has
abbrev pub bus_of : Layout → Link → ℕ
bus_of layout link = bus_at (buses_of layout (side_of link)) (link_number link)

-- how many bytes the wider one has of the bus of a link and of that of a port's link
abbrev pub wider_bus : Layout → Link → ℕ → ℕ
wider_bus layout link port = max (bus_of layout link) (bus_at layout.port_buses port)

-- replies of this link begin in the order of their requests
abbrev pub is_fifo : Layout → Link → Bool
is_fifo layout link = is_fifo_by layout.fifos link

-- ---- sources

-- the source of a beat, as its link has it.
abbrev pub source_of : Beat → ℕ
source_of (A beat) = beat.source
source_of (D beat) = beat.source

-- the wide source of a source at a link
abbrev pub wide_of : Plan → Link → ℕ → ℕ
wide_of plan (Master m) source = plan.wide m source
wide_of plan (Port p) source = source

-- the same, if the link has the source: a master's link has those of the master, a port's link those of all masters
abbrev pub IsWideAt : Layout → Link → ℕ → ℕ → Type 0
IsWideAt layout (Master m) source wide = IsWideSource layout.owners m source wide
IsWideAt layout (Port p) source wide = (wide ≡ source) × IsOwned layout.owners source

-- the link has the source: some wide source is that of it.
abbrev pub HasSource : Layout → Link → ℕ → Type 0
HasSource layout link source = (wide : ℕ) × IsWideAt layout link source wide

-- the beat is one of this wide source on this side
abbrev pub is_of : Plan → Sighting → LinkSide → ℕ → Bool
is_of plan x side wide = same_side (side_of x.link) side && (wide_of plan x.link (source_of x.beat) == wide)

-- ---- ports

-- both sides are watched, and judged together
abbrev pub are_both : Links → Bool
are_both Both = true
are_both Masters = false
are_both Ports = false
are_both Each = false

-- the system takes the port out of this: its link is judged by itself
abbrev pub is_apart : Layout → ℕ → Bool
is_apart layout port = slice_index_or layout.apart port false

-- requests to this port may be compared across: the error port is inside the crossbar, and has no link of its own
abbrev pub may_cross : Layout → ℕ → Bool
may_cross layout port = nat_lt port (length layout.ports) && not (is_apart layout port)

-- requests to this port are seen on both sides, and compared
abbrev pub crosses_at_port : Layout → ℕ → Bool
crosses_at_port layout port = are_both layout.links && may_cross layout port

-- masters' links are among those that are judged together
abbrev pub AreMastersTogether : Links → Type 0
AreMastersTogether Both = Unit {0}
AreMastersTogether Masters = Unit {0}
AreMastersTogether Ports = ⊥
AreMastersTogether Each = Unit {0}

-- a port's link is, which the system takes out or not
abbrev pub IsPortTogether : Links → Bool → Type 0
IsPortTogether Both false = Unit {0}
IsPortTogether Both true = ⊥
IsPortTogether Masters apart = ⊥
IsPortTogether Ports apart = Unit {0}
IsPortTogether Each apart = ⊥

-- the link is one of those that are judged together
abbrev pub IsGroupLink : Layout → Link → Type 0
IsGroupLink layout (Master m) = AreMastersTogether layout.links
IsGroupLink layout (Port p) = IsPortTogether layout.links (is_apart layout p)
