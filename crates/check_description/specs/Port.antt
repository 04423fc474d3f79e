-- The ports of a system file. This project's own.
use Rattle.std.specs.Prelude.{ℕ, Bool, true, false, ◌||◌, not, ◌==◌, List, [], length, map, Option, None, Some, option_map, string_bytes, Result, Ok}
use Rattle.toml.specs.Data.{Data, Members, get_member}
use Rattle.tl_map.specs.declared.range.Range.{Range}
use Rattle.tl_map.specs.declared.limits.TheConstants.{MAX_JUDGED_PORTS}
use Rattle.check_beats.specs.declared.bus.Bus.{Bus}
use Rattle.tl_ops.specs.declared.sizes.SizeTable.{SizeTable}
use Rattle.check_keys.specs.Bus.{bus_in_table}
use Rattle.check_keys.specs.Key.{key_name}
use Rattle.check_keys.specs.Name.{name_at}
use Rattle.tl_text.specs.Reading.{◌>>=◌, each}
use Rattle.check_keys.specs.Value.{flag_at, tables_of, up_to}
use Rattle.check_keys.specs.declared.fault.Key.TheVariants.{Fifo, Port as PortKey}
use Rattle.check_keys.specs.declared.fault.SystemFault.{SystemFault}
use Rattle.check_description.specs.Contents.{Contents, contents_at}
use Rattle.check_description.specs.Crossing.{is_apart_by, port_crossing_at}
use Rattle.check_description.specs.Kind.{kind_at}
use Rattle.check_description.specs.Listed.{ListedMasters, list_view, listed_at}
use Rattle.check_description.specs.Mirror.{mirror_at}
use Rattle.check_description.specs.OnReset.{on_reset_at}
use Rattle.check_description.specs.Order.{orders_at}
use Rattle.check_description.specs.Ranges.{first_length, ranges_at}
use Rattle.check_description.specs.Sizes.{sizes_at}
use Rattle.check_description.specs.Volatile.{volatile_at}
use Rattle.check_description.specs.declared.crossing.PortCrossing.{PortCrossing}
use Rattle.check_description.specs.declared.kind.PortKind.{PortKind}
use Rattle.check_description.specs.declared.on_reset.OnReset.{OnReset}
use Rattle.check_description.specs.declared.on_reset.OnReset.TheVariants.{Never, Keep, Load}
use Rattle.check_description.specs.declared.port.Contents as code_contents
use Rattle.check_description.specs.declared.port.Port as code_port
use Rattle.check_description.specs.declared.port.PortOrders.{PortOrders}

-- a slave port: its name, what stands there, where its bytes are, what it holds before any request, the sizes that it
-- supports, when its requests take effect, its data bus, whether its ranges are one memory, the addresses of the bytes
-- that change by themselves, what a reset of the whole system does to its bytes, the masters that it lists, what is compared
-- of messages to it, and whether replies at its link come in order. No sizes are those of its kind; no order on a side is the command line's
pub record Port : Type 0 where
  pub name : Option (List ℕ)
  pub kind : PortKind
  pub ranges : List Range
  pub contents : Contents
  pub sizes : Option SizeTable
  pub orders : PortOrders
  pub bus : Bus
  pub mirror : Bool
  pub volatile : List Range
  pub on_reset : OnReset
  pub listed : Option ListedMasters
  pub crossing : PortCrossing
  pub fifo : Bool

-- resets leave its bytes, but for those that requests may write which a reset cuts short: nobody knows these afterwards
abbrev pub keeps_bytes : OnReset → Bool
keeps_bytes Never = false
keeps_bytes Keep = true
keeps_bytes Load = false

-- lanes of its replies may be unknown: its bytes may be, or some change by themselves, or it keeps them over resets
abbrev pub may_answer_unknown : Port → Bool
may_answer_unknown port = (port.contents.unknown || not (length port.volatile == 0)) || keeps_bytes port.on_reset

-- the port that a table describes, by its keys in the order in which they are looked at; without a bus of its own it has
-- that of the system, and in a system without resets none is a reset of it
unfoldable pub port_of : Bus → Bool → Members → Result Port SystemFault
port_of bus resets members = do
  name ← name_at members
  kind ← kind_at members
  ranges ← ranges_at members
  contents ← contents_at (first_length ranges) members
  sizes ← sizes_at members
  orders ← orders_at members
  own ← bus_in_table bus members
  mirror ← mirror_at ranges members
  volatile ← volatile_at ranges members
  on_reset ← on_reset_at resets kind members
  listed ← listed_at members
  crossing ← port_crossing_at members
  fifo ← flag_at Fifo members
  Ok (record {
    name = name;
    kind = kind;
    ranges = ranges;
    contents = contents;
    sizes = sizes;
    orders = orders;
    bus = own;
    mirror = mirror;
    volatile = volatile;
    on_reset = on_reset;
    listed = listed;
    crossing = crossing;
    fifo = fifo;
  })

-- the tables in a value, which may not be there
abbrev pub tables_by : Option Data → Result (List Members) SystemFault
tables_by None = Ok []
tables_by (Some value) = tables_of PortKey value >>= up_to PortKey MAX_JUDGED_PORTS

-- the tables of the ports, of which there may be none. There are at most 255.
unfoldable pub port_tables : Members → Result (List Members) SystemFault
port_tables members = tables_by (get_member (key_name PortKey) members)

-- the ports of a file, in order
unfoldable pub ports_of : Bus → Bool → Members → Result (List Port) SystemFault
ports_of bus resets members = port_tables members >>= each (port_of bus resets)

-- the name of each port that has one
abbrev pub names_of_ports : List Port → List (Option (List ℕ))
names_of_ports ports = map (λ (port : Port). port.name) ports

-- of each port, whether its link is judged by itself if both sides are watched
abbrev pub apart_of : List Port → List Bool
apart_of ports = map (λ (port : Port). is_apart_by port.crossing) ports

-- of each port, whether replies at its link come in order
abbrev pub port_fifos : List Port → List Bool
port_fifos ports = map (λ (port : Port). port.fifo) ports

-- ---- what contracts see

-- what contracts see of what a port holds before any request.
abbrev pub contents_view : code_contents.Contents → Contents
contents_view contents = record {
  reset = contents.reset.items;
  image = option_map string_bytes contents.image;
  unknown = contents.unknown;
}

-- what contracts see of a port.
abbrev pub port_view : code_port.Port → Port
port_view port = record {
  name = option_map string_bytes port.name;
  kind = port.kind;
  ranges = port.ranges.items;
  contents = contents_view port.contents;
  sizes = port.sizes;
  orders = port.orders;
  bus = port.bus;
  mirror = port.mirror;
  volatile = port.volatile.items;
  on_reset = port.on_reset;
  listed = option_map list_view port.listed;
  crossing = port.crossing;
  fifo = port.fifo;
}
