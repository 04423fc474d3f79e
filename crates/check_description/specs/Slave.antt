-- The slave that a port is before any request. This project's own.
use Rattle.std.specs.Prelude.{ℕ, ◌^◌, Bool, true, not, ◌||◌, nat_lt, List, [], length, unwrap_or, Result}
use Rattle.tl_ops.specs.declared.kind.Kind.{Kind}
use Rattle.tl_ops.specs.declared.kind.Kind.TheVariants.{NoDevice}
use Rattle.tl_map.specs.declared.range.Range.{Range}
use Rattle.check_memory.specs.Partial.{Partial, loaded}
use Rattle.check_memory.specs.Place.{fill_of, tabulate}
use Rattle.tl_ops.specs.Support.{row_of_kind}
use Rattle.tl_ops.specs.declared.sizes.SizeTable.{SizeTable}
use Rattle.check_memory.specs.declared.slave.Slave.{Slave}
use Rattle.check_memory.specs.declared.slave.Slave.TheVariants as kept
use Rattle.check_flight.specs.PortSlave.{PortSlave, fresh_slave}
use Rattle.check_flight.specs.declared.order.Order.{Order}
use Rattle.tl_text.specs.Reading.{unless}
use Rattle.check_keys.specs.declared.fault.SystemFault.{SystemFault}
use Rattle.check_keys.specs.declared.fault.SystemFault.TheVariants.{ImageTooLong}
use Rattle.check_description.specs.Mirror.{mirrors_kept, ranges_kept}
use Rattle.check_description.specs.Port.{Port, may_answer_unknown}
use Rattle.check_description.specs.Ranges.{first_base, first_length}
use Rattle.check_description.specs.declared.kind.PortKind.{PortKind}
use Rattle.check_description.specs.declared.kind.PortKind.TheVariants.{Memory, Device}

-- the sizes that a memory of a kind supports at a port: the port's own, or else the kind's row
abbrev pub sizes_of_port : Kind → Port → SizeTable
sizes_of_port kind port = unwrap_or port.sizes (row_of_kind kind)

-- a memory of these ranges, the first of which is also seen from these addresses on, and of which no byte was given: all
-- are zero, or all are unknown. Those of the volatile ranges change by themselves
abbrev pub ungiven_memory : Kind → SizeTable → List Range → List ℕ → List Range → Bool → Partial
ungiven_memory kind sizes ranges mirrors volatile known = record {
  kind = kind;
  sizes = sizes;
  ranges = ranges;
  mirrors = mirrors;
  volatile = volatile;
  cells = tabulate (λ _. fill_of known) (2 ^ 64);
}

-- the memory of a port of which no byte was given, with the ranges, the sizes and the volatile bytes of the port.
abbrev pub blank_memory : Kind → Port → Partial
blank_memory kind port =
    ungiven_memory kind (sizes_of_port kind port) (ranges_kept port.mirror port.ranges)
    (mirrors_kept port.mirror port.ranges) port.volatile (not port.contents.unknown)

-- the memory of a port with the bytes of its image from the base of its first range on, and over them those of its reset
abbrev pub memory_at_reset : Kind → Port → List ℕ → Partial
memory_at_reset kind port image =
    let base = first_base port.ranges in
    loaded (loaded (blank_memory kind port) base image) base port.contents.reset

-- what a port of this kind keeps; a device keeps nothing
abbrev pub kept_by : PortKind → Port → List ℕ → Slave
kept_by (Memory kind) port image = kept.Memory (memory_at_reset kind port image)
kept_by Device port image = kept.Device

-- what a port keeps before any request, with these bytes of its image: a memory, or a device.
abbrev pub kept_at_reset : Port → List ℕ → Slave
kept_at_reset port image = kept_by port.kind port image

-- the slave of the port of this number, with these bytes of its image, whose requests take effect in this order; or that the
-- image is longer than the first range. Where data may be corrupt, lanes of each port's replies may be unknown
abbrev pub slave_at_reset : Bool → ℕ → Port → List ℕ → Order → Result PortSlave SystemFault
slave_at_reset corrupt number port image order =
    unless (nat_lt (first_length port.ranges) (length image)) (ImageTooLong number)
    (fresh_slave (kept_at_reset port image) order (corrupt || may_answer_unknown port))

-- a memory with no range, which denies each request
abbrev pub denying_slave : Slave
denying_slave = kept.Memory (ungiven_memory NoDevice (row_of_kind NoDevice) [] [] [] true)

-- the slave of the error port
abbrev pub error_slave : Bool → Order → PortSlave
error_slave corrupt order = fresh_slave denying_slave order corrupt
