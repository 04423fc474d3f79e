-- The laws of ports, said on their own.
use Rattle.std.specs.Prelude.{◌≡◌, ℕ, ◌+◌, ◌-◌, ◌^◌, ◌≤◌, Bool, false, List, [], ◌∷◌, ◌++◌, length, drop, replicate, None}
use Rattle.tl_map.specs.declared.range.Range.{Range}
use Rattle.tl_ops.specs.Store.{Store}
use Rattle.tl_ops.specs.declared.kind.Kind.{Kind}
use Rattle.check_memory.specs.Known.{known}
use Rattle.check_memory.specs.Laws.{one_range}
use Rattle.check_memory.specs.declared.slave.Slave.TheVariants as kept
use Rattle.check_flight.specs.Laws.{IsWholeMemory}
use Rattle.check_flight.specs.declared.order.Order.{Order}
use Rattle.check_description.specs.Port.{Port}
use Rattle.check_description.specs.Ranges.{AreRangesOfPort, first_length}
use Rattle.check_description.specs.Slave.{error_slave, kept_at_reset}
use Rattle.check_description.specs.declared.kind.PortKind.TheVariants.{Memory}

-- ---- a port that is wholly known at reset

-- the bytes with these in place of the first of them
abbrev pub put_over : List ℕ → List ℕ → List ℕ
put_over front bytes = front ++ drop (length front) bytes

-- the store of a port: zeros, the bytes of its image over them, and those of its reset over these
abbrev pub store_at_reset : Kind → Range → Port → List ℕ → Store
store_at_reset kind range port image = record {
  kind = kind;
  base = range.base;
  bytes = put_over port.contents.reset (put_over image (replicate range.length 0));
}

-- the port is a memory of this kind and of this range, with the sizes of its kind; no byte of it is unknown, and none
-- changes by itself
pub record IsPlainMemory (kind : Kind) (range : Range) (port : Port) : Type 0 where
  pub kind_is : port.kind ≡ Memory kind
  pub ranges_are : port.ranges ≡ range ∷ []
  pub sizes_are : port.sizes ≡ None
  pub known : port.contents.unknown ≡ false
  pub still : port.volatile ≡ []

-- the range ends in the address space, and what is put there fits in it
pub record FitsIn (range : Range) (reset image : List ℕ) : Type 0 where
  pub in_space : range.base + range.length ≤ 2 ^ 64
  pub reset_fits : length reset ≤ range.length
  pub image_fits : length image ≤ range.length

-- such a port keeps its store, with zeros at all other addresses. What a memory of one range answers and becomes is what
-- its store does (`StoreIsInstance` of `check_memory`)
abbrev pub KeepsItsStore : Type 0
KeepsItsStore =
    (kind : Kind) (range : Range) (port : Port) (image : List ℕ) → IsPlainMemory kind range port
    → FitsIn range port.contents.reset image
    → let store = store_at_reset kind range port image in
    let beyond = replicate (2 ^ 64 - (range.base + range.length)) 0 in
    kept_at_reset port image
    ≡ kept.Memory (one_range store (known (replicate range.base 0 ++ (store.bytes ++ beyond))))

-- ---- ports that answer no unknown byte

-- the port is a memory of this kind of which no byte is unknown and none changes by itself, and what is put there fits in
-- its first range
pub record IsKnownMemory (kind : Kind) (port : Port) (image : List ℕ) : Type 0 where
  pub kind_is : port.kind ≡ Memory kind
  pub known : port.contents.unknown ≡ false
  pub still : port.volatile ≡ []
  pub lawful : AreRangesOfPort port.ranges
  pub reset_fits : length port.contents.reset ≤ first_length port.ranges
  pub image_fits : length image ≤ first_length port.ranges

-- all bytes of such a port are known before any request, in whatever ranges; and afterwards they stay so
-- (`WholeSlaveStaysWhole` of `check_flight`)
abbrev pub KnownPortIsWhole : Type 0
KnownPortIsWhole =
    (kind : Kind) (port : Port) (image : List ℕ) → IsKnownMemory kind port image
    → IsWholeMemory (kept_at_reset port image)

-- the same of the error port
abbrev pub ErrorPortIsWhole : Type 0
ErrorPortIsWhole = (corrupt : Bool) (order : Order) → IsWholeMemory (error_slave corrupt order).kept
