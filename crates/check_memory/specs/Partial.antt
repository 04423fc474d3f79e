-- A port's memory as contracts see it: what it supports, where it answers, which of its bytes change by themselves, and
-- one byte for each address, known or unknown. What is legal there, what is seen, and what a request leaves.
use Rattle.std.specs.Prelude.{ℕ, ◌+◌, ◌-◌, ◌%◌, ◌^◌, ◌≤◌, Bool, false, ◌&&◌, ◌||◌, if◌then◌else◌, ◌==◌, nat_le, List, [], ◌∷◌, take, drop, slice_index_or, Option, None, All}
use Rattle.tl_types.specs.Operation.{carries_bytes}
use Rattle.tl_types.specs.Request.{Request}
use Rattle.tl_types.specs.declared.limits.TheConstants.{MAX_BYTES}
use Rattle.tl_ops.specs.declared.kind.Kind.{Kind}
use Rattle.tl_ops.specs.declared.sizes.SizeTable.{SizeTable}
use Rattle.tl_map.specs.declared.range.Range.{Range}
use Rattle.tl_ops.specs.Support.{allows}
use Rattle.check_memory.specs.Known.{known, replaced}
use Rattle.check_memory.specs.Cells.{new_cells, unknown_where, forgotten}

-- a port's memory: cell a is the byte at address a. Cells outside of the ranges are never answered and never changed. The
-- first range is also seen from each of the addresses `mirrors` on. The bytes of the volatile ranges change by themselves:
-- what stands in their cells is never looked at
pub record Partial : Type 0 where
  pub kind : Kind
  pub sizes : SizeTable
  pub ranges : List Range
  pub mirrors : List ℕ
  pub volatile : List Range
  pub cells : List (Option ℕ)

-- whether one of the ranges holds so many bytes from an address on
abbrev pub holds : List Range → ℕ → ℕ → Bool
holds [] address width = false
holds (range ∷ ranges) address width =
    (nat_le range.base address && nat_le (address + width) (range.base + range.length)) || holds ranges address width

-- ---- a memory that is seen at several places

-- the first of the ranges
abbrev pub first_of : List Range → Range
first_of ranges = slice_index_or ranges 0 (record { base = 0; length = 0 })

-- where so many bytes from an address on stand, of a range that is also seen from other addresses on: as far from its base
-- as they are from the one from which it holds them; or at that address, if it holds them from none
abbrev pub start_in : Range → List ℕ → ℕ → ℕ → ℕ
start_in range [] address width = address
start_in range (base ∷ bases) address width =
    if nat_le base address && nat_le (address + width) (base + range.length) then range.base + (address - base)
    else start_in range bases address width

-- where the bytes of a request's window stand
abbrev pub start_of : Partial → Request → ℕ
start_of memory ask = start_in (first_of memory.ranges) memory.mirrors ask.address (2 ^ ask.size)

-- the request, moved to there
abbrev pub placed : Partial → Request → Request
placed memory ask = record ask { address = start_of memory ask }

-- where the byte stands that is sent at an address
abbrev pub place_of_byte : Partial → ℕ → ℕ
place_of_byte memory address = start_in (first_of memory.ranges) memory.mirrors address 1

-- ---- requests

-- whether a request is legal: supported, aligned as the standard has it, and in one range. It is the address that was
-- sent which has to be aligned, and not the place where the window stands.
abbrev pub permits : Partial → Request → Bool
permits memory ask =
    allows memory.sizes ask.op ask.size
    && (ask.address % 2 ^ ask.size == 0)
    && holds memory.ranges (start_of memory ask) (2 ^ ask.size)

-- whether a memory takes the bytes of a request: the request is legal and carries some
abbrev pub takes_bytes : Partial → Request → Bool
takes_bytes memory ask = permits memory ask && carries_bytes ask.op

-- whether the byte at an address changes by itself
abbrev pub is_volatile : Partial → ℕ → Bool
is_volatile memory address = holds memory.volatile address 1

-- the cells as they are seen: those of bytes that change by themselves are unknown
abbrev pub visible : Partial → List (Option ℕ)
visible memory = unknown_where (is_volatile memory) memory.cells

-- what is seen of the byte that is sent at an address
abbrev pub byte_seen : Partial → ℕ → Option ℕ
byte_seen memory address = slice_index_or (visible memory) (place_of_byte memory address) None

-- what is seen of a request's window
abbrev pub window_of : Partial → Request → List (Option ℕ)
window_of memory ask = take (2 ^ ask.size) (drop (start_of memory ask) (visible memory))

-- the memory after a request, which makes of its window what it sees there
abbrev pub after_partial : Partial → Request → Partial
after_partial memory ask = record memory {
  cells =
      if takes_bytes memory ask then
      replaced memory.cells (start_of memory ask) (new_cells memory.kind ask.op (window_of memory ask) ask.bytes)
      else memory.cells;
}

-- the first address of the block that holds an address: blocks are as long as the largest message. That is 256 bytes.
abbrev pub block_of : ℕ → ℕ
block_of address = address - address % MAX_BYTES

-- the memory after a request, of which each byte that is flagged, from an address on, is then unknown; where the memory
-- takes no bytes, it forgets none
abbrev pub after_forgetting : Partial → Request → ℕ → List Bool → Partial
after_forgetting memory ask first flags =
    if takes_bytes memory ask then
    record (after_partial memory ask) { cells = forgotten flags first (after_partial memory ask).cells }
    else after_partial memory ask

-- the memory with these bytes from an address on
abbrev pub loaded : Partial → ℕ → List ℕ → Partial
loaded memory address bytes = record memory { cells = replaced memory.cells address (known bytes) }

-- the ranges end where the cells do, or below
abbrev pub AreWithin : List Range → ℕ → Type 0
AreWithin ranges count = All (λ (range : Range). range.base + range.length ≤ count) ranges
