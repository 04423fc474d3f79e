-- Which bytes a request may write, and which bytes two requests leave unknown whose order nobody knows. What a request
-- writes is the chapter "TL-UL and TL-UH operations" of the TileLink specification; what is unknown then is this
-- project's own.
use Rattle.std.specs.Prelude.{◌≡◌, ℕ, ◌+◌, ◌-◌, ◌^◌, ◌≤◌, Bool, true, false, ◌&&◌, ◌||◌, nat_le, nat_lt, None, is_some, slice_index_or}
use Rattle.std.specs.List.{list_any, range_with_len}
use Rattle.tl_types.specs.Request.{Request}
use Rattle.tl_types.specs.declared.limits.TheConstants.{MAX_BYTES}
use Rattle.tl_types.specs.declared.operation.AskOp.{AskOp}
use Rattle.tl_types.specs.declared.operation.AskOp.TheVariants.{PutFull, PutPartial, Arithmetic, Logical, Get, Intent}
use Rattle.check_memory.specs.Cells.{is_atomic}
pub use Rattle.check_memory.specs.Cells.{unknown_where}
use Rattle.check_memory.specs.Partial.{Partial, start_of, placed, permits}

-- ---- one request

-- whether an address is one of a request's window
abbrev pub in_window : Request → ℕ → Bool
in_window ask address = nat_le ask.address address && nat_lt address (ask.address + 2 ^ ask.size)

-- whether a request has a byte for an address
abbrev pub gives : Request → ℕ → Bool
gives ask address = in_window ask address && is_some (slice_index_or ask.bytes (address - ask.address) None)

-- whether a request of this operation writes at an address if it is legal: a put if it gives a byte there, and an atomic
-- in all of its window
abbrev pub writes : AskOp → Request → ℕ → Bool
writes PutFull ask address = gives ask address
writes PutPartial ask address = gives ask address
writes (Arithmetic _) ask address = in_window ask address
writes (Logical _) ask address = in_window ask address
writes Get ask address = false
writes (Intent _) ask address = false

-- whether a request may write a byte of a memory, which is the one where its window stands
abbrev pub may_write : Partial → Request → ℕ → Bool
may_write memory ask address = permits memory ask && writes ask.op (placed memory ask) address

-- the same of an atomic alone
abbrev pub combines : Partial → Request → ℕ → Bool
combines memory ask address = is_atomic ask.op && may_write memory ask address

-- ---- two requests

-- whether two requests meet: there is a byte that both may write
abbrev pub meets : Partial → Request → Request → Bool
meets memory ask other =
    list_any (λ address. may_write memory ask address && may_write memory other address)
    (range_with_len (start_of memory ask) (2 ^ ask.size))

-- whether two requests leave a byte unknown, since nobody knows which takes effect first: they meet, and both may write
-- it, or an atomic of them may
abbrev pub leave_unknown : Partial → Request → Request → ℕ → Bool
leave_unknown memory ask other address =
    meets memory ask other
    && ((may_write memory ask address && may_write memory other address)
    || combines memory ask address || combines memory other address)

-- ---- how far requests that meet stand from one another

-- the window of a request lies in so many bytes from an address on
pub record LiesIn (ask : Request) (first count : ℕ) : Type 0 where
  pub from : first ≤ ask.address
  pub to : ask.address + 2 ^ ask.size ≤ first + count

-- two requests have a byte of a memory in common
abbrev pub Share : Partial → Request → Request → Type 0
Share memory ask other =
    (address : ℕ)
    × (in_window (placed memory ask) address ≡ true)
    × (in_window (placed memory other) address ≡ true)

-- in so many bytes from an address on lie the window of a request, and that of each other one that messages may carry and
-- that has a byte in common with it. In a memory that is seen in one place that is so of the block of 256 bytes that has
-- the window, and else of 768 bytes near the window.
pub record Reaches (memory : Partial) (ask : Request) (first count : ℕ) : Type 0 where
  pub own : LiesIn (placed memory ask) first count
  pub others : (other : Request) → permits memory other ≡ true → 2 ^ other.size ≤ MAX_BYTES
      → start_of memory other + 2 ^ other.size ≤ 2 ^ 64 → Share memory ask other
      → LiesIn (placed memory other) first count
