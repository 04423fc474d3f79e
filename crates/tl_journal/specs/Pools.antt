-- How the bytes of messages are kept: those of one after those of the other in pools, those of partial puts, which may
-- leave some unset, in one of their own. This project's own.
use Rattle.std.specs.Prelude.{◌≡◌, ℕ, ◌+◌, ◌≤◌, ◌++◌, Bool, true, false, List, length, map, take, drop, Option, Some}
use Rattle.tl_types.specs.Bytes.{plain_of}
use Rattle.tl_types.specs.Operation.{byte_count, may_leave_unset}
use Rattle.tl_types.specs.Request.{IsLawfulRequest}
use Rattle.tl_types.specs.declared.operation.AskOp.{AskOp}

-- the bytes of all messages but partial puts, each of which is given; those of partial puts; and how many of each there
-- is room for in all
pub record PoolsView : Type 0 where
  pub whole : List ℕ
  pub partial : List (Option ℕ)
  pub whole_room : ℕ
  pub partial_room : ℕ

-- so many bytes from a place on of those that are all given
abbrev pub plain_in : PoolsView → ℕ → ℕ → List ℕ
plain_in pools start count = take count (drop start pools.whole)

-- so many bytes from a place on of the pool of partial puts, or of the pool of all others
abbrev pub bytes_in_pool : PoolsView → Bool → ℕ → ℕ → List (Option ℕ)
bytes_in_pool pools true start count = take count (drop start pools.partial)
bytes_in_pool pools false start count = map (λ byte. Some byte) (plain_in pools start count)

-- how many bytes are in that pool
abbrev pub pool_len : PoolsView → Bool → ℕ
pool_len pools true = length pools.partial
pool_len pools false = length pools.whole

-- how many bytes it has room for
abbrev pub pool_room : PoolsView → Bool → ℕ
pool_room pools true = pools.partial_room
pool_room pools false = pools.whole_room

-- a request's bytes are in its pool, as many as it carries and unset only if they may be
pub record AreIn (pools : PoolsView) (op : AskOp) (size start : ℕ) : Type 0 where
  pub within : start + byte_count op size ≤ pool_len pools (may_leave_unset op)
  pub lawful : IsLawfulRequest op size (bytes_in_pool pools (may_leave_unset op) start (byte_count op size))

-- bytes that are all given were appended to their pool, if they begin at this place
abbrev pub IsPlainKept : List ℕ → PoolsView → PoolsView → ℕ → Type 0
IsPlainKept bytes old new start =
    (new.whole ≡ old.whole ++ bytes) × (new.partial ≡ old.partial) × (start ≡ length old.whole)

-- bytes were appended to their pool, if they begin at this place
abbrev pub IsKeptInPool : Bool → List (Option ℕ) → PoolsView → PoolsView → ℕ → Type 0
IsKeptInPool true bytes old new start =
    (new.whole ≡ old.whole) × (new.partial ≡ old.partial ++ bytes) × (start ≡ length old.partial)
IsKeptInPool false bytes old new start = IsPlainKept (plain_of bytes) old new start

-- the bytes are as they were
abbrev pub HasSameBytes : PoolsView → PoolsView → Type 0
HasSameBytes old new = (new.whole ≡ old.whole) × (new.partial ≡ old.partial)

-- no room is lost
abbrev pub KeepsRoom : PoolsView → PoolsView → Type 0
KeepsRoom old new = (old.whole_room ≤ new.whole_room) × (old.partial_room ≤ new.partial_room)
