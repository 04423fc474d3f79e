use Rattle.std.proofs.Common.{◌≡◌, ◌-◌, ◌*◌, ◌^◌, ◌<◌, length, drop}
use Rattle.tl_ops.specs.Number.{low_bytes}
use Rattle.tl_ops.proofs.cell.spelled.Given as goal

-- the bytes from k on are gathered, the last one uppermost
abbrev pub invariant-loop-k : goal.invariant-loop-k
invariant-loop-k l =
    (low_bytes (length l.bytes - l.k) l.cell ≡ drop l.k l.bytes)
    × (l.cell < 2 ^ (8 * (length l.bytes - l.k)))
