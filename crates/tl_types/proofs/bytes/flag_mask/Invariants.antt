use Rattle.std.proofs.Common.{◌≡◌, ◌+◌, ◌-◌, ◌^◌, ◌<◌, ℕ, length, slice_index}
use Rattle.std.specs.Int.{bit_at}
use Rattle.tl_types.specs.Bytes.{flag_bit}
use Rattle.tl_types.proofs.bytes.flag_mask.Given as goal

-- the bits of the flags from k on are gathered, that of the last one uppermost
abbrev pub invariant-loop-k : goal.invariant-loop-k
invariant-loop-k l =
    ((i : ℕ) → bit_at l.mask i ≡ flag_bit (slice_index l.flags (l.k + i)))
    × (l.mask < 2 ^ (length l.flags - l.k))
