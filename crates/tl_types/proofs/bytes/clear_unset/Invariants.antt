use Rattle.std.proofs.Common.{◌≡◌, ◌++◌, drop, take, slice_index}
use Rattle.tl_types.specs.Bytes.{given_in, plain_of}
use Rattle.tl_types.proofs.bytes.clear_unset.Given as goal

-- the bytes so far are cleared where they are unset, and the others are as they were
abbrev pub invariant-loop-place : goal.invariant-loop-place
invariant-loop-place l =
    l.bytes ≡ take l.place (plain_of (given_in (slice_index l.flags) l.initial.bytes)) ++ drop l.place l.initial.bytes
