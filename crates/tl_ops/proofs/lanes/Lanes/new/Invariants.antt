use Rattle.std.proofs.Common.{◌≡◌, ◌+◌, ◌-◌, ◌++◌, length, take, replicate}
use Rattle.tl_ops.specs.Cell.{spare_after}
use Rattle.tl_ops.proofs.lanes.Lanes.new.Given as goal

-- the bytes so far stand between zeros
abbrev pub invariant-loop-k : goal.invariant-loop-k
invariant-loop-k l = l.lanes ≡ replicate l.lead 0
    ++ (take l.k l.bytes ++ replicate (length l.bytes - l.k + spare_after (l.lead + length l.bytes)) 0)
