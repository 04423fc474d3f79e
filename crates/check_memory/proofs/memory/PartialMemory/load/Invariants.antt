use Rattle.std.proofs.Common.{◌≡◌, ◌-◌, ◌≤◌, length, take}
use Rattle.check_memory.specs.Partial.{loaded}
use Rattle.check_memory.proofs.memory.PartialMemory.load.Given as goal

-- the bytes so far are written
abbrev pub invariant-loop-done : goal.invariant-loop-done
invariant-loop-done l = (l.done ≤ length l.bytes) × (l.self ≡ loaded l.fn.self l.address (take l.done l.bytes))

-- the bytes that are left
abbrev pub decreases-loop-done : goal.decreases-loop-done
decreases-loop-done l = length l.bytes - l.done
