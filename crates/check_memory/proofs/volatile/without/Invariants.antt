-- The cells so far.
use Rattle.std.proofs.Common.{◌≡◌, ◌+◌, take}
use Rattle.check_memory.specs.Cells.{unknown_where}
use Rattle.check_memory.specs.Partial.{holds}
use Rattle.check_memory.proofs.volatile.without.Given as goal

abbrev pub invariant-loop-place : goal.invariant-loop-place
invariant-loop-place l =
    l.left ≡ unknown_where (λ place. holds l.volatile (l.address + place) 1) (take l.place l.cells)
