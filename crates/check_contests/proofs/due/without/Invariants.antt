use Rattle.std.proofs.Common.{◌≡◌, ◌+◌, take}
use Rattle.check_contests.specs.Writes.{writes, unknown_where}
use Rattle.check_contests.proofs.due.without.Given as goal

abbrev pub invariant-loop-place : goal.invariant-loop-place
invariant-loop-place l =
    l.left ≡ unknown_where (λ place. writes l.other.op l.other (l.address + place)) (take l.place l.cells)
