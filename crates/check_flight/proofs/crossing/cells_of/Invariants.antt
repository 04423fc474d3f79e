use Rattle.std.proofs.Common.{◌≡◌, take}
use Rattle.check_flight.proofs.crossing.cells_of.Given as goal

-- the bytes so far
abbrev pub invariant-loop-place : goal.invariant-loop-place
invariant-loop-place l = l.cells ≡ take l.place l.bytes
