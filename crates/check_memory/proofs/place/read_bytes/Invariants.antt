-- The bytes so far.
use Rattle.std.proofs.Common.{◌≡◌, take, drop}
use Rattle.check_memory.specs.Paged.{paged_cells}
use Rattle.check_memory.proofs.place.read_bytes.Given as goal

abbrev pub invariant-loop-place : goal.invariant-loop-place
invariant-loop-place l = l.cells ≡ take l.place (drop l.address (paged_cells l.pages))
