-- The bytes so far are forgotten if they are flagged.
use Rattle.std.proofs.Common.{◌≡◌, take}
use Rattle.check_memory.specs.Cells.{forgotten}
use Rattle.check_memory.specs.Paged.{paged_cells, KeepsPages}
use Rattle.check_memory.proofs.place.forget_bytes.Given as goal

abbrev pub invariant-loop-place : goal.invariant-loop-place
invariant-loop-place l =
    (paged_cells l.pages ≡ forgotten (take l.place l.flags) l.address (paged_cells l.initial.pages))
    × KeepsPages l.initial.pages.slots l.pages.slots
