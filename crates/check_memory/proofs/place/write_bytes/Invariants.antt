-- The bytes so far are written.
use Rattle.std.proofs.Common.{◌≡◌, take}
use Rattle.check_memory.specs.Known.{replaced}
use Rattle.check_memory.specs.Paged.{paged_cells, KeepsPages}
use Rattle.check_memory.proofs.place.write_bytes.Given as goal

abbrev pub invariant-loop-place : goal.invariant-loop-place
invariant-loop-place l =
    (paged_cells l.pages ≡ replaced (paged_cells l.initial.pages) l.address (take l.place l.cells))
    × KeepsPages l.initial.pages.slots l.pages.slots
