-- The pages of the bytes so far are there.
use Rattle.std.proofs.Common.{◌≡◌, ℕ, ◌+◌, ◌/◌, ◌<◌}
use Rattle.check_memory.specs.Paged.{paged_cells, HasPage, KeepsPages}
use Rattle.check_memory.proofs.place.hold.Given as goal

abbrev pub invariant-loop-place : goal.invariant-loop-place
invariant-loop-place l =
    (paged_cells l.pages ≡ paged_cells l.initial.pages)
    × KeepsPages l.initial.pages.slots l.pages.slots
    × ((k : ℕ) → k < l.place → HasPage l.pages.slots ((l.address + k) / 256))
