-- The pages of the bytes so far are there, if these are flagged.
use Rattle.std.proofs.Common.{◌≡◌, ℕ, ◌+◌, ◌/◌, ◌<◌, true, false, get_or}
use Rattle.check_memory.specs.Paged.{paged_cells, HasPage, KeepsPages}
use Rattle.check_memory.proofs.place.hold_flagged.Given as goal

abbrev pub invariant-loop-place : goal.invariant-loop-place
invariant-loop-place l =
    (paged_cells l.pages ≡ paged_cells l.initial.pages)
    × KeepsPages l.initial.pages.slots l.pages.slots
    × ((k : ℕ) → k < l.place → get_or l.flags k false ≡ true → HasPage l.pages.slots ((l.address + k) / 256))
