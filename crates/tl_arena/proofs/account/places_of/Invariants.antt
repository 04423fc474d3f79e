use Rattle.std.proofs.Common.{◌≡◌, ℕ, slice_get, Some}
use Rattle.tl_arena.proofs.Chosen.{Chosen}
use Rattle.tl_arena.proofs.account.places_of.Given as goal

abbrev pub invariant-loop-place : goal.invariant-loop-place
invariant-loop-place l =
    Chosen (λ (i : ℕ). i) (λ (i : ℕ). slice_get l.fn.words i ≡ Some l.fn.wanted) l.place l.places.items
