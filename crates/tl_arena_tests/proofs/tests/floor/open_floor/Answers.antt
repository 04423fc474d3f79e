use Rattle.std.proofs.Common.{◌≡◌, ℕ, sym, ap, ◌∙◌}
use Rattle.tl_arena.specs.Views.{ArenaId, PortView, new_port}
use Rattle.tl_arena_tests.proofs.tests.floor.open_floor.Goals as goal

-- a new port's seat tells its arena, and that of another
of_own : (a : ArenaId) (p : ℕ) (u v : PortView) → u ≡ new_port a 0 → v ≡ new_port a p → v ≡ new_port u.arena p
of_own a p u v own is = is ∙ ap (λ (b : ArenaId). new_port b p) (sym (ap (λ (w : PortView). w.arena) own))

pub invariant_of-ports-clause-new_near : goal.invariant_of-ports-clause-new_near
invariant_of-ports-clause-new_near g c =
    of_own _ 0 _ _ c.seats-arena.ensures.near c.seats-arena.ensures.near

pub invariant_of-ports-clause-new_far : goal.invariant_of-ports-clause-new_far
invariant_of-ports-clause-new_far g c =
    of_own _ 1 _ _ c.seats-arena.ensures.near c.seats-arena.ensures.far
