use Rattle.std.proofs.Common.{◌≡◌, ℕ, sym, ap, ◌∙◌}
use Rattle.std.proofs.lemmas.Option.{slice_get-get_or}
use Rattle.tl_arena.specs.Views.{ArenaId, MasterView, new_master}
use Rattle.tl_arena_tests.proofs.tests.floor.seats.Goals as goal

-- a new master's seat tells its number
numbered : (a : ArenaId) (k : ℕ) (v : MasterView) → v ≡ new_master a k → v ≡ new_master a v.number
numbered a k v is = is ∙ ap (new_master a) (sym (ap (λ (w : MasterView). w.number) is))

pub returns-clause-masters : goal.returns-clause-masters
returns-clause-masters g c = λ k d lt.
    let made = c.in-Ok.field-0 in
    numbered made.arena k _ (c.in-Ok.ensures.masters.each k _ (slice_get-get_or made.masters.items k d lt))

pub returns-clause-near : goal.returns-clause-near
returns-clause-near g c = c.in-Ok.ensures.ports.each 0 _ c.two-near.ensures.first

pub returns-clause-far : goal.returns-clause-far
returns-clause-far g c = c.in-Ok.ensures.ports.each 1 _ c.two-near.ensures.second
