use Rattle.std.proofs.Common.{arith, sym, ap, ◌∙◌}
use Rattle.tl_rule.specs.Moves.{as_master}
use Rattle.tl_rule.proofs.Carried.{none_held}
use Rattle.tl_rule.proofs.Seats.{leaves_at}
use Rattle.tl_arena.specs.Views.{ArenaId, MasterView, owned_of}
use Rattle.tl_arena.specs.Key.{about_in}
use Rattle.tl_arena.proofs.arena.Arena.leave.Goals as goal

pub store-requires : goal.store-requires
store-requires c =
    let s = c.self.invariant in
    let m = c.master.invariant in
    let in_range = m.in_range in
    let about = ap (λ (a : ArenaId). a.about.masters) c.self.view_is in
    let arena = ap (λ (v : MasterView). v.arena.about.masters) c.master.view_is in
    let arena_same = ap (λ (a : ArenaId). a.about.masters) c.requires.arena in (
      ap (λ (v : MasterView). v.arena.table) c.master.view_is
          ∙ ap (λ (a : ArenaId). a.table) (c.requires.arena ∙ sym c.self.view_is),
      omega arith,
      leaves_at (about_in c.self.inside.table.shared.key) _ _ c.master.inside.seat.me _ m.is m.present
          (none_held (as_master c.master.inside.seat.me.0).hand (ap owned_of c.master.view_is ∙ c.requires.empty))
          (omega arith),
    )
