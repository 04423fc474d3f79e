-- Sizes stay as they are.
use Rattle.std.proofs.Common.{refl}
use Rattle.check_watch.proofs.Sized.{same_shape, shape_with, sized_by}
use Rattle.check_watch.proofs.watch.GroupWatch.end_ask.Goals as goal

pub invariant_of-self : goal.invariant_of-self
invariant_of-self c =
    sized_by _ c.self.inside.masters c.self.inside.ports c.self.inside.crossings.items c.self.inside.slaves.items _ _ _ _
    c.self.invariant (shape_with c.end_ask.new.self c.self.inside.masters _ _ _ _ c.end_ask.ensures refl) (same_shape _) refl refl

pub invariant_of-self-in-Port : goal.invariant_of-self-in-Port
invariant_of-self-in-Port c =
    sized_by _ c.self.inside.masters c.self.inside.ports c.self.inside.crossings.items c.self.inside.slaves.items _ _ _ _
    c.self.invariant (same_shape _) (shape_with c.end_ask-in-Port.new.self c.self.inside.ports _ _ _ _ c.end_ask-in-Port.ensures refl) refl refl
