-- Sizes stay as they are.
use Rattle.std.proofs.Common.{refl, length-set}
use Rattle.check_watch.proofs.Sized.{same_shape, sized_by}
use Rattle.check_watch.proofs.watch.GroupWatch.note_given.Goals as goal

pub invariant_of-self : goal.invariant_of-self
invariant_of-self c =
    sized_by _ c.self.inside.masters c.self.inside.ports c.self.inside.crossings.items c.self.inside.slaves.items _ _ _ _
    c.self.invariant (same_shape _) (same_shape _)
    (length-set c.self.inside.crossings.items c.args.wide c.give.new.self) refl
