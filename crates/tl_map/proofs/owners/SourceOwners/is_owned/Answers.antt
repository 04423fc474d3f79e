use Rattle.tl_map.proofs.Kept.{owned_by_mark}
use Rattle.tl_map.proofs.owners.SourceOwners.is_owned.Goals as goal

pub returns : goal.returns
returns c =
    rw (← c.self.view_is, c.is_some.ensures)
    (owned_by_mark c.self.inside.owners.items c.self.inside.marks.items c.self.invariant c.args.wide c.master_at.result
    (rw (c.deref.ensures.value) at c.master_at.ensures))
