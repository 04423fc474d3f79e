use Rattle.std.proofs.Common.{rules, ◌≡◌, length, arith}
use Rattle.tl_map.specs.Owner.{IsOwned}
use Rattle.tl_map.proofs.owners.SourceOwners.wides.Goals as goal

pub returns-clause-above : goal.returns-clause-above
returns-clause-above c wide owned =
    let own : IsOwned c.self.inside.owners.items wide = rw (← c.self.view_is) at owned in
    let counted : c.self.inside.marks.len ≡ length c.self.inside.marks.items = search rules in
    let is : c.len.result ≡ c.self.inside.marks.len = c.len.ensures in
    let below = c.self.invariant.room.above wide own in
    omega (arith, is, counted, below)

pub returns-clause-least : goal.returns-clause-least
returns-clause-least c bound all =
    let counted : c.self.inside.marks.len ≡ length c.self.inside.marks.items = search rules in
    let is : c.len.result ≡ c.self.inside.marks.len = c.len.ensures in
    let few = c.self.invariant.room.least bound (λ wide owned. all wide (rw (← c.self.view_is) owned)) in
    omega (arith, is, counted, few)
