use Rattle.std.proofs.Common.{ℕ, List, ap, length, subst}
use Rattle.tl_map.specs.Owner.{IsOwned, IsWideSource}
use Rattle.tl_map.specs.declared.owners.Owner.{Owner}
use Rattle.check_watch.specs.declared.watch.GroupWatch.TheInside.{Inside}
use Rattle.check_watch.proofs.Wides.{within}
use Rattle.check_watch.proofs.watch.GroupWatch.wide.Goals as goal

pub returns-in-Master-clause-in_limit : goal.returns-in-Master-clause-in_limit
returns-in-Master-clause-in_limit c =
    let owners = ap (λ (i : Inside). i.wiring.owners) c.self-inside.view_is in
    rw (← c.self.view_is) (within c.widen.result (length c.self.inside.crossings.items)
    (λ (w : ℕ). IsOwned c.self.inside.wiring.owners w)
    (λ w is.
    let wide = subst (λ (o : List Owner). IsWideSource o c.in-Master.master c.args.source w) owners ((c.widen.ensures w).0 is) in
    (c.in-Master.master, (c.args.source, wide)))
    c.self.invariant.owned)

pub returns-in-Port-clause-wide : goal.returns-in-Port-clause-wide
returns-in-Port-clause-wide c wide = rw (c.in-Port.is, ← c.self.view_is, ← c.self-inside.view_is) (c.owned.ensures wide)

pub returns-in-Port-clause-in_limit : goal.returns-in-Port-clause-in_limit
returns-in-Port-clause-in_limit c =
    let owners = ap (λ (i : Inside). i.wiring.owners) c.self-inside.view_is in
    rw (← c.self.view_is) (within c.owned.result (length c.self.inside.crossings.items)
    (λ (w : ℕ). IsOwned c.self.inside.wiring.owners w)
    (λ w is.
    let both = (c.owned.ensures w).0 is in
    rw both.0 (subst (λ (o : List Owner). IsOwned o c.args.source) owners both.1)) c.self.invariant.owned)
