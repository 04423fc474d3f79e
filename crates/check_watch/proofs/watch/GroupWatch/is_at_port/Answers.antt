-- The master that has the source, and the port of its requests.
use Rattle.std.proofs.Common.{◌≡◌, ◌∙◌, ℕ, List, Option, None, Some, ap, eqb-true, eq-eqb, subst, sym}
use Rattle.tl_map.specs.Owner.{IsWideSource}
use Rattle.tl_map.specs.declared.owners.Owner.{Owner}
use Rattle.check_watch.specs.Plan.{RoutesAt}
use Rattle.check_watch.specs.declared.watch.GroupWatch.TheInside.{Inside}
use Rattle.check_watch.specs.View.{GroupView}
use Rattle.check_watch.proofs.watch.GroupWatch.is_at_port.Goals as goal

abbrev master_in : Option (ℕ × ℕ) → ℕ
master_in None = 0
master_in (Some owner) = owner.0

pub returns-in-Some : goal.returns-in-Some
returns-in-Some c =
    let layout = c.args.self.now.layout in
    let owners = ap (λ (i : Inside). i.wiring.owners) c.self-inside.view_is
    ∙ ap (λ (v : GroupView). v.layout.owners) c.self.view_is in (
      λ yes. record {
        master = c.in-Some.master;
        owns = (
          c.in-Some._source,
          subst (λ (o : List Owner). IsWideSource o c.in-Some.master c.in-Some._source c.args.wide) owners
              ((c.owner.ensures c.in-Some.master c.in-Some._source).0 c.in-Some.is),
        );
        routes = (c.route.ensures.port c.args.port).0 (eqb-true c.route.result c.args.port yes);
      },
      λ placed.
          let found = (c.owner.ensures placed.master placed.owns.0).1
          (subst (λ (o : List Owner). IsWideSource o placed.master placed.owns.0 c.args.wide) (sym owners) placed.owns.1) in
          let same : placed.master ≡ c.in-Some.master = ap master_in (sym found ∙ c.in-Some.is) in
          eq-eqb c.route.result c.args.port ((c.route.ensures.port c.args.port).1
          (subst (λ m. RoutesAt layout m c.args.address c.args.size c.args.port) same placed.routes)),
    )
