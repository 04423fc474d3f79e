-- The request that begins with a beat, as it is kept.
use Rattle.std.proofs.Common.{◌≡◌, ◌∙◌, ℕ, ◌%◌, ◌^◌, false, sym, ap, subst}
use Rattle.std.specs.Prelude.{◌==◌, not}
use Rattle.check_watch.specs.Plan.{RoutesAt, route_of}
use Rattle.check_watch.proofs.Judging.{own_route}
use Rattle.check_sides.specs.Plan.{Layout}
use Rattle.check_coverage.specs.Flights.{master_of, own_source}
use Rattle.check_coverage.specs.Ranges.{place_at}
use Rattle.check_coverage.proofs.coverage.begun.Goals as goal

pub returns : goal.returns
returns c = λ plan suits.
    let beat = c.args.beat.now in
    let owner = master_of plan.layout.owners c.args.wide in
    let master : c.master_of-master.result ≡ owner =
    c.master_of-master.ensures ∙ ap (λ o. master_of o c.args.wide) (c.sources.ensures ∙ ap (λ (l : Layout). l.owners) suits.layout) in
    let source : c.own_source.result ≡ own_source plan.layout.owners c.args.wide =
    c.own_source.ensures ∙ ap (λ o. own_source o c.args.wide) (c.sources-2.ensures ∙ ap (λ (l : Layout). l.owners) suits.layout) in
    let route = route_of plan owner beat.address beat.size in
    let port : c.route-port.result ≡ route =
    (c.route-port.ensures route).1
    (subst (λ m. RoutesAt c.args.watch.now.layout m beat.address beat.size route) (sym master)
    (subst (λ (l : Layout). RoutesAt l owner beat.address beat.size route) (sym suits.layout)
    (own_route plan suits.lawful owner beat.address beat.size))) in
    let span : c.width-span.result ≡ 2 ^ beat.size = c.width-span.ensures.value in
    let place : c.place_at.result ≡ place_at plan route beat =
    c.place_at.ensures plan suits ∙ ap (λ (p : ℕ). place_at plan p beat) port in
    λ i. record {
      wide = c.args.wide;
      master = master i;
      source = source i;
      port = port i;
      first = beat;
      span = span i;
      is_unaligned = not (beat.address % span i == 0);
      is_found = c.is_found.ensures plan suits i;
      place = place i;
      marks = c.new.ensures beat.size i;
      is_whole = false;
    }
