use Rattle.std.proofs.Common.{◌≡◌, ◌∙◌, ◌<◌, None, rules, arith, ap, sym}
use Rattle.tl_map.specs.Map.{RoutesBytes}
use Rattle.check_beats.specs.Form.{FitsAsk}
use Rattle.check_beats.specs.Rules.{decoded_size}
use Rattle.check_beats.specs.State.{first_ask}
use Rattle.check_flight.specs.Flight.{Flight}
use Rattle.check_flight.specs.Flight.Turn.{Idle}
use Rattle.check_watch.specs.declared.beat.Beat.TheVariants.{A}
use Rattle.check_watch.specs.declared.beat.Link.TheVariants.{Port}
use Rattle.check_watch.specs.declared.fault.Reason.TheVariants.{SourceBusy, WrongPort}
use Rattle.check_watch.proofs.Judging.{first_ask_reason, allowed_ask}
use Rattle.check_sides.specs.View.{PortView, flight_in, port_scene}
use Rattle.check_sides.proofs.Alone.{found_if_placed, placed_if_found, up_to}
use Rattle.check_sides.proofs.port.PortLink.ask_reason.Goals as goal

pub returns-then-not-is_idle-clause-reason : goal.returns-then-not-is_idle-clause-reason
returns-then-not-is_idle-clause-reason c layout beyond lanes own =
    let view = c.args.self.now in
    let beat = c.args.beat.now in
    let here = port_scene layout c.args.port beyond view (A beat) in
    let begins : view.under.asking ≡ None = search rules in
    let fits : FitsAsk view.under.bus (first_ask view.under.asking) beat = rw (← c.self.view_is) c.in_default.ensures.fits in
    let small : beat.source < 65536 = omega arith in
    let flight : c.flight.result.now ≡ flight_in view beat.source =
    c.flight.ensures ∙ ap (λ (p : PortView). flight_in p beat.source) c.self.view_is in
    let busy : (flight_in view beat.source).turn ≡ Idle → ⊥ =
    λ idle. let yes = c.is_idle.ensures.1 (ap (λ (f : Flight). f.turn) flight ∙ idle) in absurd (cc) in
    first_ask_reason layout (Port c.args.port) here beat c.args.known lanes SourceBusy (λ free. busy (free begins))
    (up_to layout c.args.rules c.args.map.now c.args.port own here beat c.args.known lanes 10 fits c.in_default.ensures.aligned c.in_default.ensures.marked c.in_default.ensures.known small
    (λ lower. absurd (omega (arith, lower))) (λ lower. absurd (omega (arith, lower))))

pub returns-then-route_bytes-port-clause-reason : goal.returns-then-route_bytes-port-clause-reason
returns-then-route_bytes-port-clause-reason c layout beyond lanes own =
    let view = c.args.self.now in
    let beat = c.args.beat.now in
    let here = port_scene layout c.args.port beyond view (A beat) in
    let begins : view.under.asking ≡ None = search rules in
    let fits : FitsAsk view.under.bus (first_ask view.under.asking) beat = rw (← c.self.view_is) c.in_default.ensures.fits in
    let small : beat.source < 65536 = omega arith in
    let flight : c.flight.result.now ≡ flight_in view beat.source =
    c.flight.ensures ∙ ap (λ (p : PortView). flight_in p beat.source) c.self.view_is in
    let free : (flight_in view beat.source).turn ≡ Idle =
    ap (λ (f : Flight). f.turn) (sym flight) ∙ c.is_idle.ensures.0 c.if-not-is_idle.false in
    first_ask_reason layout (Port c.args.port) here beat c.args.known lanes WrongPort
    (λ placed. let at = found_if_placed layout c.args.rules c.args.map.now c.args.port own beat (placed begins) in
    c.if-route_bytes-port.true ((c.route_bytes.ensures.port c.args.port).1 (rw c.decoded_size.ensures.value at)))
    (up_to layout c.args.rules c.args.map.now c.args.port own here beat c.args.known lanes 11 fits c.in_default.ensures.aligned c.in_default.ensures.marked c.in_default.ensures.known small
    (λ lower _. free) (λ lower. absurd (omega (arith, lower))))

pub returns-clause-allowed : goal.returns-clause-allowed
returns-clause-allowed c layout beyond lanes own =
    let view = c.args.self.now in
    let beat = c.args.beat.now in
    let here = port_scene layout c.args.port beyond view (A beat) in
    let fits : FitsAsk view.under.bus (first_ask view.under.asking) beat = rw (← c.self.view_is) c.in_default.ensures.fits in
    let small : beat.source < 65536 = omega arith in
    let flight : c.flight.result.now ≡ flight_in view beat.source =
    c.flight.ensures ∙ ap (λ (p : PortView). flight_in p beat.source) c.self.view_is in
    let free : (flight_in view beat.source).turn ≡ Idle =
    ap (λ (f : Flight). f.turn) (sym flight) ∙ c.is_idle.ensures.0 c.if-not-is_idle.false in
    let found : RoutesBytes c.args.map.now beat.address (decoded_size c.args.rules beat.size) c.args.port =
    rw (← c.decoded_size.ensures.value) ((c.route_bytes.ensures.port c.args.port).0 c.if-route_bytes-port.false) in
    let at = placed_if_found layout c.args.rules c.args.map.now c.args.port own beat small found in
    allowed_ask layout (Port c.args.port) here beat c.args.known lanes
    (up_to layout c.args.rules c.args.map.now c.args.port own here beat c.args.known lanes 20 fits c.in_default.ensures.aligned c.in_default.ensures.marked c.in_default.ensures.known small
    (λ lower _. free) (λ lower _. at))
