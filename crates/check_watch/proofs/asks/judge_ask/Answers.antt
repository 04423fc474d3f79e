use Rattle.std.proofs.Common.{arith}
use Rattle.check_beats.specs.Form.{FitsAsk}
use Rattle.check_beats.specs.State.{first_ask}
use Rattle.check_watch.specs.declared.beat.Beat.TheVariants.{A}
use Rattle.check_watch.specs.declared.fault.Reason.TheVariants.{SourceBusy, WrongPort, NotSent}
use Rattle.check_watch.specs.Plan.{IsWideAt}
use Rattle.check_watch.specs.View.{under_in, flight_in, scene_in}
use Rattle.check_watch.proofs.Judging.{port_found, free_here, sent_here, first_ask_reason, allowed_ask}
use Rattle.check_watch.proofs.asks.judge_ask.Goals as goal

pub returns-then-not-begins_free-clause-reason : goal.returns-then-not-begins_free-clause-reason
returns-then-not-begins_free-clause-reason c plan suits =
    let view = c.args.watch.now in
    let link = c.args.link in
    let beat = c.args.beat.now in
    let known = c.args.known in
    let lanes = c.args.lanes.now in
    let wide = c.from-wide.result in
    let at : IsWideAt view.layout link beat.source wide =
    rw c.from-wide.ensures ((c.wide.ensures.wide c.in-Some-wide.source).0 c.in-Some-wide.is) in
    let fits : FitsAsk (under_in view link).bus (first_ask (under_in view link).asking) beat =
    rw (← c.link.ensures) c.in_default.ensures.fits in
    let free = free_here plan view link beat lanes wide c.begins_free.result suits at c.begins_free.ensures in
    first_ask_reason view.layout link (scene_in plan view link (A beat)) beat known lanes SourceBusy
    (λ yes. let no = free.1 yes in absurd (cc)) (record {
      fits = fits;
      aligned = rw (← c.rules.ensures) c.in_default.ensures.aligned;
      marked = rw (← c.rules.ensures) c.in_default.ensures.marked;
      known_lanes = c.in_default.ensures.known;
      source = (wide, at);
      free = λ lower. absurd (omega (arith, lower));
      placed = λ lower. absurd (omega (arith, lower));
      sent = λ lower. absurd (omega (arith, lower));
    })

pub returns-then-not-begins_placed-clause-reason : goal.returns-then-not-begins_placed-clause-reason
returns-then-not-begins_placed-clause-reason c plan suits =
    let view = c.args.watch.now in
    let link = c.args.link in
    let beat = c.args.beat.now in
    let known = c.args.known in
    let lanes = c.args.lanes.now in
    let wide = c.from-wide.result in
    let at : IsWideAt view.layout link beat.source wide =
    rw c.from-wide.ensures ((c.wide.ensures.wide c.in-Some-wide.source).0 c.in-Some-wide.is) in
    let fits : FitsAsk (under_in view link).bus (first_ask (under_in view link).asking) beat =
    rw (← c.link.ensures) c.in_default.ensures.fits in
    let free = free_here plan view link beat lanes wide c.begins_free.result suits at c.begins_free.ensures in
    first_ask_reason view.layout link (scene_in plan view link (A beat)) beat known lanes WrongPort
    (λ yes. let no = c.begins_placed.ensures.1 yes in absurd (cc)) (record {
      fits = fits;
      aligned = rw (← c.rules.ensures) c.in_default.ensures.aligned;
      marked = rw (← c.rules.ensures) c.in_default.ensures.marked;
      known_lanes = c.in_default.ensures.known;
      source = (wide, at);
      free = λ lower. free.0 c.if-not-begins_free.false;
      placed = λ lower. absurd (omega (arith, lower));
      sent = λ lower. absurd (omega (arith, lower));
    })

pub returns-then-not-ends_sent-clause-reason : goal.returns-then-not-ends_sent-clause-reason
returns-then-not-ends_sent-clause-reason c plan suits =
    let view = c.args.watch.now in
    let link = c.args.link in
    let beat = c.args.beat.now in
    let known = c.args.known in
    let lanes = c.args.lanes.now in
    let wide = c.from-wide.result in
    let at : IsWideAt view.layout link beat.source wide =
    rw c.from-wide.ensures ((c.wide.ensures.wide c.in-Some-wide.source).0 c.in-Some-wide.is) in
    let fits : FitsAsk (under_in view link).bus (first_ask (under_in view link).asking) beat =
    rw (← c.link.ensures) c.in_default.ensures.fits in
    let free = free_here plan view link beat lanes wide c.begins_free.result suits at c.begins_free.ensures in
    let sent = sent_here plan view link beat lanes wide c.ends_sent.result suits at c.ends_sent.ensures in
    first_ask_reason view.layout link (scene_in plan view link (A beat)) beat known lanes NotSent
    (λ yes. let no = sent.1 yes in absurd (cc)) (record {
      fits = fits;
      aligned = rw (← c.rules.ensures) c.in_default.ensures.aligned;
      marked = rw (← c.rules.ensures) c.in_default.ensures.marked;
      known_lanes = c.in_default.ensures.known;
      source = (wide, at);
      free = λ lower. free.0 c.if-not-begins_free.false;
      placed = λ lower. c.begins_placed.ensures.0 c.if-not-begins_placed.false;
      sent = λ lower. absurd (omega (arith, lower));
    })

pub returns-clause-allowed : goal.returns-clause-allowed
returns-clause-allowed c plan suits =
    let view = c.args.watch.now in
    let link = c.args.link in
    let beat = c.args.beat.now in
    let known = c.args.known in
    let lanes = c.args.lanes.now in
    let wide = c.from-wide.result in
    let at : IsWideAt view.layout link beat.source wide =
    rw c.from-wide.ensures ((c.wide.ensures.wide c.in-Some-wide.source).0 c.in-Some-wide.is) in
    let fits : FitsAsk (under_in view link).bus (first_ask (under_in view link).asking) beat =
    rw (← c.link.ensures) c.in_default.ensures.fits in
    let free = free_here plan view link beat lanes wide c.begins_free.result suits at c.begins_free.ensures in
    let sent = sent_here plan view link beat lanes wide c.ends_sent.result suits at c.ends_sent.ensures in
    allowed_ask view.layout link (scene_in plan view link (A beat)) beat known lanes (record {
      fits = fits;
      aligned = rw (← c.rules.ensures) c.in_default.ensures.aligned;
      marked = rw (← c.rules.ensures) c.in_default.ensures.marked;
      known_lanes = c.in_default.ensures.known;
      source = (wide, at);
      free = λ lower. free.0 c.if-not-begins_free.false;
      placed = λ lower. c.begins_placed.ensures.0 c.if-not-begins_placed.false;
      sent = λ lower. sent.0 c.if-not-ends_sent.false;
    })

pub returns-clause-place : goal.returns-clause-place
returns-clause-place c =
    let view = c.args.watch.now in
    let link = c.args.link in
    let beat = c.args.beat.now in
    let wide = c.from-wide.result in
    let at : IsWideAt view.layout link beat.source wide =
    rw c.from-wide.ensures ((c.wide.ensures.wide c.in-Some-wide.source).0 c.in-Some-wide.is) in
    let fits : FitsAsk (under_in view link).bus (first_ask (under_in view link).asking) beat =
    rw (← c.link.ensures) c.in_default.ensures.fits in
    record {
      at = c.link_number.ensures;
      wide = at;
      in_limit = rw c.from-wide.ensures c.in-Some-wide.ensures.in_limit;
      port = λ plan suits. port_found plan view link (flight_in view link wide).turn beat c.port.result suits c.port.ensures.master c.port.ensures.port;
      in_ports = c.port.ensures.in_ports;
      fits = fits;
    }
