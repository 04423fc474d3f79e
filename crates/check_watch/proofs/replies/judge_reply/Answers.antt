use Rattle.tl_types.specs.Fault.{IsFirstOf}
use Rattle.check_beats.specs.Form.{FitsReply}
use Rattle.check_beats.specs.Rules.{IsMarkedBy}
use Rattle.check_beats.specs.State.{first_reply}
use Rattle.check_flight.specs.PortSlave.{may_be_unknown}
use Rattle.check_watch.specs.Allowed.{OfAsked, IsAnswer}
use Rattle.check_watch.specs.Faults.{HasAnswerReason, reason_rank}
use Rattle.check_watch.specs.Past.{slave_at}
use Rattle.check_watch.specs.Plan.{IsWideAt, link_number}
use Rattle.check_watch.specs.View.{under_in, flight_in}
use Rattle.check_watch.proofs.Replying.{answer_first, end_first, reply_allowed}
use Rattle.check_watch.proofs.replies.judge_reply.Goals as goal

pub returns-in-Some-answer_reason-clause-reason : goal.returns-in-Some-answer_reason-clause-reason
returns-in-Some-answer_reason-clause-reason c plan suits =
    let view = c.args.watch.now in
    let link = c.args.link in
    let beat = c.args.beat.now in
    let known = c.args.known in
    let lanes = c.args.lanes.now in
    let wide = c.from-wide.result in
    let at : IsWideAt view.layout link beat.source wide =
    rw c.from-wide.ensures ((c.wide.ensures.wide c.in-Some-wide.source).0 c.in-Some-wide.is) in
    let port = c.port_in_flight.result in
    let port_here = c.port_in_flight.ensures.port plan beat suits in
    let fits : FitsReply (first_reply (under_in view link).replying) beat =
    rw (← c.link-under.ensures) c.in_default.ensures.fits in
    let marked : IsMarkedBy view.layout.rules beat = rw (← c.rules.ensures) c.in_default.ensures.marked in
    let reason = c.in-Some-answer_reason.reason in
    let first : IsFirstOf (HasAnswerReason (link_number link) (flight_in view link wide).turn (under_in view link).bus
    (may_be_unknown (slave_at view.slaves port)) beat known) reason_rank reason =
    rw (
      ← c.flight-flight.ensures,
      ← c.link-under.ensures,
      ← c.link_number.ensures,
      ← c.slave.ensures,
      ← c.may_be_unknown-unknown.ensures,
    ) c.in-Some-answer_reason.ensures.reason in
    answer_first plan view link beat known lanes wide port suits at port_here fits marked reason first

pub returns-in-Some-end_reason-clause-reason : goal.returns-in-Some-end_reason-clause-reason
returns-in-Some-end_reason-clause-reason c plan suits =
    let view = c.args.watch.now in
    let link = c.args.link in
    let beat = c.args.beat.now in
    let known = c.args.known in
    let lanes = c.args.lanes.now in
    let wide = c.from-wide.result in
    let at : IsWideAt view.layout link beat.source wide =
    rw c.from-wide.ensures ((c.wide.ensures.wide c.in-Some-wide.source).0 c.in-Some-wide.is) in
    let port = c.port_in_flight.result in
    let port_here = c.port_in_flight.ensures.port plan beat suits in
    let fits : FitsReply (first_reply (under_in view link).replying) beat =
    rw (← c.link-under.ensures) c.in_default.ensures.fits in
    let marked : IsMarkedBy view.layout.rules beat = rw (← c.rules.ensures) c.in_default.ensures.marked in
    let answers : OfAsked (link_number link) (flight_in view link wide).turn
    (IsAnswer (under_in view link).bus (may_be_unknown (slave_at view.slaves port)) beat known) =
    rw (
      ← c.flight-flight.ensures,
      ← c.link-under.ensures,
      ← c.link_number.ensures,
      ← c.slave.ensures,
      ← c.may_be_unknown-unknown.ensures,
    ) c.in_default-answer_reason.ensures.none in
    end_first plan view link beat known lanes wide port suits at port_here fits marked c.in-Some-end_reason.reason answers c.in-Some-end_reason.ensures.ends c.in-Some-end_reason.ensures.reason

pub returns-clause-allowed : goal.returns-clause-allowed
returns-clause-allowed c plan suits =
    let view = c.args.watch.now in
    let link = c.args.link in
    let beat = c.args.beat.now in
    let known = c.args.known in
    let lanes = c.args.lanes.now in
    let wide = c.from-wide.result in
    let at : IsWideAt view.layout link beat.source wide =
    rw c.from-wide.ensures ((c.wide.ensures.wide c.in-Some-wide.source).0 c.in-Some-wide.is) in
    let port = c.port_in_flight.result in
    let port_here = c.port_in_flight.ensures.port plan beat suits in
    let fits : FitsReply (first_reply (under_in view link).replying) beat =
    rw (← c.link-under.ensures) c.in_default.ensures.fits in
    let marked : IsMarkedBy view.layout.rules beat = rw (← c.rules.ensures) c.in_default.ensures.marked in
    let answers : OfAsked (link_number link) (flight_in view link wide).turn
    (IsAnswer (under_in view link).bus (may_be_unknown (slave_at view.slaves port)) beat known) =
    rw (
      ← c.flight-flight.ensures,
      ← c.link-under.ensures,
      ← c.link_number.ensures,
      ← c.slave.ensures,
      ← c.may_be_unknown-unknown.ensures,
    ) c.in_default-answer_reason.ensures.none in
    reply_allowed plan view link beat known lanes wide port suits at port_here fits marked answers c.in_default-end_reason.ensures.none
