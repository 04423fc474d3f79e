use Rattle.std.proofs.Common.{◌∙◌, ◌<◌, arith, sym, subst}
use Rattle.std.specs.Prelude.{IsTrue}
use Rattle.tl_types.specs.Fault.{IsFirstOf}
use Rattle.check_beats.specs.Form.{FitsReply}
use Rattle.check_beats.specs.Rules.{IsMarkedBy}
use Rattle.check_beats.specs.State.{ends_reply, first_reply}
use Rattle.check_flight.specs.PortSlave.{may_be_unknown}
use Rattle.check_watch.specs.declared.fault.Reason.{Reason}
use Rattle.check_watch.specs.declared.beat.Link.TheVariants.{Port}
use Rattle.check_watch.specs.Allowed.{OfAsked, IsAnswer}
use Rattle.check_watch.specs.Faults.{HasAnswerReason, reason_rank}
use Rattle.check_watch.specs.Plan.{wider_bus}
use Rattle.check_sides.specs.View.{PortView, flight_in}
use Rattle.check_sides.proofs.Outcomes.{if_none, if_some}
use Rattle.check_sides.proofs.Alone.{answer_first, end_first, reply_allowed}
use Rattle.check_sides.proofs.port.PortLink.reply_reason.Goals as goal

pub returns-in-Some-answer_reason-clause-reason : goal.returns-in-Some-answer_reason-clause-reason
returns-in-Some-answer_reason-clause-reason c layout beyond map own =
    let links = c.args.rules in
    let view = c.args.self.now in
    let port = c.args.port in
    let beat = c.args.beat.now in
    let known = c.args.known in
    let reason = c.in-Some-answer_reason.reason in
    let small : beat.source < 65536 = omega arith in
    let fits : FitsReply (first_reply view.under.replying) beat = rw (← c.self.view_is) c.in_default.ensures.fits in
    let marked : IsMarkedBy links beat = c.in_default.ensures.marked in
    answer_first layout links map port own beyond view beat known c.args.lanes.now fits marked small reason
    (subst (λ (v : PortView). IsFirstOf (HasAnswerReason port (flight_in v beat.source).turn v.under.bus
    (may_be_unknown v.slave) beat known) reason_rank reason) c.self.view_is
    (rw (← c.flight-flight.ensures, ← c.may_be_unknown-unknown.ensures) c.in-Some-answer_reason.ensures.reason))

pub returns-clause-reason : goal.returns-clause-reason
returns-clause-reason c layout beyond map own =
    let links = c.args.rules in
    let view = c.args.self.now in
    let port = c.args.port in
    let beat = c.args.beat.now in
    let known = c.args.known in
    let small : beat.source < 65536 = omega arith in
    let fits : FitsReply (first_reply view.under.replying) beat = rw (← c.self.view_is) c.in_default.ensures.fits in
    let marked : IsMarkedBy links beat = c.in_default.ensures.marked in
    let answers : OfAsked port (flight_in view beat.source).turn
    (IsAnswer view.under.bus (may_be_unknown view.slave) beat known) =
    subst (λ (v : PortView). OfAsked port (flight_in v beat.source).turn
    (IsAnswer v.under.bus (may_be_unknown v.slave) beat known)) c.self.view_is
    (rw (← c.flight-flight.ensures, ← c.may_be_unknown-unknown.ensures) c.in_default-answer_reason.ensures.none) in
    let ends : IsTrue (ends_reply view.under.bus view.under.replying beat) =
    rw (← c.self.view_is) (sym c.ends_reply.ensures ∙ c.if-not-ends_reply.false) in
    if_some c.end_reason.result
    (λ (reason : Reason). end_first layout links map port own beyond view beat known c.args.lanes.now fits marked small answers ends reason)
    (c.end_reason.ensures.reason (wider_bus layout (Port port) port) beyond.crossing)

pub returns-clause-allowed : goal.returns-clause-allowed
returns-clause-allowed c layout beyond map own =
    let links = c.args.rules in
    let view = c.args.self.now in
    let port = c.args.port in
    let beat = c.args.beat.now in
    let known = c.args.known in
    let small : beat.source < 65536 = omega arith in
    let fits : FitsReply (first_reply view.under.replying) beat = rw (← c.self.view_is) c.in_default.ensures.fits in
    let marked : IsMarkedBy links beat = c.in_default.ensures.marked in
    let answers : OfAsked port (flight_in view beat.source).turn
    (IsAnswer view.under.bus (may_be_unknown view.slave) beat known) =
    subst (λ (v : PortView). OfAsked port (flight_in v beat.source).turn
    (IsAnswer v.under.bus (may_be_unknown v.slave) beat known)) c.self.view_is
    (rw (← c.flight-flight.ensures, ← c.may_be_unknown-unknown.ensures) c.in_default-answer_reason.ensures.none) in
    if_none c.end_reason.result
    (λ must. reply_allowed layout links map port own beyond view beat known c.args.lanes.now fits marked small answers (λ ends. must))
    (c.end_reason.ensures.none (wider_bus layout (Port port) port) beyond.crossing)
