-- The slave may need memory for the request that it answers, which is there if the reply begins.
use Rattle.std.proofs.Common.{◌≡◌, Option, None, sym, subst}
use Rattle.std.specs.Prelude.{IsSomeAnd, IsTrue, OnErr}
use Rattle.check_beats.specs.State.{ReplyBegun}
use Rattle.check_flight.specs.Flight.{asked}
use Rattle.check_flight.specs.PortSlave.{may_need_to_answer}
use Rattle.check_watch.specs.Scene.{ask_if, begins_reply}
use Rattle.check_sides.specs.View.{MayNeedToAnswer, PortView, flight_in}
use Rattle.check_sides.proofs.port.PortLink.answer_first.Goals as goal

pub returns-then-begins_reply-clause-needed : goal.returns-then-begins_reply-clause-needed
returns-then-begins_reply-clause-needed c =
    let view : PortView =
    record { under = c.self.inside.under; flights = c.self.inside.flights; slave = c.self.inside.slave } in
    let none : view.under.replying ≡ None = c.begins_reply.ensures.0 c.if-begins_reply.true in
    let needed = subst (λ (replying : Option ReplyBegun). OnErr c.answer.result
    (IsSomeAnd (ask_if (begins_reply replying) (asked (flight_in view c.args.source).turn))
    (λ ask. IsTrue (may_need_to_answer view.slave ask)))) (sym none) c.answer.ensures.needed in
    subst (λ (v : PortView). OnErr c.answer.result (MayNeedToAnswer v c.args.source)) c.self.view_is needed
