-- The slave serves the request in flight.
use Rattle.std.proofs.Common.{rules, ◌≡◌, ◌<◌, length, refl}
use Rattle.std.specs.Prelude.{IsTrue, IsSomeAnd, OnErr}
use Rattle.check_flight.specs.Flight.{asked}
use Rattle.check_flight.specs.PortSlave.{answering, due_answering, may_need_to_answer}
use Rattle.check_flight.specs.Side.{flight_at, side_due}
use Rattle.check_watch.specs.Past.{slave_at}
use Rattle.check_watch.proofs.Served.{slaves_answered, slave_found, on_both}
use Rattle.check_watch.proofs.watch.GroupWatch.answer.Goals as goal

pub returns-in-Master-clause-after : goal.returns-in-Master-clause-after
returns-in-Master-clause-after c =
    let slaves = c.self.inside.slaves.items in
    let port = c.args.place.port in
    let within : port < length slaves = search rules in
    let found : c.index_mut-slave.result.now ≡ slave_at slaves port =
    slave_found slaves port c.index_mut-slave.result.now within c.index_mut-slave.ensures.value in
    let wide = c.args.place.wide in
    let ask = asked (flight_at c.self.inside.masters.flights wide).turn in
    on_both c.answer.result (λ side slave.
    let side_is : c.answer.new.self ≡ side_due c.self.inside.masters wide
    (due_answering port (slave_at slaves port) wide ask) = rw (← found) side in
    let slave_is : c.answer.new.slave ≡ answering (slave_at slaves port) wide ask = rw (← found) slave in
    rw (← c.self.view_is, c.in-Master.is, side_is, slave_is, slaves_answered slaves port wide ask) refl)
    c.answer.ensures.side c.answer.ensures.slave

pub returns-in-Port-clause-after : goal.returns-in-Port-clause-after
returns-in-Port-clause-after c =
    let slaves = c.self.inside.slaves.items in
    let port = c.args.place.port in
    let within : port < length slaves = search rules in
    let found : c.index_mut-slave.result.now ≡ slave_at slaves port =
    slave_found slaves port c.index_mut-slave.result.now within c.index_mut-slave.ensures.value in
    let wide = c.args.place.wide in
    let ask = asked (flight_at c.self.inside.ports.flights wide).turn in
    on_both c.answer-in-Port.result (λ side slave.
    let side_is : c.answer-in-Port.new.self ≡ side_due c.self.inside.ports wide
    (due_answering port (slave_at slaves port) wide ask) = rw (← found) side in
    let slave_is : c.answer-in-Port.new.slave ≡ answering (slave_at slaves port) wide ask = rw (← found) slave in
    rw (← c.self.view_is, c.in-Port.is, side_is, slave_is, slaves_answered slaves port wide ask) refl)
    c.answer-in-Port.ensures.side c.answer-in-Port.ensures.slave

pub returns-in-Master-clause-needed : goal.returns-in-Master-clause-needed
returns-in-Master-clause-needed c =
    let slaves = c.self.inside.slaves.items in
    let port = c.args.place.port in
    let within : port < length slaves = search rules in
    let found : c.index_mut-slave.result.now ≡ slave_at slaves port =
    slave_found slaves port c.index_mut-slave.result.now within c.index_mut-slave.ensures.value in
    let ask = asked (flight_at c.self.inside.masters.flights c.args.place.wide).turn in
    let needs : OnErr c.answer.result (IsSomeAnd ask (λ ask. IsTrue (may_need_to_answer (slave_at slaves port) ask))) =
    rw (← found) c.answer.ensures.needed in
    rw (← c.self.view_is, c.in-Master.is) needs

pub returns-in-Port-clause-needed : goal.returns-in-Port-clause-needed
returns-in-Port-clause-needed c =
    let slaves = c.self.inside.slaves.items in
    let port = c.args.place.port in
    let within : port < length slaves = search rules in
    let found : c.index_mut-slave.result.now ≡ slave_at slaves port =
    slave_found slaves port c.index_mut-slave.result.now within c.index_mut-slave.ensures.value in
    let ask = asked (flight_at c.self.inside.ports.flights c.args.place.wide).turn in
    let needs : OnErr c.answer-in-Port.result (IsSomeAnd ask (λ ask. IsTrue (may_need_to_answer (slave_at slaves port) ask))) =
    rw (← found) c.answer-in-Port.ensures.needed in
    rw (← c.self.view_is, c.in-Port.is) needs
