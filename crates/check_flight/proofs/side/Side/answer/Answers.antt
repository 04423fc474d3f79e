use Rattle.std.proofs.Common.{rules, ◌≡◌, ◌<◌, length, refl}
use Rattle.check_flight.specs.Flight.{asked, flight_due}
use Rattle.check_flight.specs.PortSlave.{due_answering}
use Rattle.check_flight.specs.Side.{flight_at}
use Rattle.check_flight.proofs.Served.{flights_served, flight_found}
use Rattle.check_flight.proofs.side.Side.answer.Goals as goal

pub returns-clause-slave : goal.returns-clause-slave
returns-clause-slave c =
    let flights = c.self.inside.flights.items in
    let within : c.args.place.wide < length flights = search rules in
    let found : c.index_mut.result.now ≡ flight_at flights c.args.place.wide =
    flight_found flights c.args.place.wide c.index_mut.result.now within c.index_mut.ensures.value in
    rw (← c.self.view_is, ← found) c.in_ok-answer.ensures.slave

pub returns-clause-side : goal.returns-clause-side
returns-clause-side c =
    let flights = c.self.inside.flights.items in
    let slave = c.args.slave.now in
    let within : c.args.place.wide < length flights = search rules in
    let found : c.index_mut.result.now ≡ flight_at flights c.args.place.wide =
    flight_found flights c.args.place.wide c.index_mut.result.now within c.index_mut.ensures.value in
    let due = due_answering c.args.place.port slave c.args.place.wide (asked (flight_at flights c.args.place.wide).turn) in
    let is : c.answer.new.self ≡ flight_due (flight_at flights c.args.place.wide) due =
    rw (← found) c.in_ok-answer.ensures.flight in
    rw (← c.self.view_is, is, flights_served flights c.args.place.wide due) refl
