use Rattle.std.proofs.Common.{◌≡◌, ◌∙◌, ℕ, Option, refl, ap}
use Rattle.std.specs.Prelude.{option_map, unwrap_or}
use Rattle.tl_types.specs.Request.{Request}
use Rattle.check_cells.specs.Sent.{Sent}
use Rattle.check_beats.specs.State.{reply_of}
use Rattle.check_flight.specs.Flight.{Flight, Turn, asked}
use Rattle.check_flight.specs.Flight.Turn.{Idle, Asking, Asked}
use Rattle.check_watch.specs.Scene.{address_in}
use Rattle.check_sides.specs.View.{PortView, captured_in, flight_in}
use Rattle.check_sides.proofs.port.PortLink.capture.Goals as goal
use Rattle.check_sides.proofs.port.PortLink.capture.Goals.{in-Some, in-None}

address_of : (turn : Turn) → unwrap_or (option_map (λ (sent : Sent). sent.ask.address) (asked turn)) 0 ≡ address_in turn
address_of Idle = refl
address_of (Asking at) = refl
address_of (Asked at ask) = refl

pub returns : goal.returns
returns c =
    let beat = c.args.beat.now in
    let lanes = c.args.lanes.now in
    let found : c.match-asked.address
    ≡ unwrap_or (option_map (λ (sent : Sent). sent.ask.address) (option_map (λ sent. sent.now) c.asked.result)) 0 =
    elim c.match-asked.branch [
      | in-Some w ↦ rw w.in-Some.is (w.address-is ∙ w.address-address.ensures ∙ ap (λ (r : Request). r.address) w.ask.ensures)
      | in-None w ↦ rw w.in-None.is w.address-is
    ] in
    let turn = ap (λ (f : Flight). f.turn) c.flight.ensures in
    let address : c.match-asked.address ≡ address_in (flight_in (record {
      under = c.self.inside.under;
      flights = c.self.inside.flights;
      slave = c.self.inside.slave;
    }) beat.source).turn =
    found ∙ ap (λ (o : Option Sent). unwrap_or (option_map (λ (sent : Sent). sent.ask.address) o) 0) c.asked.ensures
    ∙ address_of c.flight.result.now.turn ∙ ap address_in turn in
    c.reply_into.ensures
    ∙ ap (λ (a : ℕ). reply_of c.self.inside.under.bus c.self.inside.under.replying a beat c.args.known lanes) address
    ∙ ap (λ (p : PortView). captured_in p beat c.args.known lanes) c.self.view_is
