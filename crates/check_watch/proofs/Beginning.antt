-- What is kept before any beat.
use Rattle.std.proofs.Common.{◌≡◌, ◌∙◌, ℕ, List, [], ap, sym}
use Rattle.check_beats.specs.State.{nothing_under}
use Rattle.check_flight.specs.Crossing.Crossing.{Waiting}
use Rattle.check_flight.specs.Flight.{idle}
use Rattle.check_flight.specs.PortSlave.{PortSlave}
use Rattle.check_flight.specs.Side.{under_at, flight_at, bus_at}
use Rattle.check_watch.specs.Past.{slave_at}
use Rattle.check_watch.specs.Plan.{Layout, Plan, IsPlan, LinkSide, buses_of}
use Rattle.check_watch.specs.Plan.LinkSide.{AtMasters, AtPorts}
use Rattle.check_watch.specs.View.{GroupView, KeepsGroup, side_in, crossing_at}

module _ (plan : Plan) (view : GroupView) (lawful : IsPlan plan) (layout : plan.layout ≡ view.layout) where
  pub fresh_keeps : ((number : ℕ) → under_at view.masters.links number ≡ nothing_under
      (bus_at view.layout.master_buses number))
      → ((wide : ℕ) → flight_at view.masters.flights wide ≡ idle)
      → ((number : ℕ) → under_at view.ports.links number ≡ nothing_under (bus_at view.layout.port_buses number))
      → ((wide : ℕ) → flight_at view.ports.flights wide ≡ idle)
      → ((wide : ℕ) → crossing_at view.crossings wide ≡ Waiting) → view.slaves ≡ plan.resets
      → KeepsGroup plan [] view
  fresh_keeps mlinks mflights plinks pflights crossings slaves = record {
    suits = record { lawful = lawful; layout = sym layout };
    lawful = tt;
    state = record {
      links = links;
      flights = flights;
      crossings = crossings;
      slaves = λ port. ap (λ (s : List PortSlave). slave_at s port) slaves;
    };
  }
    where
      by_layout : (side : LinkSide) (number : ℕ) → nothing_under (bus_at (buses_of view.layout side) number)
          ≡ nothing_under (bus_at (buses_of plan.layout side) number)
      by_layout side number = ap (λ (l : Layout). nothing_under (bus_at (buses_of l side) number)) (sym layout)

      links : (side : LinkSide) (number : ℕ) → under_at (side_in view side).links number
          ≡ nothing_under (bus_at (buses_of plan.layout side) number)
      links AtMasters number = mlinks number ∙ by_layout AtMasters number
      links AtPorts number = plinks number ∙ by_layout AtPorts number

      flights : (side : LinkSide) (wide : ℕ) → flight_at (side_in view side).flights wide ≡ idle
      flights AtMasters wide = mflights wide
      flights AtPorts wide = pflights wide
