-- A row that was read is one that the judge can take.
use Rattle.std.proofs.Common.{◌≡◌, ◌∙◌, ◌≤◌, Bool, List, true, false, length, option_map, unwrap_or, ap, arith, refl, subst, sym}
use Rattle.check_beats.specs.Bus.{bus_bytes}
use Rattle.check_beats.specs.declared.bus.Bus.{Bus}
use Rattle.check_beats.specs.declared.bus.Bus.TheVariants.{One, Two, Four, Eight, Sixteen, ThirtyTwo, SixtyFour}
use Rattle.check_beats.specs.declared.bus.TheConstants.{MAX_LANES}
use Rattle.check_flight.specs.Side.{bus_at}
use Rattle.check_rows.specs.Buses.{HasBus, IsLinkOf, IsLinkOfRow}
use Rattle.check_rows.specs.Moment.{IsLink}
use Rattle.check_rows.specs.declared.row.Row.{Row}
use Rattle.check_review.specs.View.{Layout, bus_of}
use Rattle.check_watch.specs.declared.beat.Link.{Link}
use Rattle.check_watch.specs.declared.beat.Link.TheVariants.{Master, Port}
use Rattle.tl_map.specs.declared.limits.TheConstants.{MAX_JUDGED_MASTERS, MAX_JUDGED_PORTS}
use Rattle.check_text.specs.Buses.{HasBuses, LinkBuses}
use Rattle.check_text.specs.Rows.{IsTakable}

-- a buffer has room for the lanes of any bus
pub bus_in_limit : (bus : Bus) → bus_bytes bus ≤ MAX_LANES
bus_in_limit One = omega arith
bus_in_limit Two = omega arith
bus_in_limit Four = omega arith
bus_in_limit Eight = omega arith
bus_in_limit Sixteen = omega arith
bus_in_limit ThirtyTwo = omega arith
bus_in_limit SixtyFour = omega arith

-- the judge knows the link's bus
bus_is : (layout : Layout) (buses : LinkBuses) (link : Link) (bus : Bus) → HasBuses layout buses
    → HasBus buses.masters buses.ports link bus → bus_of layout link ≡ bus_bytes bus
bus_is layout buses (Master number) bus same has =
    ap (λ all. bus_at all number) same.masters ∙ ap (λ b. unwrap_or (option_map bus_bytes b) 1) has
bus_is layout buses (Port number) bus same has =
    ap (λ all. bus_at all number) same.ports ∙ ap (λ b. unwrap_or (option_map bus_bytes b) 1) has

pub bus_fits : (layout : Layout) (buses : LinkBuses) (link : Link) (bus : Bus) → HasBuses layout buses
    → HasBus buses.masters buses.ports link bus → bus_of layout link ≤ bus_bytes bus
bus_fits layout buses link bus same has = let is = bus_is layout buses link bus same has in omega (arith, is)

-- ---- a row that was read

link_of_some : (buses : LinkBuses) (link : Link) → length buses.masters ≤ MAX_JUDGED_MASTERS
    → length buses.ports ≤ MAX_JUDGED_PORTS → IsLinkOf buses.masters buses.ports link → IsLink link
link_of_some buses (Master number) few_masters few_ports inside = omega (arith, few_masters, inside)
link_of_some buses (Port number) few_masters few_ports inside = omega (arith, few_ports, inside)

takable_by : (is_reset : Bool) (buses : LinkBuses) (row : Row) → row.is_reset ≡ is_reset
    → length buses.masters ≤ MAX_JUDGED_MASTERS → length buses.ports ≤ MAX_JUDGED_PORTS
    → IsLinkOfRow is_reset buses.masters buses.ports row.link row.bus → IsTakable buses row
takable_by true buses row is few_masters few_ports first = record {
  link = subst IsLink (sym first) (omega arith);
  bus = λ beat. absurd (cc (is, beat));
}
takable_by false buses row is few_masters few_ports of_link = record {
  link = link_of_some buses row.link few_masters few_ports of_link.0;
  bus = λ beat. of_link.1;
}

pub takable : (buses : LinkBuses) (row : Row) → length buses.masters ≤ MAX_JUDGED_MASTERS
    → length buses.ports ≤ MAX_JUDGED_PORTS
    → IsLinkOfRow row.is_reset buses.masters buses.ports row.link row.bus → IsTakable buses row
takable buses row few_masters few_ports is = takable_by row.is_reset buses row refl few_masters few_ports is
