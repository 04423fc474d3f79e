-- What is kept before any beat.
use Rattle.std.proofs.Common.{◌≡◌, ◌∙◌, ℕ, zero, suc, ◌≤◌, List, [], ◌∷◌, length, Some, slice_get, refl, ap, sym, subst, arith}
use Rattle.std.specs.Prelude.{IsTrue}
use Rattle.check_beats.specs.declared.bus.Bus.{Bus}
use Rattle.check_flight.specs.PortSlave.{PortSlave}
use Rattle.check_flight.specs.Side.{bus_at}
use Rattle.check_watch.specs.Past.{slave_at}
use Rattle.check_watch.specs.Plan.{IsPlan, Layout}
use Rattle.check_watch.specs.View as group_view
use Rattle.check_watch.specs.declared.beat.Link.TheVariants.{Port}
use Rattle.check_sides.specs.Groups.{are_apart, shared_past, port_plan}
use Rattle.check_sides.specs.Plan.{Plan}
use Rattle.check_sides.specs.View.{HaveBuses, Keeps, KeepsPort, PortView, View, flight_in, fresh_link, fresh_links}
use Rattle.check_sides.proofs.Grouping.{apart_from}

pub shared_none : (layout : Layout) → shared_past layout [] ≡ []
shared_none layout = refl

-- the link that stands at a place
link_fresh : (buses : List Bus) (slaves : List PortSlave) (port : ℕ) (link : PortView)
    → slice_get (fresh_links buses slaves) port ≡ Some link
    → fresh_link (bus_at buses port) (slave_at slaves port) ≡ link
link_fresh [] slaves port link is = cc
link_fresh (bus ∷ buses) [] port link is = cc
link_fresh (bus ∷ buses) (slave ∷ slaves) zero link is = cc
link_fresh (bus ∷ buses) (slave ∷ slaves) (suc port) link is = link_fresh buses slaves port link is

-- each bus has its link, if it has its slave
pub length-fresh_links : (buses : List Bus) (slaves : List PortSlave) → length buses ≤ length slaves
    → length (fresh_links buses slaves) ≡ length buses
length-fresh_links [] slaves fits = refl
length-fresh_links (bus ∷ buses) [] fits = absurd (omega arith)
length-fresh_links (bus ∷ buses) (slave ∷ slaves) fits =
    let rest = length-fresh_links buses slaves (omega (arith, fits)) in omega (arith, rest)

pub fresh_buses : (buses : List Bus) (slaves : List PortSlave) → HaveBuses (fresh_links buses slaves) buses
fresh_buses buses slaves port link is =
    ap (λ (l : PortView). l.under.bus) (sym (link_fresh buses slaves port link is))

pub fresh_keeps : (plan : Plan) (view : View) → IsPlan plan → view.layout ≡ plan.layout
    → group_view.KeepsGroup plan [] view.shared
    → (IsTrue (are_apart plan.layout) → view.ports ≡ fresh_links plan.layout.port_buses plan.own)
    → Keeps plan [] view
fresh_keeps plan view lawful layout shared ports = record {
  suits = record { lawful = lawful; layout = layout };
  lawful = tt;
  shared = subst (λ p. group_view.KeepsGroup plan p view.shared) (sym (shared_none plan.layout)) shared;
  ports = λ port alone link found. fresh_port port link
      (ap (λ l. slice_get l port) (sym (ports (apart_from plan.layout (Port port) alone))) ∙ found);
}
  where
    fresh_port : (port : ℕ) (link : PortView)
        → slice_get (fresh_links plan.layout.port_buses plan.own) port ≡ Some link
        → KeepsPort (port_plan plan) port [] link
    fresh_port port link found =
        let is = link_fresh plan.layout.port_buses plan.own port link found in
        record {
          lawful = tt;
          under = ap (λ (l : PortView). l.under) is;
          flights = λ source. ap (λ (l : PortView). flight_in l source) is;
          slave = ap (λ (l : PortView). l.slave) is;
          unkept = λ source none. tt;
        }
