-- Sizes, after steps that write at places.
use Rattle.std.proofs.Common.{◌≡◌, ◌∙◌, ℕ, zero, suc, ◌<◌, List, [], ◌∷◌, length, refl, ap, subst, sym, length-set}
use Rattle.std.specs.Prelude.{slice_set, Result, Ok, Err, OnOk, OnErr}
use Rattle.check_beats.specs.State.{Under}
use Rattle.check_flight.specs.Crossing.{Crossing}
use Rattle.check_flight.specs.Flight.{Flight}
use Rattle.check_flight.specs.PortSlave.{PortSlave}
use Rattle.check_flight.specs.Side.{SideView, side_under, side_with, under_at}
use Rattle.check_watch.specs.Plan.{HasLink, Layout, bus_of, link_number}
use Rattle.check_watch.specs.View.{GroupView, IsSized, under_in, wides_in}
use Rattle.check_watch.specs.declared.beat.Link.{Link}
use Rattle.check_watch.specs.declared.beat.Link.TheVariants.{Master, Port}

-- as many links and flights, and the same buses
pub record SameShape (new old : SideView) : Type 0 where
  pub links : length new.links ≡ length old.links
  pub flights : length new.flights ≡ length old.flights
  pub buses : (number : ℕ) → (under_at new.links number).bus ≡ (under_at old.links number).bus

-- a link keeps its bus
put_bus : (links : List Under) (number k : ℕ) (under : Under) → under.bus ≡ (under_at links number).bus
    → (under_at (slice_set links number under) k).bus ≡ (under_at links k).bus
put_bus [] number k under is = refl
put_bus (x ∷ links) zero zero under is = is
put_bus (x ∷ links) zero (suc k) under is = refl
put_bus (x ∷ links) (suc n) zero under is = refl
put_bus (x ∷ links) (suc n) (suc k) under is = put_bus links n k under is

pub same_shape : (side : SideView) → SameShape side side
same_shape side = record { links = refl; flights = refl; buses = λ number. refl }

pub shape_with : (new side : SideView) (number wide : ℕ) (under : Under) (flight : Flight)
    → new ≡ side_with side number under wide flight → under.bus ≡ (under_at side.links number).bus → SameShape new side
shape_with new side number wide under flight is bus = record {
  links = ap (λ (s : SideView). length s.links) is ∙ length-set side.links number under;
  flights = ap (λ (s : SideView). length s.flights) is ∙ length-set side.flights wide flight;
  buses = λ k. ap (λ (s : SideView). (under_at s.links k).bus) is ∙ put_bus side.links number k under bus;
}

pub shape_under : (new side : SideView) (number : ℕ) (under : Under)
    → new ≡ side_under side number under → under.bus ≡ (under_at side.links number).bus → SameShape new side
shape_under new side number under is bus = record {
  links = ap (λ (s : SideView). length s.links) is ∙ length-set side.links number under;
  flights = ap (λ (s : SideView). length s.flights) is;
  buses = λ k. ap (λ (s : SideView). (under_at s.links k).bus) is ∙ put_bus side.links number k under bus;
}

shape_own : (new side : SideView) → new ≡ side → SameShape new side
shape_own new side is = record {
  links = ap (λ (s : SideView). length s.links) is;
  flights = ap (λ (s : SideView). length s.flights) is;
  buses = λ k. ap (λ (s : SideView). (under_at s.links k).bus) is;
}

-- the same of a step that may be refused
pub shape_tried : {T E : Type 0} (r : Result T E) (new side : SideView) (number wide : ℕ) (under : Under)
    (flight : Flight)
    → OnOk r (new ≡ side_with side number under wide flight) → OnErr r (new ≡ side)
    → under.bus ≡ (under_at side.links number).bus → SameShape new side
shape_tried (Ok v) new side number wide under flight is stays bus = shape_with new side number wide under flight is bus
shape_tried (Err e) new side number wide under flight is stays bus = shape_own new side stays

-- what is kept after a step of these shapes
pub sized_by : (layout : Layout) (masters ports : SideView) (crossings : List Crossing) (slaves : List PortSlave)
    (masters' ports' : SideView) (crossings' : List Crossing) (slaves' : List PortSlave)
    → IsSized (record {
      layout = layout;
      masters = masters;
      ports = ports;
      crossings = crossings;
      slaves = slaves;
    })
    → SameShape masters' masters → SameShape ports' ports → length crossings' ≡ length crossings
    → length slaves' ≡ length slaves
    → IsSized (record {
      layout = layout;
      masters = masters';
      ports = ports';
      crossings = crossings';
      slaves = slaves';
    })
sized_by layout masters ports crossings slaves masters' ports' crossings' slaves' sized ms ps cs ss = record {
  masters = ms.links ∙ sized.masters;
  ports = ps.links ∙ sized.ports;
  master_buses = λ number. ms.buses number ∙ sized.master_buses number;
  port_buses = λ number. ps.buses number ∙ sized.port_buses number;
  slaves = ss ∙ sized.slaves;
  at_masters = ms.flights ∙ sized.at_masters ∙ sym cs;
  at_ports = ps.flights ∙ sized.at_ports ∙ sym cs;
  owned = λ w owned. rw cs (sized.owned w owned);
}

-- the bus of what is kept of a link is the link's
pub bus_in : (view : GroupView) (link : Link) → IsSized view → (under_in view link).bus ≡ bus_of view.layout link
bus_in view (Master m) sized = sized.master_buses m
bus_in view (Port p) sized = sized.port_buses p

-- what is within the parts of a judge, of which this is the view
module _ (inside view : GroupView) (is_view : inside ≡ view) where
  pub slave_within : (port : ℕ) → port < length view.slaves → port < length inside.slaves
  slave_within port within = subst (λ (v : GroupView). port < length v.slaves) (sym is_view) within

  module _ (sized : IsSized inside) where
    pub wide_at_masters : (wide : ℕ) → wide < wides_in view → wide < length inside.masters.flights
    wide_at_masters wide within =
        rw sized.at_masters (subst (λ (v : GroupView). wide < wides_in v) (sym is_view) within)

    pub wide_at_ports : (wide : ℕ) → wide < wides_in view → wide < length inside.ports.flights
    wide_at_ports wide within = rw sized.at_ports (subst (λ (v : GroupView). wide < wides_in v) (sym is_view) within)

  module _ (link : Link) (number place : ℕ) (at : place ≡ link_number link) where
    pub link_at_masters : IsSized inside → link ≡ Master number → HasLink view.layout link
        → place < length inside.masters.links
    link_at_masters sized is known =
        let here : place ≡ number = rw is at at in
        let within : number < length view.layout.owners = rw is at known in
        rw (here, sized.masters) (subst (λ (v : GroupView). number < length v.layout.owners) (sym is_view) within)

    pub link_at_ports : IsSized inside → link ≡ Port number → HasLink view.layout link
        → place < length inside.ports.links
    link_at_ports sized is known =
        let here : place ≡ number = rw is at at in
        let within : number < length view.layout.ports = rw is at known in
        rw (here, sized.ports) (subst (λ (v : GroupView). number < length v.layout.ports) (sym is_view) within)

    -- what is under way there
    pub under_at_masters : link ≡ Master number → under_in view link ≡ under_at inside.masters.links place
    under_at_masters is = rw (← is_view, at, is) refl

    pub under_at_ports : link ≡ Port number → under_in view link ≡ under_at inside.ports.links place
    under_at_ports is = rw (← is_view, at, is) refl
