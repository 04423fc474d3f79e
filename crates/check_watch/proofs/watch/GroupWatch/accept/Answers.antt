-- Sizes stay as they are, and the slave serves what is accepted.
use Rattle.std.proofs.Common.{◌≡◌, ◌∙◌, ◌<◌, ◌≤◌, length, Some, ap, refl, subst, length-set}
use Rattle.std.specs.Prelude.{IsTrue, OnErr, slice_set}
use Rattle.check_beats.specs.Form.{FitsAsk}
use Rattle.check_beats.specs.State.{Under, ask_of, ends_ask, first_ask}
use Rattle.check_flight.specs.Flight.Turn.{Asked}
use Rattle.check_flight.specs.PortSlave.{PortSlave, accepting, due_accepting, may_need_to_accept}
use Rattle.check_flight.specs.Side.{ask_ended, side_with, under_at}
use Rattle.check_flight.proofs.Served.{set_own}
use Rattle.check_watch.specs.Past.{no_slave, slave_at}
use Rattle.check_watch.proofs.Served.{slave_found, on_both, on_both_err}
use Rattle.check_watch.proofs.Sized.{link_at_masters, link_at_ports, same_shape, shape_tried, sized_by, slave_within, under_at_masters, under_at_ports, wide_at_masters, wide_at_ports}
use Rattle.check_watch.proofs.watch.GroupWatch.accept.Goals as goal

pub invariant_of-self : goal.invariant_of-self
invariant_of-self c =
    sized_by _ c.self.inside.masters c.self.inside.ports c.self.inside.crossings.items c.self.inside.slaves.items _ _ _ _
    c.self.invariant (shape_tried c.accept.result c.accept.new.self c.self.inside.masters _ _ _ _ c.accept.ensures.side c.accept.ensures.unchanged refl) (same_shape _) refl
    (length-set c.self.inside.slaves.items c.args.place.port c.accept.new.slave)

pub invariant_of-self-in-Port : goal.invariant_of-self-in-Port
invariant_of-self-in-Port c =
    sized_by _ c.self.inside.masters c.self.inside.ports c.self.inside.crossings.items c.self.inside.slaves.items _ _ _ _
    c.self.invariant (same_shape _) (shape_tried c.accept-in-Port.result c.accept-in-Port.new.self c.self.inside.ports _ _ _ _ c.accept-in-Port.ensures.side c.accept-in-Port.ensures.unchanged refl) refl
    (length-set c.self.inside.slaves.items c.args.place.port c.accept-in-Port.new.slave)

pub returns-in-Master-clause-after : goal.returns-in-Master-clause-after
returns-in-Master-clause-after c =
    let slaves = c.self.inside.slaves.items in
    let port = c.args.place.port in
    let within : port < length slaves = slave_within _ _ c.self.view_is _ c.requires.port in
    let found : c.index_mut-slave.result.now ≡ slave_at slaves port =
    slave_found slaves port c.index_mut-slave.result.now within c.index_mut-slave.ensures.value in
    let m = c.in-Master.field-0 in
    let at : c.args.place.link ≡ m = rw c.in-Master.is at c.requires.at in
    let under = under_at c.self.inside.masters.links m in
    let ask = ask_of under.bus under.asking c.args.beat.now c.args.lanes.now in
    on_both c.accept.result (λ side slave.
    let side_is : c.accept.new.self ≡ side_with c.self.inside.masters m (ask_ended under) c.args.place.wide
    (record { turn = Asked m ask; due = due_accepting port (slave_at slaves port) (Some ask) }) = rw (← found, ← at) side in
    let slave_is : c.accept.new.slave ≡ accepting (slave_at slaves port) c.args.place.wide (Some ask) = rw (← found, ← at) slave in
    rw (← c.self.view_is, c.in-Master.is, side_is, slave_is) refl)
    c.accept.ensures.side c.accept.ensures.slave

pub returns-in-Port-clause-after : goal.returns-in-Port-clause-after
returns-in-Port-clause-after c =
    let slaves = c.self.inside.slaves.items in
    let port = c.args.place.port in
    let within : port < length slaves = slave_within _ _ c.self.view_is _ c.requires.port in
    let found : c.index_mut-slave.result.now ≡ slave_at slaves port =
    slave_found slaves port c.index_mut-slave.result.now within c.index_mut-slave.ensures.value in
    let m = c.in-Port.field-0 in
    let at : c.args.place.link ≡ m = rw c.in-Port.is at c.requires.at in
    let under = under_at c.self.inside.ports.links m in
    let ask = ask_of under.bus under.asking c.args.beat.now c.args.lanes.now in
    on_both c.accept-in-Port.result (λ side slave.
    let side_is : c.accept-in-Port.new.self ≡ side_with c.self.inside.ports m (ask_ended under) c.args.place.wide
    (record { turn = Asked m ask; due = due_accepting port (slave_at slaves port) (Some ask) }) = rw (← found, ← at) side in
    let slave_is : c.accept-in-Port.new.slave ≡ accepting (slave_at slaves port) c.args.place.wide (Some ask) = rw (← found, ← at) slave in
    rw (← c.self.view_is, c.in-Port.is, side_is, slave_is) refl)
    c.accept-in-Port.ensures.side c.accept-in-Port.ensures.slave

pub returns-in-Master-clause-needed : goal.returns-in-Master-clause-needed
returns-in-Master-clause-needed c =
    let slaves = c.self.inside.slaves.items in
    let port = c.args.place.port in
    let within : port < length slaves = slave_within _ _ c.self.view_is _ c.requires.port in
    let found : c.index_mut-slave.result.now ≡ slave_at slaves port =
    slave_found slaves port c.index_mut-slave.result.now within c.index_mut-slave.ensures.value in
    let m = c.in-Master.field-0 in
    let at : c.args.place.link ≡ m = rw c.in-Master.is at c.requires.at in
    let under = under_at c.self.inside.masters.links m in
    let ask = ask_of under.bus under.asking c.args.beat.now c.args.lanes.now in
    let needs : OnErr c.accept.result (IsTrue (may_need_to_accept (slave_at slaves port) ask)) =
    rw (← found, ← at) c.accept.ensures.needed in
    rw (← c.self.view_is, c.in-Master.is) needs

pub returns-in-Master-clause-err : goal.returns-in-Master-clause-err
returns-in-Master-clause-err c =
    let slaves = c.self.inside.slaves.items in
    let port = c.args.place.port in
    let within : port < length slaves = slave_within _ _ c.self.view_is _ c.requires.port in
    let found : c.index_mut-slave.result.now ≡ slave_at slaves port =
    slave_found slaves port c.index_mut-slave.result.now within c.index_mut-slave.ensures.value in
    on_both_err c.accept.result (λ (side : c.accept.new.self ≡ c.self.inside.masters)
    (slave : c.accept.new.slave ≡ c.index_mut-slave.result.now).
    let slaves_are : slice_set slaves port c.accept.new.slave ≡ slaves =
    ap (λ (s : PortSlave). slice_set slaves port s) (slave ∙ found) ∙ set_own no_slave slaves port in
    rw (← c.self.view_is, side, slaves_are) refl) c.accept.ensures.unchanged c.accept.ensures.slave_unchanged

pub returns-in-Port-clause-needed : goal.returns-in-Port-clause-needed
returns-in-Port-clause-needed c =
    let slaves = c.self.inside.slaves.items in
    let port = c.args.place.port in
    let within : port < length slaves = slave_within _ _ c.self.view_is _ c.requires.port in
    let found : c.index_mut-slave.result.now ≡ slave_at slaves port =
    slave_found slaves port c.index_mut-slave.result.now within c.index_mut-slave.ensures.value in
    let m = c.in-Port.field-0 in
    let at : c.args.place.link ≡ m = rw c.in-Port.is at c.requires.at in
    let under = under_at c.self.inside.ports.links m in
    let ask = ask_of under.bus under.asking c.args.beat.now c.args.lanes.now in
    let needs : OnErr c.accept-in-Port.result (IsTrue (may_need_to_accept (slave_at slaves port) ask)) =
    rw (← found, ← at) c.accept-in-Port.ensures.needed in
    rw (← c.self.view_is, c.in-Port.is) needs

pub returns-in-Port-clause-err : goal.returns-in-Port-clause-err
returns-in-Port-clause-err c =
    let slaves = c.self.inside.slaves.items in
    let port = c.args.place.port in
    let within : port < length slaves = slave_within _ _ c.self.view_is _ c.requires.port in
    let found : c.index_mut-slave.result.now ≡ slave_at slaves port =
    slave_found slaves port c.index_mut-slave.result.now within c.index_mut-slave.ensures.value in
    on_both_err c.accept-in-Port.result (λ (side : c.accept-in-Port.new.self ≡ c.self.inside.ports)
    (slave : c.accept-in-Port.new.slave ≡ c.index_mut-slave.result.now).
    let slaves_are : slice_set slaves port c.accept-in-Port.new.slave ≡ slaves =
    ap (λ (s : PortSlave). slice_set slaves port s) (slave ∙ found) ∙ set_own no_slave slaves port in
    rw (← c.self.view_is, side, slaves_are) refl) c.accept-in-Port.ensures.unchanged c.accept-in-Port.ensures.slave_unchanged

pub accept-requires-clause-link : goal.accept-requires-clause-link
accept-requires-clause-link c =
    link_at_masters _ _ c.self.view_is _ _ _ c.requires.at c.self.invariant c.in-Master.is c.requires.known

pub accept-requires-clause-wide : goal.accept-requires-clause-wide
accept-requires-clause-wide c = wide_at_masters _ _ c.self.view_is c.self.invariant _ c.requires.wide

pub accept-requires-clause-fits : goal.accept-requires-clause-fits
accept-requires-clause-fits c =
    subst (λ (u : Under). FitsAsk u.bus (first_ask u.asking) c.args.beat.now)
    (under_at_masters _ _ c.self.view_is _ _ _ c.requires.at c.in-Master.is) c.requires.fits

pub accept-requires-clause-ends : goal.accept-requires-clause-ends
accept-requires-clause-ends c =
    subst (λ (u : Under). IsTrue (ends_ask u.bus u.asking c.args.beat.now))
    (under_at_masters _ _ c.self.view_is _ _ _ c.requires.at c.in-Master.is) c.requires.ends

pub accept-requires-clause-lanes : goal.accept-requires-clause-lanes
accept-requires-clause-lanes c =
    subst (λ (u : Under). u.bus ≤ length c.args.lanes.now)
    (under_at_masters _ _ c.self.view_is _ _ _ c.requires.at c.in-Master.is) c.requires.lanes

pub accept-requires-in-Port-clause-link : goal.accept-requires-in-Port-clause-link
accept-requires-in-Port-clause-link c =
    link_at_ports _ _ c.self.view_is _ _ _ c.requires.at c.self.invariant c.in-Port.is c.requires.known

pub accept-requires-in-Port-clause-wide : goal.accept-requires-in-Port-clause-wide
accept-requires-in-Port-clause-wide c = wide_at_ports _ _ c.self.view_is c.self.invariant _ c.requires.wide

pub accept-requires-in-Port-clause-fits : goal.accept-requires-in-Port-clause-fits
accept-requires-in-Port-clause-fits c =
    subst (λ (u : Under). FitsAsk u.bus (first_ask u.asking) c.args.beat.now)
    (under_at_ports _ _ c.self.view_is _ _ _ c.requires.at c.in-Port.is) c.requires.fits

pub accept-requires-in-Port-clause-ends : goal.accept-requires-in-Port-clause-ends
accept-requires-in-Port-clause-ends c =
    subst (λ (u : Under). IsTrue (ends_ask u.bus u.asking c.args.beat.now))
    (under_at_ports _ _ c.self.view_is _ _ _ c.requires.at c.in-Port.is) c.requires.ends

pub accept-requires-in-Port-clause-lanes : goal.accept-requires-in-Port-clause-lanes
accept-requires-in-Port-clause-lanes c =
    subst (λ (u : Under). u.bus ≤ length c.args.lanes.now)
    (under_at_ports _ _ c.self.view_is _ _ _ c.requires.at c.in-Port.is) c.requires.lanes
