use Rattle.std.proofs.Common.{◌≡◌, ◌∙◌, ◌<◌, true, false, length, set, ap, sym, subst, rules}
use Rattle.check_flight.specs.PortSlave.{once_cut}
use Rattle.check_watch.specs.Past.{slave_at}
use Rattle.check_watch.specs.Reset.{port_asked}
use Rattle.check_watch.specs.Scene.{takes_effect}
use Rattle.check_watch.specs.View.{GroupView}
use Rattle.check_watch.proofs.Resetting.{goes_is, alone_cut, alone_none, slave_there}
use Rattle.check_watch.proofs.watch.GroupWatch.cut_at.Goals as goal

pub returns-in_ok-cut_short-clause-cut : goal.returns-in_ok-cut_short-clause-cut
returns-in_ok-cut_short-clause-cut c = λ plan suits.
    let view = c.args.self.now in
    let ask = c.args.ask.now in
    let port = c.port-port.result in
    let goes : port_asked plan c.args.link ask ≡ port =
    goes_is plan view c.args.link ask port suits
    (λ number other at. rw (← c.address.ensures, ← c.size.ensures.value) (c.port-port.ensures.master number other at))
    c.port-port.ensures.port in
    let effect : true ≡ takes_effect view.layout c.args.link port = search rules in
    let same : c.self.inside.slaves.items ≡ view.slaves = ap (λ (v : GroupView). v.slaves) c.self.view_is in
    let here : slave_at view.slaves port ≡ c.index_mut.result.now =
    ap (λ s. slave_at s port) (sym same)
    ∙ slave_there c.self.inside.slaves.items port c.index_mut.result.now
    (subst (λ s. port < length s) (sym same) c.port-port.ensures.in_ports) c.index_mut.ensures.value in
    alone_cut plan view c.args.link ask port suits goes
    (set c.self.inside.slaves.items port c.cut_short.new.self) c.requires c.port-port.ensures.in_ports effect
    (ap (λ s. set s port c.cut_short.new.self) same
    ∙ ap (λ s. set view.slaves port s) (c.in_ok-cut_short.ensures.cut ∙ ap (λ s. once_cut s ask) (sym here)))

pub returns-else-takes_effect-clause-cut : goal.returns-else-takes_effect-clause-cut
returns-else-takes_effect-clause-cut c = λ plan suits.
    let view = c.args.self.now in
    let ask = c.args.ask.now in
    let port = c.port-port.result in
    let goes : port_asked plan c.args.link ask ≡ port =
    goes_is plan view c.args.link ask port suits
    (λ number other at. rw (← c.address.ensures, ← c.size.ensures.value) (c.port-port.ensures.master number other at))
    c.port-port.ensures.port in
    let effect : false ≡ takes_effect view.layout c.args.link port = search rules in
    alone_none plan view c.args.link ask port suits goes effect
