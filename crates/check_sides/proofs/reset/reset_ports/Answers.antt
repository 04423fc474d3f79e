use Rattle.std.proofs.Common.{◌≡◌, ◌∙◌, Some, get_or, slice_get, Option, sym, ap, subst, arith, rules}
use Rattle.check_memory.specs.declared.slave.Slave.{Slave}
use Rattle.check_sides.specs.Reset.{IsResetOf}
use Rattle.check_sides.specs.View.{PortView}
use Rattle.check_sides.proofs.Restarting.{all_reset, one_more_reset, stands_there}
use Rattle.check_sides.proofs.reset.reset_ports.Goals as goal

pub loop-port-preserved : goal.loop-port-preserved
loop-port-preserved c =
    let port = c.loop-port.port in
    let link = c.index-ports-port.result in
    let read : link ≡ get_or c.loop-port.ports port link = search rules in
    let here : slice_get c.loop-port.ports port ≡ Some link =
    stands_there c.loop-port.ports port link (omega (arith, c.loop-port-test.true, c.loop-port.invariant.counted)) read in
    one_more_reset c.args.ports.now c.loop-port.ports c.args.loaded.now c.loop-port.loaded c.take_load.new.loaded port link
    c.reset.new.self c.loop-port.invariant here (c.reset.ensures.bus ∙ ap (λ (v : PortView). v.under.bus) (sym read))
    (subst (λ (l : Option Slave). IsResetOf link port l c.reset.new.self) c.take_load.ensures.value
    (subst (λ (v : PortView). IsResetOf v port c.take_load.result c.reset.new.self) (sym read) c.in_ok-reset.ensures.reset))
    c.take_load.ensures.rest

pub returns-clause-reset : goal.returns-clause-reset
returns-clause-reset c =
    all_reset c.args.ports.now c.loop-port.ports c.args.loaded.now c.loop-port.loaded c.loop-port.port
    (omega (arith, c.loop-port-test.false)) c.loop-port.invariant
