use Rattle.std.proofs.Common.{IsTrue, arith}
use Rattle.std.proofs.lemmas.List.{length-map}
use Rattle.tl_map.specs.Map.{lists_in}
use Rattle.tl_map.proofs.Routing.{by_last, last_port, none_holds, routed_nowhere, routed_to}
use Rattle.tl_map.proofs.address_map.port_of.Goals as goal

pub returns-in_default-clause-port : goal.returns-in_default-clause-port
returns-in_default-clause-port c port =
    let ports = lists_in c.args.ports.now in
    rw (← length-map c.args.ports.now (λ vector. vector.items))
    (routed_nowhere ports c.args.address c.args.size
    (none_holds ports c.args.placed.now c.requires.kept c.args.address c.args.size c.in_default.ensures.none) port)

pub returns-then-holds-clause-port : goal.returns-then-holds-clause-port
returns-then-holds-clause-port c port =
    routed_to (lists_in c.args.ports.now) c.args.placed.now c.requires.kept c.args.address c.args.size c.in-Some.last
    c.in-Some.ensures.found (c.holds.ensures.0 c.if-holds.true) port

pub returns-then-holds-clause-in_ports : goal.returns-then-holds-clause-in_ports
returns-then-holds-clause-in_ports c =
    let below = last_port (lists_in c.args.ports.now) c.args.placed.now c.requires.kept c.in-Some.last
    c.in-Some.ensures.found.is in
    omega (arith, below)

pub returns-else-holds-clause-port : goal.returns-else-holds-clause-port
returns-else-holds-clause-port c port =
    let ports = lists_in c.args.ports.now in
    rw (← length-map c.args.ports.now (λ vector. vector.items))
    (routed_nowhere ports c.args.address c.args.size
    (λ other at.
    let held = by_last ports c.args.placed.now c.requires.kept c.args.address c.args.size c.in-Some.last
    c.in-Some.ensures.found other at in
    let holds : IsTrue c.holds.result = c.holds.ensures.1 held.0 in
    let not = c.if-holds.false in
    cc) port)
