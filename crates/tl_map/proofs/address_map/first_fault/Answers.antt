use Rattle.std.proofs.Common.{arith}
use Rattle.std.proofs.lemmas.List.{length-map}
use Rattle.tl_map.specs.Map.{lists_in}
use Rattle.tl_map.proofs.Overlaps.{all_apart, none_before, only_memory}
use Rattle.tl_map.proofs.address_map.first_fault.Goals as goal

pub loop-port-init : goal.loop-port-init
loop-port-init c = none_before (lists_in c.args.ports.now)

pub returns-clause-none : goal.returns-clause-none
returns-clause-none c =
    let ports = c.args.ports.now in
    let count = length-map ports (λ vector. vector.items) in
    all_apart (lists_in ports) c.loop-port.port (omega (arith, count)) c.loop-port.invariant

pub returns-clause-memory : goal.returns-clause-memory
returns-clause-memory c =
    let ports = c.args.ports.now in
    let count = length-map ports (λ vector. vector.items) in
    only_memory (lists_in ports)
    (all_apart (lists_in ports) c.loop-port.port (omega (arith, count)) c.loop-port.invariant)
