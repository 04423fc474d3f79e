use Rattle.std.proofs.Common.{length, refl, arith}
use Rattle.std.proofs.lemmas.Option.{slice_get_read}
use Rattle.tl_map.specs.Map.{lists_in}
use Rattle.tl_map.proofs.Overlaps.{more_apart, next_port, vector_at}
use Rattle.tl_map.proofs.address_map.port_fault.Goals as goal

pub loop-place-preserved : goal.loop-place-preserved
loop-place-preserved c = more_apart (lists_in c.args.ports.now) c.args.port c.loop-place.place c.loop-place.invariant
    c.in_default.ensures.none

pub returns-clause-none : goal.returns-clause-none
returns-clause-none c =
    let ports = c.args.ports.now in
    let port = c.args.port in
    let ranges = c.index-ports-port.result in
    let is = vector_at ports port ranges
    (slice_get_read ports (length ports) port ranges refl c.requires.within c.index-ports-port.is) in
    next_port (lists_in ports) port c.loop-place.place ranges.items is (omega arith) c.loop-place.invariant
