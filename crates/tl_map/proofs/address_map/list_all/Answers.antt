use Rattle.std.proofs.Common.{length, refl}
use Rattle.std.proofs.lemmas.Option.{slice_get_read}
use Rattle.tl_map.specs.Map.{lists_in}
use Rattle.tl_map.proofs.Listing.{listed_more}
use Rattle.tl_map.proofs.Overlaps.{vector_at}
use Rattle.tl_map.proofs.address_map.list_all.Goals as goal

pub loop-port-preserved : goal.loop-port-preserved
loop-port-preserved c =
    let ports = c.args.ports.now in
    let port = c.loop-port.port in
    let ranges = c.index-ports-port.result in
    let is = vector_at ports port ranges
    (slice_get_read ports (length ports) port ranges refl c.loop-port-test.true c.index-ports-port.is) in
    rw (c.in_ok-list_port.ensures, c.deref.ensures.value)
    (listed_more (lists_in ports) port ranges.items c.loop-port.placed.items is c.loop-port.invariant)
