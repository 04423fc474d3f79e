use Rattle.std.proofs.Common.{◌≡◌, ◌<◌, get_or, length, refl, arith}
use Rattle.std.proofs.lemmas.Option.{slice_get_read}
use Rattle.tl_map.specs.Map.{lists_in}
use Rattle.tl_map.proofs.Overlaps.{at_row, front_of_met, is_port, its_list, its_range, met_in_front, met_in_port, port_of_met, vector_at}
use Rattle.tl_map.proofs.address_map.meets_earlier.Goals as goal

pub returns-then-other-port : goal.returns-then-other-port
returns-then-other-port c =
    let vectors = c.args.ports.now in
    let ports = lists_in vectors in
    let other = c.args.other in
    let port = c.args.port in
    let place = c.args.place in
    let vector = c.index-ports-port.result in
    let range = get_or vector.items place (record { base = 0; length = 0 }) in
    let there = c.requires.there in
    let list_is = its_list vectors port place there vector c.index-ports-port.is in
    let at = at_row ports port place vector.items range list_is
    (its_range vectors port place there vector c.index-ports-port.is _) in
    let row = c.index-ports-other.result in
    let lower : other < port = omega arith in
    let inside = is_port vectors port place there in
    let row_is = vector_at vectors other row
    (slice_get_read vectors (length vectors) other row refl (omega (arith, inside, lower)) c.index-ports-other.is) in
    let met = rw (c.deref.ensures.value, c.as_slice-ranges.ensures.value) at c.meets.ensures in (
      λ so. met_in_port ports other port place row.items range lower row_is at (met.0 so),
      λ meets. met.1 (port_of_met ports other port place row.items range row_is at meets),
    )

pub returns-else-other-port : goal.returns-else-other-port
returns-else-other-port c =
    let vectors = c.args.ports.now in
    let ports = lists_in vectors in
    let port = c.args.port in
    let place = c.args.place in
    let vector = c.index-ports-port.result in
    let range = get_or vector.items place (record { base = 0; length = 0 }) in
    let there = c.requires.there in
    let list_is = its_list vectors port place there vector c.index-ports-port.is in
    let at = its_range vectors port place there vector c.index-ports-port.is (record { base = 0; length = 0 }) in
    let no_later = c.requires.no_later in
    let not_lower = c.if-other-port.false in
    let same : c.args.other ≡ port = omega arith in
    let met = rw c.as_slice-ranges.ensures.value at c.meets-else-other-port.ensures in
    rw same (
      λ so. met_in_front ports port place vector.items range list_is at (met.0 so),
      λ meets. met.1 (front_of_met ports port place vector.items range list_is at meets),
    )
