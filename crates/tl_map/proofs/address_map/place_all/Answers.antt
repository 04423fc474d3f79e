use Rattle.std.proofs.Common.{length, arith}
use Rattle.std.proofs.lemmas.List.{length-map}
use Rattle.tl_map.specs.Map.{lists_in}
use Rattle.tl_map.proofs.Listing.{placed_all}
use Rattle.tl_map.proofs.address_map.place_all.Goals as goal

pub returns : goal.returns
returns c =
    let ports = c.args.ports.now in
    let count = length-map ports (λ vector. vector.items) in
    placed_all (lists_in ports) (length ports) _ _ (omega (arith, count)) c.in_ok-list_all.ensures
    c.sorted_by_base.ensures.same c.sorted_by_base.ensures.rise
