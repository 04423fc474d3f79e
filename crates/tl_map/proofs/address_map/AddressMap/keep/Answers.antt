use Rattle.tl_map.proofs.address_map.AddressMap.keep.Goals as goal

pub invariant_of-result : goal.invariant_of-result
invariant_of-result c =
    rw c.in_ok-ports.ensures (record { lawful = c.requires; placed = c.in_ok-placed.ensures })
