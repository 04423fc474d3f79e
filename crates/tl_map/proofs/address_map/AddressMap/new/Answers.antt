use Rattle.tl_map.proofs.address_map.AddressMap.new.Goals as goal

pub keep-requires : goal.keep-requires
keep-requires c = record { ranges = c.requires; apart = c.in_default.ensures.none }
