use Rattle.std.proofs.Common.{◌≡◌, take}
use Rattle.tl_map.specs.Map.{lists_in}
use Rattle.tl_map.proofs.address_map.copy_all.Given as goal

-- the copies are those of the ports so far
abbrev pub invariant-loop-ranges : goal.invariant-loop-ranges
invariant-loop-ranges l = lists_in l.copies.items ≡ lists_in (take l.ranges-index l.ports)
