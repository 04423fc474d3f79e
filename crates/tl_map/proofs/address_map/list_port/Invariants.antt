use Rattle.std.proofs.Common.{◌≡◌, ◌++◌, map, take}
use Rattle.tl_map.specs.Placed.{placed_at}
use Rattle.tl_map.proofs.address_map.list_port.Given as goal

-- the ranges so far are added
abbrev pub invariant-loop-range : goal.invariant-loop-range
invariant-loop-range l =
    l.placed.items ≡ l.initial.placed.items ++ map (placed_at l.port) (take l.range-index l.ranges)
