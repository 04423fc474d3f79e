-- A port for each range so far.
use Rattle.std.proofs.Common.{◌≡◌, take}
use Rattle.tl_map.specs.Map.{lists_in, one_each}
use Rattle.tl_script.proofs.map.ports_of.Given as goal

abbrev pub invariant-loop-range : goal.invariant-loop-range
invariant-loop-range l = lists_in l.ports.items ≡ one_each (take l.range-index l.ranges)
