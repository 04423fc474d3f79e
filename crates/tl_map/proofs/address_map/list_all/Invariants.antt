use Rattle.tl_map.specs.Map.{lists_in}
use Rattle.tl_map.specs.Placed.{AreListed}
use Rattle.tl_map.proofs.address_map.list_all.Given as goal

-- the ranges of the ports so far are listed
abbrev pub invariant-loop-port : goal.invariant-loop-port
invariant-loop-port l = AreListed (lists_in l.ports) l.port l.placed.items
