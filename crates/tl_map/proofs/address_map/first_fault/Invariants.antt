use Rattle.tl_map.specs.Map.{AreApartBefore, lists_in}
use Rattle.tl_map.proofs.address_map.first_fault.Given as goal

-- none of the ranges of the ports so far meets an earlier one
abbrev pub invariant-loop-port : goal.invariant-loop-port
invariant-loop-port l = AreApartBefore (lists_in l.ports) l.port 0
