use Rattle.tl_map.specs.Map.{AreApartBefore, lists_in}
use Rattle.tl_map.proofs.address_map.port_fault.Given as goal

-- none of the ranges so far meets an earlier one
abbrev pub invariant-loop-place : goal.invariant-loop-place
invariant-loop-place l = AreApartBefore (lists_in l.ports) l.port l.place
