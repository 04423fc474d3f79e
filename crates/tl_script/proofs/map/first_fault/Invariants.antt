use Rattle.tl_script.specs.declared.map.MapFault.TheVariants.{EmptyRange}
use Rattle.tl_script.specs.Map.{NoneBefore}
use Rattle.tl_script.proofs.map.first_fault.Given as goal

-- no fault is tried before those of this place
abbrev pub invariant-loop-place : goal.invariant-loop-place
invariant-loop-place l = NoneBefore l.ranges (EmptyRange l.place)
