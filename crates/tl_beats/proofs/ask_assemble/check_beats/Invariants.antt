use Rattle.tl_types.specs.List.{HoldsBelow}
use Rattle.tl_beats.specs.Faults.{SameFields}
use Rattle.tl_beats.specs.Reading.{HasLawfulMask}
use Rattle.tl_beats.proofs.ask_assemble.check_beats.Given as goal

-- the beats so far have no fault
abbrev pub invariant-loop-b : goal.invariant-loop-b
invariant-loop-b l = record {
  same : HoldsBelow (SameFields l.first) l.beats l.b;
  masks : HoldsBelow (HasLawfulMask l.op l.first) l.beats l.b;
}
