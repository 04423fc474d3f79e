use Rattle.tl_types.specs.List.{HoldsBelow}
use Rattle.tl_beats.specs.Faults.{SameReplyFields}
use Rattle.tl_beats.specs.Reading.{HasLawfulFlag}
use Rattle.tl_beats.proofs.reply_assemble.check_reply_beats.Given as goal

-- the beats so far have no fault
abbrev pub invariant-loop-b : goal.invariant-loop-b
invariant-loop-b l = record {
  same : HoldsBelow (SameReplyFields l.first) l.beats l.b;
  flags : HoldsBelow (HasLawfulFlag l.fn.op l.first) l.beats l.b;
}
