use Rattle.tl_types.specs.List.{HoldsBelow}
use Rattle.tl_beats.specs.Faults.{SameReplyFields}
use Rattle.tl_beats.proofs.reply_assemble.first_changed.Given as goal

-- none of the beats so far has changed
abbrev pub invariant-loop-b : goal.invariant-loop-b
invariant-loop-b l = HoldsBelow (SameReplyFields l.first) l.beats l.b
