use Rattle.std.proofs.Common.{All, take}
use Rattle.tl_audit.specs.Agrees.{IsRecorded, journals_in}
use Rattle.tl_audit.proofs.lists.first_unrecorded.Given as goal

-- each entry so far is the one at its port and index
abbrev pub invariant-loop-place : goal.invariant-loop-place
invariant-loop-place l = All (IsRecorded l.sources (journals_in l.histories) l.master) (take l.place l.trace.items)
