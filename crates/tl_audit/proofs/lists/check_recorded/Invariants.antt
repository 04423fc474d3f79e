use Rattle.std.proofs.Common.{◌<◌, ℕ}
use Rattle.tl_types.specs.declared.trace.Entry.{Entry}
use Rattle.tl_journal.specs.Trace.{entries_in}
use Rattle.tl_audit.specs.Agrees.{HasEntry, IsRecorded, journals_in}
use Rattle.tl_audit.proofs.lists.check_recorded.Given as goal

-- each entry of the masters so far is the one at its port and index
abbrev pub invariant-loop-master : goal.invariant-loop-master
invariant-loop-master l =
    (m k : ℕ) (e : Entry) → m < l.master → HasEntry (entries_in l.traces) m k e
    → IsRecorded l.sources (journals_in l.histories) m e
