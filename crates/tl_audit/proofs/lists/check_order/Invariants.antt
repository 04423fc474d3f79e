use Rattle.std.proofs.Common.{◌≡◌, ◌<◌, ℕ, List, Some, slice_get}
use Rattle.tl_types.specs.declared.trace.Entry.{Entry}
use Rattle.tl_journal.specs.Trace.{entries_in}
use Rattle.tl_audit.specs.Agrees.{IsNeverOutOfOrder}
use Rattle.tl_audit.proofs.lists.check_order.Given as goal

-- the traces of the masters so far are in order
abbrev pub invariant-loop-master : goal.invariant-loop-master
invariant-loop-master l =
    (m : ℕ) (trace : List Entry) → m < l.master → slice_get (entries_in l.traces) m ≡ Some trace
    → IsNeverOutOfOrder trace
