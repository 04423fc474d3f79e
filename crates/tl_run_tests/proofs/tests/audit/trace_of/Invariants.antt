use Rattle.std.proofs.Common.{◌≡◌, length}
use Rattle.tl_run_tests.proofs.tests.audit.trace_of.Given as goal

-- the entries so far, and room for all
abbrev pub invariant-loop-message : goal.invariant-loop-message
invariant-loop-message g l = record {
  count : length l.trace.items ≡ l.message-index;
  room : l.trace.room ≡ length l.entries;
}
