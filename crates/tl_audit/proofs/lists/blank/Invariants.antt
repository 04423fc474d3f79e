use Rattle.std.proofs.Common.{◌≡◌, None, replicate}
use Rattle.tl_audit.specs.Marks.{rows_in}
use Rattle.tl_audit.proofs.lists.blank.Given as goal

-- a row for each port so far
abbrev pub invariant-loop : goal.invariant-loop
invariant-loop l = rows_in l.lasts.items ≡ replicate l.counter (replicate l.sources None)
