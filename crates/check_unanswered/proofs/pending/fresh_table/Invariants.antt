use Rattle.std.proofs.Common.{◌≡◌, ℕ, None, vec_len}
use Rattle.check_unanswered.specs.Table.{open_at}
use Rattle.check_unanswered.proofs.pending.fresh_table.Given as goal

abbrev pub invariant-loop-wide : goal.invariant-loop-wide
invariant-loop-wide l = (vec_len l.table ≡ l._wide) × ((wide : ℕ) → open_at l.table.items wide ≡ None)
