-- The first links are reset, and the others are as they were.
use Rattle.std.proofs.Common.{◌≡◌, ℕ, ◌<◌, ◌≤◌, length}
use Rattle.std.specs.Prelude.{is_some}
use Rattle.check_turns.specs.View.{IsFreshBy, turns_in}
use Rattle.check_turns.proofs.turns.reset_table.Given as goal

abbrev pub invariant-loop-number : goal.invariant-loop-number
invariant-loop-number l = record {
  counted : length l.table ≡ length l.initial.table;
  done : (other : ℕ) → other < l.number → IsFreshBy (is_some (turns_in l.initial.table other)) (turns_in l.table other);
  rest : (other : ℕ) → l.number ≤ other → turns_in l.table other ≡ turns_in l.initial.table other;
}
