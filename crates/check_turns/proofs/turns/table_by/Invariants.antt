-- The links so far are those of the flags so far.
use Rattle.std.proofs.Common.{◌≡◌, ℕ, false, take, vec_len}
use Rattle.std.specs.Prelude.{slice_index_or}
use Rattle.check_turns.specs.View.{IsFreshBy, turns_in}
use Rattle.check_turns.proofs.turns.table_by.Given as goal

abbrev pub invariant-loop-in_order : goal.invariant-loop-in_order
invariant-loop-in_order l =
    (vec_len l.table ≡ l.in_order-index)
    × ((number : ℕ) → IsFreshBy (slice_index_or (take l.in_order-index l.flags) number false) (turns_in l.table.items number))
