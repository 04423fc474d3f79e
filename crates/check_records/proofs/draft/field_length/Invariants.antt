-- No byte so far ends a field.
use Rattle.std.proofs.Common.{◌≡◌, ℕ, ◌<◌, get_or, false}
use Rattle.check_records.specs.Machine.{ends_field}
use Rattle.check_records.proofs.draft.field_length.Given as goal

abbrev pub invariant-loop-count : goal.invariant-loop-count
invariant-loop-count l = (place : ℕ) → place < l.count → ends_field (get_or l.text place 0) ≡ false
