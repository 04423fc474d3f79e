-- Nothing stands in the columns so far.
use Rattle.std.proofs.Common.{◌≡◌, drop, map}
use Rattle.check_rows.specs.Columns.{are_empty}
use Rattle.check_rows.proofs.columns.are_empty.Given as goal

abbrev pub invariant-loop-word : goal.invariant-loop-word
invariant-loop-word l =
    are_empty (map (λ word. word.now) (drop l.word-index l.words)) ≡ are_empty (map (λ word. word.now) l.words)
