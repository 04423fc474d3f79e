-- The lines so far stand before those of the other rows.
use Rattle.std.proofs.Common.{◌≡◌, ◌++◌, drop, map}
use Rattle.check_samples.specs.Due.{due_text, kept_line}
use Rattle.check_samples.proofs.due.push_lines.Given as goal

abbrev pub invariant-loop-row : goal.invariant-loop-row
invariant-loop-row l =
    l.text.items ++ due_text (map (kept_line l.bits) (drop l.row-index l.rows))
    ≡ l.fn.text.items ++ due_text (map (kept_line l.bits) l.rows)
