use Rattle.std.proofs.Common.{◌≡◌, ◌<◌, ℕ, Some}
use Rattle.tl_audit.specs.Marks.{cell, rows_in}
use Rattle.tl_audit.proofs.marks.first_marked.Given as goal

-- no row so far has the mark
abbrev pub invariant-loop-port : goal.invariant-loop-port
invariant-loop-port l = (port index : ℕ) → port < l.port → cell (rows_in l.rows) port index ≡ Some l.mark → ⊥
