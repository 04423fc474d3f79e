use Rattle.std.proofs.Common.{◌≡◌, map, length, take, replicate}
use Rattle.tl_audit.specs.Agrees.{journals_in}
use Rattle.tl_audit.specs.Marks.{rows_in}
use Rattle.tl_audit.specs.declared.marks.Mark.TheVariants.{Unnamed}
use Rattle.tl_audit.proofs.marks.unnamed.Given as goal

-- the histories so far have their marks
abbrev pub invariant-loop-history : goal.invariant-loop-history
invariant-loop-history l =
    rows_in l.rows.items ≡ map (λ history. replicate (length history) Unnamed)
    (journals_in (take l.history-index l.histories))
