-- The lines so far, and those of the entries that are left; the text begins with what it was.
use Rattle.std.proofs.Common.{◌≡◌, ◌++◌, drop}
use Rattle.tl_script.specs.History.{history_from, history_text}
use Rattle.tl_text.specs.Text.{BeginsWith}
use Rattle.tl_script.proofs.history.push_history.Given as goal

abbrev pub invariant-loop-index : goal.invariant-loop-index
invariant-loop-index l =
    (l.text.items ++ history_from l.port l.index (drop l.index l.history.items) ≡ l.initial.text.items
    ++ history_text l.port l.history.items)
    × BeginsWith l.initial.text.items l.text.items
