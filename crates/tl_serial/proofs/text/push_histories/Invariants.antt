-- The lines so far, and those of the ports that are left.
use Rattle.std.proofs.Common.{◌≡◌, ◌++◌, drop}
use Rattle.tl_journal.specs.Journal.{pairs_in}
use Rattle.tl_serial.specs.Text.{histories_from, histories_text}
use Rattle.tl_serial.proofs.text.push_histories.Given as goal

abbrev pub invariant-loop-port : goal.invariant-loop-port
invariant-loop-port l =
    l.text.items ++ histories_from l.port (pairs_in (drop l.port l.histories)) ≡ l.initial.text.items
    ++ histories_text (pairs_in l.histories)
