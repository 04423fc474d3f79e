-- The lines so far, and those of the ports that are left.
use Rattle.std.proofs.Common.{◌≡◌, ◌++◌, drop}
use Rattle.tl_audit.specs.Reader.{histories_of}
use Rattle.tl_serial.specs.Text.{histories_from, histories_text}
use Rattle.tl_threads.proofs.text.push_histories.Given as goal

abbrev pub invariant-loop-port : goal.invariant-loop-port
invariant-loop-port l =
    l.text.items ++ histories_from l.port (histories_of (drop l.port l.books)) ≡ l.initial.text.items
    ++ histories_text (histories_of l.books)
