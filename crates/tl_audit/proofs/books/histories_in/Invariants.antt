-- The histories so far.
use Rattle.std.proofs.Common.{◌≡◌, take}
use Rattle.tl_audit.specs.Agrees.{journals_in}
use Rattle.tl_audit.specs.Reader.{histories_of}
use Rattle.tl_audit.proofs.books.histories_in.Given as goal

abbrev pub invariant-loop-book : goal.invariant-loop-book
invariant-loop-book l = journals_in l.histories.items ≡ histories_of (take l.book-index l.books)
