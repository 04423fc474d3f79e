use Rattle.std.proofs.Common.{◌∙◌, [], ◌∷◌, ◌++◌, ap, sym}
use Rattle.std.proofs.lemmas.List.{map-append}
use Rattle.std.specs.Borrow.{Bor}
use Rattle.tl_journal.specs.Journal.{JournalView}
use Rattle.tl_port.specs.Book.{BookView}
use Rattle.tl_audit.specs.Agrees.{journals_in}
use Rattle.tl_audit.proofs.Rows.{mapped_next}
use Rattle.tl_audit.proofs.books.histories_in.Goals as goal

pub loop-book-preserved : goal.loop-book-preserved
loop-book-preserved c =
    let next = mapped_next (λ (b : BookView). b.history) c.args.books.now c.loop-book.book-index c.book-item.result
    c.loop-book-test.true (sym c.book-item.is) in
    ap journals_in c.in_ok-push.ensures.items
    ∙ map-append (λ (journal : Bor JournalView). journal.now.items) c.loop-book.histories.items (c.history.result ∷ [])
    ∙ (λ t. c.loop-book.invariant t ++ c.history.ensures.value t ∷ []) ∙ sym next
