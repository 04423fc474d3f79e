use Rattle.std.proofs.Common.{◌≡◌, ◌∙◌, [], ◌∷◌, ap, length, map, replicate, rules, sym, take}
use Rattle.std.proofs.lemmas.List.{map-append}
use Rattle.std.specs.Borrow.{Bor}
use Rattle.tl_journal.specs.Journal.{JournalView}
use Rattle.tl_audit.specs.Agrees.{journals_in}
use Rattle.tl_audit.specs.declared.marks.Mark.TheVariants.{Unnamed}
use Rattle.tl_audit.proofs.Rows.{mapped_next, rows_more}
use Rattle.tl_audit.proofs.marks.unnamed.Goals as goal

pub loop-history-preserved : goal.loop-history-preserved
loop-history-preserved c =
    let all = c.args.histories.now in
    let i = c.loop-history.history-index in
    let one = c.history-item.result in
    let row = c.in_ok-from_elem.field-0 in
    let own : row.items ≡ replicate (length one.now.items) Unnamed = search rules in
    let next = mapped_next (λ (journal : Bor JournalView). journal.now.items) all i one c.loop-history-test.true
    (sym c.history-item.is) in
    rows_more c.loop-history.rows.items c.push.new.self.items row _ _ c.in_ok-push.ensures.items c.loop-history.invariant own
    ∙ sym (ap (map (λ history. replicate (length history) Unnamed)) next
    ∙ map-append (λ history. replicate (length history) Unnamed) (journals_in (take i all)) (one.now.items ∷ []))
