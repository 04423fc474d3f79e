-- There are as many entries as requests.
use Rattle.std.proofs.Common.{◌∙◌, ap, length, sym}
use Rattle.tl_journal.proofs.Placed.{length-entries_of}
use Rattle.tl_journal.proofs.trace.Trace.len.Goals as goal

pub returns-clause-value : goal.returns-clause-value
returns-clause-value c =
    c.len.ensures.value ∙ sym
    (length-entries_of c.self.inside.journal.items c.self.inside.places.items c.self.invariant.counted)
    ∙ ap (λ v. length v.items) c.self.view_is
