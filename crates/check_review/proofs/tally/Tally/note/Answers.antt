-- What is kept of the requests after one change more.
use Rattle.std.proofs.Common.{Option, IfSome, subst}
use Rattle.check_watch.specs.declared.pending.Change.{Change}
use Rattle.check_sides.specs.Pending.{IsChange}
use Rattle.check_rows.specs.Row.{beats_of, row_with}
use Rattle.check_unanswered.specs.View.{Holds, PendingView}
use Rattle.check_review.proofs.tally.Tally.note.Goals as goal

pub returns-in-Some-Some-clause-holds : goal.returns-in-Some-Some-clause-holds
returns-in-Some-Some-clause-holds c plan rows lanes holds same changed =
    let H : Option PendingView → Type 0 = λ p. IfSome p (Holds plan rows) in
    let C : Option Change → Type 0 = λ x. IfSome x (IsChange plan (beats_of rows) (row_with c.args.row.now lanes).sighting) in
    c.note.ensures plan rows lanes (subst H c.in-Some-Some.is-0 holds) (subst C c.in-Some-Some.is-1 changed)
