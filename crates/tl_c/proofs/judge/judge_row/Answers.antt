-- The requests in flight after a lawful beat.
use Rattle.std.proofs.Common.{◌∷◌, sym, subst}
use Rattle.check_turns.specs.Lawful.{IsLawfulInOrder}
use Rattle.check_rows.specs.Row.{beats_of, row_with}
use Rattle.check_unanswered.specs.View.{Holds}
use Rattle.tl_c.proofs.judge.judge_row.Goals as goal

pub returns-then-number-eq-OK-clause-pending : goal.returns-then-number-eq-OK-clause-pending
returns-then-number-eq-OK-clause-pending c plan rows keeps holds ok =
    let row = row_with c.args.row.now c.args.lanes.now in
    let lawful : IsLawfulInOrder plan (row.sighting ∷ beats_of rows) =
    ((c.judge_beat-number.ensures.step plan (beats_of rows) keeps).lawful (λ is. absurd (cc))).0 ok in
    c.note.ensures.pending plan rows c.args.lanes.now
    (subst (Holds plan rows) (sym c.judge_beat-number.ensures.pending) holds)
    (c.change-change.ensures.change plan (beats_of rows) c.args.row.now.known c.args.lanes.now keeps lawful)
