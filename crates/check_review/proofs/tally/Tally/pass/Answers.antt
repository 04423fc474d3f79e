-- The row is a beat, and nothing is told of it.
use Rattle.std.proofs.Common.{◌∷◌, sym, subst}
use Rattle.check_rows.specs.Row.{row_with}
use Rattle.check_review.specs.Order.{sightings_of}
use Rattle.check_review.specs.Stretches.{Earlier}
use Rattle.check_review.specs.Told.{AppendsTold}
use Rattle.check_review.proofs.Keeping.{keeps_beat, on_true}
use Rattle.check_review.proofs.Telling.{tells_none}
use Rattle.check_review.proofs.tally.Tally.pass.Goals as goal

pub returns-clause-keeps : goal.returns-clause-keeps
returns-clause-keeps c system before course text kept =
    let row = row_with c.args.row.now c.args.lanes.now in
    let earlier : Earlier = record { system = system; ended = course.ended } in
    on_true c.pass_row.result _ _ (λ next. keeps_beat system before course row c.args.self.now.trace c.pass_row.new.self text text
    c.if-row.false next
    (subst (λ t. AppendsTold t course.now.plan (sightings_of course.now.plan.layout course.now.rows)
    (sightings_of course.now.plan.layout (row ∷ course.now.rows)) text text) (sym c.if-self.false)
    (tells_none course.now.plan course.now.rows row text)))
    (c.pass_row.ensures.keeps earlier course.now.plan course.now.rows kept)

pub returns-clause-memory : goal.returns-clause-memory
returns-clause-memory c system before course kept =
    let earlier : Earlier = record { system = system; ended = course.ended } in
    c.pass_row.ensures.memory earlier course.now.plan course.now.rows kept
