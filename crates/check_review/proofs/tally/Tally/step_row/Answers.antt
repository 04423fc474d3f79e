-- What is told of a row where replies are not told.
use Rattle.std.proofs.Common.{◌≡◌, ◌∷◌, true, false, sym, subst}
use Rattle.check_rows.specs.Row.{row_with}
use Rattle.check_sides.specs.Plan.{HasLink, IsWatched, Layout}
use Rattle.check_review.specs.Order.{is_watched, sightings_of}
use Rattle.check_review.specs.Told.{AppendsTold}
use Rattle.check_review.proofs.Telling.{tells_quietly}
use Rattle.check_review.proofs.Watched.{watched_is}
use Rattle.check_review.proofs.tally.Tally.step_row.Goals as goal

pub returns-in-Ok-true-clause-row : goal.returns-in-Ok-true-clause-row
returns-in-Ok-true-clause-row c =
    let row = row_with c.args.row.now c.args.lanes.now in
    let text = c.args.text.now.items in
    let P : Layout → Type 0 = λ l. HasLink l row.sighting.link × IsWatched l.links row.sighting.link in
    record {
      keeps = λ earlier plan before tallied. c.in-Ok-true.ensures.keeps earlier plan before tallied c.in-Ok-true.field-0-test;
      told = λ earlier plan before tallied.
          let watched : is_watched plan.layout row.sighting.link ≡ true =
          (watched_is plan.layout row.sighting.link).1
          (subst P tallied.keeps.suits.layout (c.requires.known, c.requires.watched)) in
          let quiet : c.args.self.now.trace ≡ false = c.if-self.false in
          subst (λ t. AppendsTold t plan (sightings_of plan.layout before) (sightings_of plan.layout (row ∷ before)) text text)
          (sym quiet) (tells_quietly plan before row text watched);
      fault = λ earlier plan before tallied. tt;
      quiet = tt;
      uncovered = tt;
      memory = λ earlier plan before tallied. tt;
    }
