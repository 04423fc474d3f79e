-- What is told of a row whose link is watched.
use Rattle.std.proofs.Common.{◌≡◌, ◌∙◌, ◌∷◌, true, IfSome, Option, ap, sym, subst}
use Rattle.check_rows.specs.Row.{row_with}
use Rattle.check_sides.specs.Plan.{HasLink, IsWatched, Layout}
use Rattle.check_turns.specs.View.{KeepsOrdered, OrderedView}
use Rattle.check_coverage.specs.View.{Covers}
use Rattle.check_coverage.specs.declared.coverage.Coverage.{Coverage}
use Rattle.check_review.specs.Stretches.{bins_in}
use Rattle.check_review.specs.Order.{is_watched, sightings_of, watched}
use Rattle.check_review.specs.declared.tally.Tally.{Tally}
use Rattle.check_review.proofs.Counting.{tallied_one}
use Rattle.check_review.proofs.Telling.{tells_row, tells_step}
use Rattle.check_review.proofs.Watched.{watched_is}
use Rattle.check_review.proofs.tally.Tally.tell_row.Goals as goal

pub returns-in-Ok-tell-clause-row : goal.returns-in-Ok-tell-clause-row
returns-in-Ok-tell-clause-row c =
    let row = row_with c.args.row.now c.args.lanes.now in
    let rest = c.in-Ok-cover.ensures.rest in
    let P : Layout → Type 0 = λ l. HasLink l row.sighting.link × IsWatched l.links row.sighting.link in
    record {
      keeps = λ earlier plan before tallied.
          let past = sightings_of plan.layout before in
          let judged = c.in-Ok.ensures.judged plan past tallied.keeps in
          tallied_one earlier plan before row c.args.self.now c.cover.new.self c.step.new.self c.in-Ok.seen c.ended-end.result tallied
          (record {
            here = (watched_is plan.layout row.sighting.link).1
                (subst P tallied.keeps.suits.layout (c.requires.known, c.requires.watched));
            keeps = judged.keeps;
            watch_is = ap (λ (t : Tally). t.watch) rest ∙ c.count.ensures.watch;
            loads = ap (λ (t : Tally). t.loads) rest ∙ c.count.ensures.loads;
            sees_is = judged.seen;
            end_is = c.ended-end.ensures;
            requests = ap (λ (t : Tally). t.requests) rest ∙ c.count.ensures.requests;
            answered = ap (λ (t : Tally). t.answered) rest ∙ c.count.ensures.answered;
            covers = λ was keeps ends. c.in-Ok-cover.ensures.covers plan (bins_in earlier.ended) (watched plan.layout before) c.args.lanes.now
                (subst (λ (o : Option Coverage). IfSome o (Covers plan (bins_in earlier.ended) (watched plan.layout before)))
                (sym c.count.ensures.coverage) was)
                (subst (λ (w : OrderedView). KeepsOrdered plan (row.sighting ∷ past) w) (sym c.count.ensures.watch) keeps) ends;
          });
      told = λ earlier plan before tallied.
          let past = sightings_of plan.layout before in
          let judged = c.in-Ok.ensures.judged plan past tallied.keeps in
          let watched : is_watched plan.layout row.sighting.link ≡ true =
          (watched_is plan.layout row.sighting.link).1
          (subst P tallied.keeps.suits.layout (c.requires.known, c.requires.watched)) in
          tells_row c.args.self.now.trace plan before row c.args.text.now.items c.tell.new.text.items watched
          (tells_step c.args.self.now.trace c.cover.new.self.trace plan past row.sighting c.cover.new.self.watch.layout
          c.in-Ok.seen c.args.text.now.items c.tell.new.text.items
          (ap (λ (t : Tally). t.trace) rest ∙ c.count.ensures.trace)
          (rw rest (rw c.count.ensures.watch judged.keeps.suits.layout))
          judged.seen judged.keeps.lawful.beats.1 c.in-Ok-tell.ensures.told);
      fault = λ earlier plan before tallied. tt;
      quiet = tt;
      uncovered = tt;
      memory = λ earlier plan before tallied. tt;
    }
