-- What is kept after a row, and of its request.
use Rattle.std.proofs.Common.{◌≡◌, ◌∙◌, ◌∷◌, true, false, IfSome, Option, ap, sym, subst}
use Rattle.check_rows.specs.Row.{row_with}
use Rattle.check_sides.specs.Plan.{HasLink, IsWatched, Layout}
use Rattle.check_unanswered.specs.View.{Holds, PendingView}
use Rattle.check_review.specs.declared.tally.Tally.{Tally}
use Rattle.check_review.specs.Order.{is_watched, sightings_of, watched}
use Rattle.check_review.proofs.Leaving.{kept_noted, kept_unwatched, still_waits, tallied_waiting}
use Rattle.check_review.proofs.Watched.{watched_is, watches_by}
use Rattle.check_review.proofs.tally.Tally.judge_beat.Goals as goal

pub returns-in-Ok-clause-keeps : goal.returns-in-Ok-clause-keeps
returns-in-Ok-clause-keeps c earlier plan before kept =
    let row = row_with c.args.row.now c.args.lanes.now in
    let P : Layout → Type 0 = λ l. HasLink l row.sighting.link × IsWatched l.links row.sighting.link in
    let here : is_watched plan.layout row.sighting.link ≡ true =
    (watched_is plan.layout row.sighting.link).1
    (subst P kept.tallied.keeps.suits.layout (c.watches.ensures.0 c.if-not-watches.false)) in
    let rest = c.wait.ensures.rest in
    kept_noted earlier plan before row c.args.self.now c.step_row.new.self c.wait.new.self c.change-change.result kept (record {
      here = here;
      tallied = c.in_default.ensures.row.keeps earlier plan before kept.tallied;
      same = c.in_default.ensures.pending;
      asked = c.change-change.ensures.asked;
      change = c.change-change.ensures.change plan (sightings_of plan.layout before) c.args.lanes.now kept.tallied.keeps;
      noted = λ tallied. tallied_waiting earlier plan (row ∷ before) c.note.new.self c.wait.new.self rest
          (c.note.ensures.tallied earlier plan (row ∷ before) tallied);
      holds = λ holds same changed. subst (λ (p : Option PendingView). IfSome p (Holds plan (row ∷ watched plan.layout before)))
          (sym (ap (λ (t : Tally). t.pending) rest))
          (c.note.ensures.holds plan (watched plan.layout before) c.args.lanes.now holds same changed);
      waits = still_waits earlier plan before row c.args.self.now c.note.new.self c.wait.new.self kept here
          (c.note.ensures.tallied earlier plan (row ∷ before) (c.in_default.ensures.row.keeps earlier plan before kept.tallied))
          (c.note.ensures.waits ∙ c.in_default.ensures.waits)
          (c.in-Ok.ensures.waits earlier.system.within plan (watched plan.layout before) c.args.lanes.now);
    })

pub returns-then-not-watches-clause-keeps : goal.returns-then-not-watches-clause-keeps
returns-then-not-watches-clause-keeps c earlier plan before kept =
    let row = row_with c.args.row.now c.args.lanes.now in
    let tally = c.args.self.now in
    let other : is_watched plan.layout row.sighting.link ≡ false =
    subst (λ l. is_watched l row.sighting.link ≡ false) kept.tallied.keeps.suits.layout
    (sym (watches_by tally.watch.layout row.sighting.link c.watches.result c.watches.ensures) ∙ c.if-not-watches.true) in
    kept_unwatched earlier plan before row tally other kept
