-- The beat is lawful, and begins a late reply; or it has a fault.
use Rattle.std.proofs.Common.{◌≡◌, true, inl, inr, refl, rules, sym, subst}
use Rattle.std.proofs.lemmas.Bool.{true≢false}
use Rattle.check_sides.specs.Plan.{HasLink, IsWatched, Layout}
use Rattle.check_turns.specs.Lawful.{IsLawfulInOrder}
use Rattle.check_rows.specs.Row.{row_with}
use Rattle.check_review.specs.Order.{is_watched, sightings_of}
use Rattle.check_review.proofs.Watched.{seen_one, watched_is}
use Rattle.check_review.proofs.tally.Tally.refuse_reply.Goals as goal

pub returns-in-Ok-clause-fault : goal.returns-in-Ok-clause-fault
returns-in-Ok-clause-fault c = λ limit earlier plan before tallied asked late.
    let row = row_with c.args.row.now c.args.lanes.now in
    let judged = c.in-Ok.ensures.judged plan (sightings_of plan.layout before) tallied.keeps in
    let P : Layout → Type 0 = λ l. HasLink l row.sighting.link × IsWatched l.links row.sighting.link in
    let here : is_watched plan.layout row.sighting.link ≡ true =
    (watched_is plan.layout row.sighting.link).1
    (subst P tallied.keeps.suits.layout (c.requires.known, c.requires.watched)) in
    inr (record {
      named = refl;
      watched = here;
      lawful = subst (IsLawfulInOrder plan) (sym (seen_one plan.layout row before here)) judged.keeps.lawful;
      limit = limit;
      asked = asked;
      late = late judged.keeps.lawful;
      breach = refl;
    })

pub returns-in-Err-Unlawful-clause-fault : goal.returns-in-Err-Unlawful-clause-fault
returns-in-Err-Unlawful-clause-fault c = λ limit earlier plan before tallied asked late.
    let row = row_with c.args.row.now c.args.lanes.now in
    let judged = c.in-Err-Unlawful.ensures.judged plan (sightings_of plan.layout before) tallied.keeps in
    let P : Layout → Type 0 = λ l. HasLink l row.sighting.link × IsWatched l.links row.sighting.link in
    inl (record {
      named = refl;
      watched = (watched_is plan.layout row.sighting.link).1
          (subst P tallied.keeps.suits.layout (c.requires.known, c.requires.watched));
      lawful = tallied.keeps.lawful;
      unlawful = λ lawful. true≢false (sym ((judged.lawful (λ is. cc)).1 lawful));
      fault = search (rules, judged);
    })
