-- What is counted after one row more.
use Rattle.std.proofs.Common.{◌≡◌, ◌∙◌, true, ◌&&◌, List, ◌∷◌, IfSome, sym, ap, subst}
use Rattle.check_watch.specs.Scene.{ended_by}
use Rattle.check_watch.specs.declared.seen.Ended.{Ended}
use Rattle.check_watch.specs.declared.seen.Seen.{Seen}
use Rattle.check_turns.specs.Lawful.{what_is_seen}
use Rattle.check_sides.specs.Plan.{Plan}
use Rattle.check_turns.specs.View.{KeepsOrdered, OrderedView}
use Rattle.check_rows.specs.Row.{SeenRow}
use Rattle.check_coverage.specs.Flights.{end_of, ends_a_reply, ends_an_ask, is_counted}
use Rattle.check_coverage.specs.View.{Covers}
use Rattle.check_bins.specs.declared.bin.Bin.{Bin}
use Rattle.check_start.specs.Loads.{AreLoadsOf}
use Rattle.check_review.specs.Count.{answered_in, answered_in_past, asked_in, asked_in_past, one_more}
use Rattle.check_review.specs.Stretches.{Earlier, bins_in}
use Rattle.check_review.specs.Order.{is_watched, sightings_of, watched}
use Rattle.check_review.specs.View.{Tallied}
use Rattle.check_review.specs.declared.tally.Tally.{Tally}
use Rattle.check_review.proofs.Watched.{seen_one, watched_one}

-- a row at a watched link was taken, what it ends and covers was counted, and nothing else changed
pub record IsCounted (plan : Plan) (earlier : List Bin) (before : List SeenRow) (row : SeenRow) (old new : Tally) (watch : OrderedView)
    (sees : Seen) (end : Ended) : Type 0 where
  pub here : is_watched plan.layout row.sighting.link ≡ true
  pub keeps : KeepsOrdered plan (row.sighting ∷ sightings_of plan.layout before) watch
  pub watch_is : new.watch ≡ watch
  pub loads : new.loads ≡ old.loads
  pub sees_is : sees ≡ what_is_seen plan (sightings_of plan.layout before) row.sighting
  pub end_is : end ≡ ended_by sees
  pub requests : new.requests
      ≡ one_more (is_counted watch.layout.links row.sighting.link && ends_an_ask end) old.requests
  pub answered : new.answered
      ≡ one_more (is_counted watch.layout.links row.sighting.link && ends_a_reply end) old.answered
  pub covers : IfSome old.coverage (Covers plan earlier (watched plan.layout before))
      → KeepsOrdered plan (row.sighting ∷ sightings_of plan.layout before) watch → end ≡ end_of plan (watched plan.layout before) row
      → IfSome new.coverage (Covers plan earlier (row ∷ watched plan.layout before))

pub tallied_one : (earlier : Earlier) (plan : Plan) (before : List SeenRow) (row : SeenRow) (old new : Tally) (watch : OrderedView)
    (sees : Seen) (end : Ended) → Tallied earlier plan before old
    → IsCounted plan (bins_in earlier.ended) before row old new watch sees end → Tallied earlier plan (row ∷ before) new
tallied_one earlier plan before row old new watch sees end tallied step =
    let all = seen_one plan.layout row before step.here in
    let layout : watch.layout ≡ plan.layout = step.keeps.suits.layout in
    let ends : end ≡ ended_by (what_is_seen plan (sightings_of plan.layout before) row.sighting) =
    step.end_is ∙ ap ended_by step.sees_is in
    record {
      keeps = subst (λ past. KeepsOrdered plan past new.watch) (sym all)
          (subst (λ (w : OrderedView). KeepsOrdered plan (row.sighting ∷ sightings_of plan.layout before) w) (sym step.watch_is) step.keeps);
      loads = subst (AreLoadsOf earlier.system) (sym step.loads) tallied.loads;
      requests = step.requests
          ∙ (λ i. one_more (is_counted (layout i).links row.sighting.link && ends_an_ask (ends i)) (tallied.requests i))
          ∙ ap (asked_in_past (asked_in earlier.ended) plan) (sym all);
      answered = step.answered
          ∙ (λ i. one_more (is_counted (layout i).links row.sighting.link && ends_a_reply (ends i)) (tallied.answered i))
          ∙ ap (answered_in_past (answered_in earlier.ended) plan) (sym all);
      covers = subst (λ rows. IfSome new.coverage (Covers plan (bins_in earlier.ended) rows)) (sym (watched_one plan.layout row before step.here))
          (step.covers tallied.covers step.keeps ends);
    }
