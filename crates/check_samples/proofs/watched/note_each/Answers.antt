-- One domain more is noted.
use Rattle.std.proofs.Common.{◌∙◌, ◌<◌, List, arith, get_or, length, refl}
use Rattle.std.proofs.Math.Seq.{map-set_same}
use Rattle.check_samples.specs.Domain.{Watched as WatchedView, watched_view}
use Rattle.check_samples.specs.Sampling.{needs_due, dues_of}
use Rattle.check_samples.specs.Values.{all_before, all_now}
use Rattle.check_samples.specs.declared.watched.Watched.{Watched}
use Rattle.check_samples.proofs.WatchedLemmas.{noted}
use Rattle.check_samples.proofs.watched.note_each.Goals as goal

pub loop-one-preserved : goal.loop-one-preserved
loop-one-preserved c =
    let xs = c.loop-one.watched in
    let k = c.loop-one.one-index in
    let d = c.one-item.result in
    let was : Watched = get_or xs k d in
    let new : Watched = record was { due = c.needs_due-one.result } in
    let before = all_before c.args.values.now in
    let now = all_now c.args.values.now in
    let inside : k < length xs = omega (arith, c.loop-one-test.true, c.loop-one.auto.watched) in
    record {
      same = map-set_same watched_view xs k new d refl ∙ c.loop-one.invariant.same;
      dues = noted (λ (one : Watched). one.due) watched_view (λ place (rest : List WatchedView). dues_of before now rest)
          (λ place one. needs_due before now one) (λ place one rest. refl) xs k d new inside c.needs_due-one.ensures
          ∙ c.loop-one.invariant.dues;
    }
