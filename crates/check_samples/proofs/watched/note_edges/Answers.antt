-- One domain more is noted.
use Rattle.std.proofs.Common.{◌∙◌, ◌<◌, List, ap, arith, get_or, length, refl}
use Rattle.check_samples.specs.Domain.{Watched as WatchedView, watched_view}
use Rattle.check_samples.specs.Sampling.{edges_at, watched_from}
use Rattle.check_samples.specs.Values.{all_before, all_now}
use Rattle.check_samples.specs.declared.edges.Edges.{Edges}
use Rattle.check_samples.specs.declared.watched.Watched.{Watched}
use Rattle.check_samples.proofs.WatchedLemmas.{noted}
use Rattle.check_samples.proofs.watched.note_edges.Goals as goal

pub loop-place-preserved : goal.loop-place-preserved
loop-place-preserved c =
    let xs = c.loop-place.watched in
    let k = c.loop-place.place in
    let d = c.index-watched-place.result in
    let was : Watched = get_or xs k d in
    let new : Watched = record was { edges = c.edges_at-one.result } in
    let before = all_before c.args.values.now in
    let now = all_now c.args.values.now in
    let channels = c.args.channels.now in
    let inside : k < length xs = omega (arith, c.loop-place-test.true, c.loop-place.auto.watched) in
    let made : Edges → WatchedView = λ edges. record (watched_view was) { edges = edges } in
    noted watched_view watched_view (λ place (rest : List WatchedView). watched_from place before now channels rest)
    (λ place one. record { domain = one.domain; edges = edges_at place before now channels one })
    (λ place one rest. refl) xs k d new inside (ap made c.edges_at-one.ensures)
    ∙ c.loop-place.invariant
