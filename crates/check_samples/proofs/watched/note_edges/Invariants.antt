-- The domains so far, and those to come after the present time, are all of them after it.
use Rattle.std.proofs.Common.{◌≡◌, map}
use Rattle.check_samples.specs.Domain.{watched_view}
use Rattle.check_samples.specs.Sampling.{watched_from}
use Rattle.check_samples.specs.Values.{all_before, all_now}
use Rattle.check_samples.proofs.WatchedLemmas.{noting}
use Rattle.check_samples.proofs.watched.note_edges.Given as goal

abbrev pub invariant-loop-place : goal.invariant-loop-place
invariant-loop-place l =
    noting watched_view watched_view (λ place rest. watched_from place (all_before l.values) (all_now l.values) l.channels rest)
    l.place l.place l.watched
    ≡ watched_from 0 (all_before l.values) (all_now l.values) l.channels (map watched_view l.initial.watched)
