-- What was noted so far, and what is to be noted of the domains to come, is what is to be noted of all. Nothing else changes.
use Rattle.std.proofs.Common.{◌≡◌, map}
use Rattle.check_samples.specs.Domain.{watched_view}
use Rattle.check_samples.specs.Sampling.{dues_of}
use Rattle.check_samples.specs.Values.{all_before, all_now}
use Rattle.check_samples.proofs.WatchedLemmas.{noting}
use Rattle.check_samples.proofs.watched.note_each.Given as goal

abbrev pub invariant-loop-one : goal.invariant-loop-one
invariant-loop-one l = record {
  same : map watched_view l.watched ≡ map watched_view l.initial.watched;
  dues : noting (λ one. one.due) watched_view (λ place rest. dues_of (all_before l.values) (all_now l.values) rest)
      l.one-index l.one-index l.watched
      ≡ dues_of (all_before l.values) (all_now l.values) (map watched_view l.initial.watched);
}
