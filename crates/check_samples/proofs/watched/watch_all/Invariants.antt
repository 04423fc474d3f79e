-- Each domain so far is watched.
use Rattle.std.proofs.Common.{◌≡◌, map}
use Rattle.check_samples.specs.Domain.{domain_view, unwatched, watched_view}
use Rattle.check_samples.proofs.watched.watch_all.Given as goal

abbrev pub invariant-loop-domain : goal.invariant-loop-domain
invariant-loop-domain l = map watched_view l.watched.items ≡ map unwatched (map domain_view l.yielded)
