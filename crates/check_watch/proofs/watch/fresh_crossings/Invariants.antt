use Rattle.std.proofs.Common.{◌≡◌, ℕ, vec_len}
use Rattle.check_flight.specs.Crossing.Crossing.{Waiting}
use Rattle.check_watch.specs.View.{crossing_at}
use Rattle.check_watch.proofs.watch.fresh_crossings.Given as goal

abbrev pub invariant-loop-wide : goal.invariant-loop-wide
invariant-loop-wide l = (vec_len l.crossings ≡ l._wide) × ((wide : ℕ) → crossing_at l.crossings.items wide ≡ Waiting)
