-- What is said of the domains to come is said of all.
use Rattle.std.proofs.Common.{◌≡◌, drop, map}
use Rattle.check_samples.specs.Domain.{watched_view}
use Rattle.check_samples.specs.EdgeFault.{first_reset}
use Rattle.check_samples.proofs.edge_fault.first_reset.Given as goal

abbrev pub invariant-loop-one : goal.invariant-loop-one
invariant-loop-one l =
    first_reset (map watched_view (drop l.one-index l.watched)) ≡ first_reset (map watched_view l.watched)
