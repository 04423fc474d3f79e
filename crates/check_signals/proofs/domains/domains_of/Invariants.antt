-- The domains so far, and those to come, are all domains.
use Rattle.std.proofs.Common.{◌≡◌, ◌++◌, drop, map}
use Rattle.check_samples.specs.Domain.{domain_view}
use Rattle.check_signals.specs.Found.{clocks_view, domain_of}
use Rattle.check_signals.specs.Source.{kept_view}
use Rattle.check_signals.proofs.domains.domains_of.Given as goal

abbrev pub invariant-loop-own : goal.invariant-loop-own
invariant-loop-own l =
    map domain_view l.domains.items
    ++ map (domain_of (map kept_view l.kept) (clocks_view l.system)) (map clocks_view (drop l.own-index l.clocks))
    ≡ map (domain_of (map kept_view l.kept) (clocks_view l.system)) (map clocks_view l.clocks)
