-- It is none of those so far.
use Rattle.std.proofs.Common.{◌≡◌, ◌+◌, drop, map}
use Rattle.check_signals.specs.Found.{clocks_view, domain_place}
use Rattle.check_signals.specs.Names.{clock_view}
use Rattle.check_signals.proofs.domains.domain_place.Given as goal

abbrev pub invariant-loop-place : goal.invariant-loop-place
invariant-loop-place l =
    l.place + domain_place (map clocks_view (drop l.place l.clocks)) (clock_view l.names)
    ≡ domain_place (map clocks_view l.clocks) (clock_view l.names)
