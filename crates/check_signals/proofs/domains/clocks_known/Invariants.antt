-- Whether it is said of one of those to come says it of all.
use Rattle.std.proofs.Common.{◌≡◌, drop, map}
use Rattle.check_signals.specs.Found.{clocks_known, clocks_view}
use Rattle.check_signals.specs.Names.{clock_view}
use Rattle.check_signals.proofs.domains.clocks_known.Given as goal

abbrev pub invariant-loop-other : goal.invariant-loop-other
invariant-loop-other l =
    clocks_known (map clocks_view (drop l.other-index l.some)) (clock_view l.names)
    ≡ clocks_known (map clocks_view l.some) (clock_view l.names)
