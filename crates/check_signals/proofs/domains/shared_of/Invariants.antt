-- Those so far, and those of the links to come, are those of all.
use Rattle.std.proofs.Common.{◌≡◌, ◌++◌, drop, filter, map}
use Rattle.check_signals.specs.Found.{clocks_view, has_system}
use Rattle.check_signals.specs.Names.{clock_view}
use Rattle.check_signals.proofs.domains.shared_of.Given as goal

abbrev pub invariant-loop-own : goal.invariant-loop-own
invariant-loop-own l =
    map clocks_view l.some.items
    ++ filter (has_system (clock_view l.system)) (map clocks_view (drop l.own-index l.links))
    ≡ filter (has_system (clock_view l.system)) (map clocks_view l.links)
