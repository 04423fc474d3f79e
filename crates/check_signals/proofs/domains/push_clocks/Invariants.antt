-- Those so far, and those of the links to come, are those of all.
use Rattle.std.proofs.Common.{◌≡◌, drop, map}
use Rattle.check_signals.specs.Found.{clocks_view, with_clocks}
use Rattle.check_signals.proofs.domains.push_clocks.Given as goal

abbrev pub invariant-loop-own : goal.invariant-loop-own
invariant-loop-own l =
    with_clocks (map clocks_view l.some.items) (map clocks_view (drop l.own-index l.links))
    ≡ with_clocks (map clocks_view l.fn.some.items) (map clocks_view l.links)
