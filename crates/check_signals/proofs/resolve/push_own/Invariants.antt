-- Those so far, and those of the links to come, are those of all.
use Rattle.std.proofs.Common.{◌≡◌, ◌++◌, drop, map}
use Rattle.check_signals.specs.Found.{clocks_of, clocks_view, link_sources_view}
use Rattle.check_signals.proofs.resolve.push_own.Given as goal

abbrev pub invariant-loop-link : goal.invariant-loop-link
invariant-loop-link l =
    map clocks_view l.all.items ++ clocks_of (map link_sources_view (drop l.link-index l.links))
    ≡ map clocks_view l.fn.all.items ++ clocks_of (map link_sources_view l.links)
