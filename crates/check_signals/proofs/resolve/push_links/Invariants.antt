-- The sources so far, and those of the rest, are those of all.
use Rattle.std.proofs.Common.{◌≡◌, ◌++◌, drop, map}
use Rattle.check_signals.specs.Found.{flat, link_sources_view}
use Rattle.check_signals.specs.Source.{source_view}
use Rattle.check_signals.proofs.resolve.push_links.Given as goal

abbrev pub invariant-loop-link : goal.invariant-loop-link
invariant-loop-link l =
    map source_view l.all.items ++ flat (map link_sources_view (drop l.link-index l.links))
    ≡ map source_view l.fn.all.items ++ flat (map link_sources_view l.links)
