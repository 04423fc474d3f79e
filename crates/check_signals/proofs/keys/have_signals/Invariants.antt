-- Whether one of the links to come has signals says it of all.
use Rattle.std.proofs.Common.{◌≡◌, drop, map}
use Rattle.check_signals.specs.Names.{have_signals, link_view}
use Rattle.check_signals.proofs.keys.have_signals.Given as goal

abbrev pub invariant-loop-link : goal.invariant-loop-link
invariant-loop-link l =
    have_signals (map link_view (drop l.link-index l.links)) ≡ have_signals (map link_view l.links)
