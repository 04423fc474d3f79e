-- Whether one of the links to come has signals and no clock says it of all.
use Rattle.std.proofs.Common.{◌≡◌, drop, map}
use Rattle.check_signals.specs.Names.{link_view, need_clock}
use Rattle.check_signals.proofs.keys.need_clock.Given as goal

abbrev pub invariant-loop-link : goal.invariant-loop-link
invariant-loop-link l =
    need_clock (map link_view (drop l.link-index l.links)) ≡ need_clock (map link_view l.links)
