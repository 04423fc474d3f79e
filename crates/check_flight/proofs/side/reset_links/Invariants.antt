use Rattle.std.proofs.Common.{◌≡◌, ◌++◌, map, take, drop}
use Rattle.check_beats.specs.State.{Under, nothing_under}
use Rattle.check_flight.proofs.side.reset_links.Given as goal

abbrev pub invariant-loop-link : goal.invariant-loop-link
invariant-loop-link l =
    l.links ≡ map (λ (under : Under). nothing_under under.bus) (take l.link-index l.initial.links)
    ++ drop l.link-index l.initial.links
