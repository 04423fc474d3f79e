-- The links so far, and those of the rest, are those of all.
use Rattle.std.proofs.Common.{◌≡◌, drop, map}
use Rattle.tl_text.specs.Reading.{with_front}
use Rattle.check_vcd.specs.Header.{var_view}
use Rattle.check_signals.specs.Found.{link_sources_view, links_from}
use Rattle.check_signals.specs.Names.{link_view}
use Rattle.check_signals.proofs.links.links_of.Given as goal

abbrev pub invariant-loop-number : goal.invariant-loop-number
invariant-loop-number l =
    let find = links_from (map var_view l.vars) l.is_port (map link_view l.links) in
    with_front (map link_sources_view l.found.items) (find l.number (drop l.number l.buses)) ≡ find 0 l.buses
