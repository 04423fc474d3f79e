-- What was found so far, and what the other names find, is what all find.
use Rattle.std.proofs.Common.{◌≡◌, drop, map}
use Rattle.tl_text.specs.Reading.{with_front}
use Rattle.check_beats.specs.Bus.{bus_bytes}
use Rattle.check_vcd.specs.Header.{var_view}
use Rattle.check_signals.specs.Found.{signals_named}
use Rattle.check_signals.specs.Parts.{signals_view}
use Rattle.check_signals.specs.Names.{name_view}
use Rattle.check_signals.proofs.links.signals_named.Given as goal

abbrev pub invariant-loop-which : goal.invariant-loop-which
invariant-loop-which l =
    let find = signals_named (map var_view l.vars) l.owner (bus_bytes l.bus) in
    with_front (signals_view l.found.items) (find (drop l.which-index l.signals) (map name_view l.rest))
    ≡ find l.signals (map name_view l.names)
