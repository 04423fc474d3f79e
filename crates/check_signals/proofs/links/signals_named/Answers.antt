-- There are fewer names than signals.
use Rattle.std.proofs.Common.{◌<◌, arith, drop, length, map}
use Rattle.std.proofs.lemmas.List.{length-map}
use Rattle.check_beats.specs.Bus.{bus_bytes}
use Rattle.check_vcd.specs.Header.{var_view}
use Rattle.check_signals.specs.Parts.{signals_view}
use Rattle.check_signals.specs.Names.{name_view}
use Rattle.check_signals.proofs.LinkLemmas.{names-end}
use Rattle.check_signals.proofs.links.signals_named.Goals as goal

pub returns-in_default : goal.returns-in_default
returns-in_default c =
    let rest = c.loop-which.rest.now in
    let few : length (map name_view rest) < 1 =
    omega (arith, c.in_default.len_below, length-map rest name_view) in
    names-end (map var_view c.args.vars.now) c.args.owner (bus_bytes c.args.bus)
    (drop c.loop-which.which-index c.args.signals.now) (map name_view rest)
    (signals_view c.loop-which.found.items) _ few c.loop-which.invariant
