-- What was found so far, and what the other names find, is what all find.
use Rattle.std.proofs.Common.{◌≡◌, drop, map}
use Rattle.tl_text.specs.Reading.{each, with_front}
use Rattle.check_vcd.specs.Header.{var_view}
use Rattle.check_signals.specs.Parts.{part_of, signals_view}
use Rattle.check_signals.proofs.parts.each_part.Given as goal

abbrev pub invariant-loop-name : goal.invariant-loop-name
invariant-loop-name l =
    let find = part_of (map var_view l.vars) l.signal in
    with_front (signals_view l.found.items) (each find (map (λ name. name.items) (drop l.name-index l.names)))
    ≡ each find (map (λ name. name.items) l.names)
