-- What was found so far, and what the other indices find, is what all find.
use Rattle.std.proofs.Common.{◌≡◌, drop, map}
use Rattle.tl_text.specs.Reading.{each, with_front}
use Rattle.check_vcd.specs.Header.{var_view}
use Rattle.check_signals.specs.Nets.{bit_at, bit_view}
use Rattle.check_signals.specs.Source.{asked_view, source_view}
use Rattle.check_signals.proofs.nets.bits_at.Given as goal

abbrev pub invariant-loop-index : goal.invariant-loop-index
invariant-loop-index l =
    let find = bit_at (map var_view l.vars) (asked_view l.asked) (map bit_view l.bits) in
    with_front (map source_view l.parts.items) (each find (drop l.index-index l.indices)) ≡ each find l.indices
