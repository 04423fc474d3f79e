-- The bits so far, and those of the rest, are those of all.
use Rattle.std.proofs.Common.{◌≡◌, ◌+◌, drop, map}
use Rattle.check_signals.specs.Source.{parts_bits, source_view}
use Rattle.check_signals.proofs.parts.parts_bits.Given as goal

abbrev pub invariant-loop-part : goal.invariant-loop-part
invariant-loop-part l =
    l.bits + parts_bits (map source_view (drop l.part-index l.parts)) ≡ parts_bits (map source_view l.parts)
