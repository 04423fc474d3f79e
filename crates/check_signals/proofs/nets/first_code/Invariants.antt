-- The first identifier of the bits to come is that of all.
use Rattle.std.proofs.Common.{◌≡◌, drop, map}
use Rattle.check_signals.specs.Nets.{bit_view, codes_at}
use Rattle.check_signals.specs.Wires.{first_of}
use Rattle.check_signals.proofs.nets.first_code.Given as goal

abbrev pub invariant-loop-bit : goal.invariant-loop-bit
invariant-loop-bit l =
    first_of (codes_at (map bit_view (drop l.bit-index l.bits)) l.index) ≡ first_of (codes_at (map bit_view l.bits) l.index)
