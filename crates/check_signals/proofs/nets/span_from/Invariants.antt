-- The indices so far, with those of the bits to come, are those of all.
use Rattle.std.proofs.Common.{◌≡◌, drop, map}
use Rattle.check_signals.specs.Nets.{bit_view, span_from}
use Rattle.check_signals.proofs.nets.span_from.Given as goal

abbrev pub invariant-loop-bit : goal.invariant-loop-bit
invariant-loop-bit l =
    span_from l.span (map bit_view (drop l.bit-index l.bits)) ≡ span_from l.fn.first (map bit_view l.bits)
