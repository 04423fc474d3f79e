-- Whether one of the bits to come has another identifier says it of all.
use Rattle.std.proofs.Common.{◌≡◌, ℕ, List, drop, map, not}
use Rattle.std.specs.List.{list_any}
use Rattle.std.specs.Str.{bytes_eq}
use Rattle.check_signals.specs.Nets.{bit_view, codes_at}
use Rattle.check_signals.proofs.nets.has_other.Given as goal

abbrev pub invariant-loop-bit : goal.invariant-loop-bit
invariant-loop-bit l =
    let is_other = λ (other : List ℕ). not (bytes_eq other l.code) in
    list_any is_other (codes_at (map bit_view (drop l.bit-index l.bits)) l.index)
    ≡ list_any is_other (codes_at (map bit_view l.bits) l.index)
