-- One lane more.
use Rattle.std.proofs.Common.{◌≡◌, ◌∙◌, ℕ, ◌+◌, ◌-◌, ◌*◌, ap, arith, drop, length, length-set, sym, take}
use mir.Val.{bool_byte}
use Rattle.tl_text.specs.Number.{number_of}
use Rattle.check_rows.proofs.Shown.{bit-some, byte-or}
use Rattle.check_rows.specs.Lanes.{byte_or_zero, known_bit}
use Rattle.check_due.specs.Lanes.{lane_in}
use Rattle.check_due.proofs.ReadLemmas.{lane-here, one-more}
use Rattle.check_due.proofs.bits.read_lanes.Goals as goal

pub loop-k-preserved : goal.loop-k-preserved
loop-k-preserved c =
    let count = length c.args.lanes.now in
    let k = c.loop-k.k in
    let bits = c.args.bits.now in
    let lanes = c.loop-k.lanes in
    let found = c.byte_of-lane.result in
    let size = c.loop-k.invariant.size in
    let eight : 8 * k + 8 - 8 * k ≡ 8 = omega arith in
    let lane : lane_in count bits (count - 1 - k) ≡ found =
    lane-here count bits k (omega arith) ∙ ap (λ (n : ℕ). number_of 2 8 (take n (drop (8 * k) bits))) (sym eight)
    ∙ sym c.byte_of-lane.ensures in
    let here : count - (k + 1) ≡ count - 1 - k = omega arith in
    let next : count - k ≡ count - 1 - k + 1 = omega arith in
    let byte : c.unwrap_or.result ≡ byte_or_zero found = c.unwrap_or.ensures ∙ byte-or found in
    let bit : c.from.result ≡ known_bit found = c.from.ensures ∙ ap bool_byte c.is_some.ensures ∙ bit-some found in
    record {
      size = length-set lanes (count - 1 - k) c.unwrap_or.result ∙ size;
      read = rw (here, byte, bit)
          (one-more count bits (count - 1 - k) k c.loop-k.known lanes found lane (omega (arith, size))
          (rw next at c.loop-k.invariant.read));
    }
