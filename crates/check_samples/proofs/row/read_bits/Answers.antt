-- One bit more.
use Rattle.std.proofs.Common.{arith}
use Rattle.check_samples.proofs.BitLemmas.{known_more, one_bit_more, value_more}
use Rattle.check_samples.proofs.row.read_bits.Goals as goal

pub loop-bit-preserved : goal.loop-bit-preserved
loop-bit-preserved c =
    let bits = c.args.bits.now in
    let i = c.loop-bit.bit-index in
    let known = c.loop-bit.known in
    let here = c.is_known-known.result in
    record {
      known = known_more bits i known here (omega arith) c.is_known-known.ensures c.loop-bit.invariant.known;
      value = rw c.from.ensures (value_more bits i c.loop-bit.value known here (omega arith) c.is_known-known.ensures c.loop-bit.invariant.value);
      small = one_bit_more i c.loop-bit.value _ c.loop-bit.invariant.small (omega arith);
    }
