-- One lane more is known.
use Rattle.std.proofs.Common.{◌≡◌, ◌∙◌, ◌+◌, ◌-◌, ◌*◌, ◌^◌, get_or, length, Some, length-set, arith}
use Rattle.check_rows.specs.Digit.{digit_code}
use Rattle.check_rows.specs.Lanes.{lane_at}
use Rattle.check_rows.proofs.Digits.{lane-known}
use Rattle.check_rows.proofs.Shown.{all-read, all_ones, lane-here, one_lane_more}
use Rattle.check_rows.proofs.lanes.read_known.Goals as goal

pub loop-k-preserved : goal.loop-k-preserved
loop-k-preserved c =
    let count = length c.args.lanes.now in
    let k = c.loop-k.k in
    let word = c.args.word.now in
    let lanes = c.loop-k.lanes in
    let high = digit_code (get_or word (2 * k) 0) in
    let low = digit_code (get_or word (2 * k + 1) 0) in
    let size = c.loop-k.invariant.size in
    let is_high : c.digit_code-high.result ≡ high = c.digit_code-high.ensures in
    let is_low : c.digit_code-low.result ≡ low = c.digit_code-low.ensures in
    let lane : lane_at count word (count - 1 - k) ≡ Some (Some (16 * high + low)) =
    lane-here count word k (omega arith)
    ∙ lane-known (get_or word (2 * k) 0) (get_or word (2 * k + 1) 0) (omega arith) in
    let here : count - (k + 1) ≡ count - 1 - k = omega arith in
    let next : count - k ≡ count - 1 - k + 1 = omega arith in
    let byte : 16 * c.digit_code-high.result + c.digit_code-low.result ≡ 16 * high + low = omega arith in
    record {
      size = length-set lanes (count - 1 - k) (16 * c.digit_code-high.result + c.digit_code-low.result) ∙ size;
      read = rw (here, byte, all_ones k)
          (one_lane_more count word (count - 1 - k) k (2 ^ k - 1) lanes (Some (16 * high + low)) lane
          (omega (arith, size)) (rw next at c.loop-k.invariant.read));
    }

pub returns : goal.returns
returns c = λ _.
    let count = length c.args.lanes.now in
    let all : c.loop-k.k ≡ count = omega arith in
    let none : count - c.loop-k.k ≡ 0 = omega arith in
    all-read count c.args.word.now (2 ^ count - 1) c.loop-k.lanes (rw (none, all) at c.loop-k.invariant.read)
