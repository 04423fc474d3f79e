-- One lane more, or digits that are none.
use Rattle.std.proofs.Common.{◌≡◌, ◌∙◌, ◌+◌, ◌-◌, length, None, Some, length-set, sym, ap, arith}
use mir.Val.{bool_byte}
use Rattle.check_rows.specs.Lanes.{byte_or_zero, known_bit, lane_at}
use Rattle.check_rows.proofs.Shown.{all-read, bit-some, byte-or, lane-here, one_lane_more, shown_by-none}
use Rattle.check_rows.proofs.lanes.read_shown.Goals as goal

pub returns-in_err-lane : goal.returns-in_err-lane
returns-in_err-lane c =
    let count = length c.args.lanes.now in
    let k = c.loop-k.k in
    let word = c.args.word.now in
    let none : lane_at count word (count - 1 - k) ≡ None =
    lane-here count word k (omega arith) ∙ sym c.read_lane.ensures ∙ c.in_err-lane.was in
    rw c.from_residual.ensures (sym (shown_by-none count word (count - 1 - k) (omega arith) none))

pub loop-k-preserved : goal.loop-k-preserved
loop-k-preserved c =
    let count = length c.args.lanes.now in
    let k = c.loop-k.k in
    let word = c.args.word.now in
    let lanes = c.loop-k.lanes in
    let found = c.in_ok-lane.lane in
    let size = c.loop-k.invariant.size in
    let lane : lane_at count word (count - 1 - k) ≡ Some found =
    lane-here count word k (omega arith) ∙ sym c.read_lane.ensures ∙ c.in_ok-lane.was in
    let here : count - (k + 1) ≡ count - 1 - k = omega arith in
    let next : count - k ≡ count - 1 - k + 1 = omega arith in
    let byte : c.unwrap_or.result ≡ byte_or_zero found = c.unwrap_or.ensures ∙ byte-or found in
    let bit : c.from.result ≡ known_bit found = c.from.ensures ∙ ap bool_byte c.is_some.ensures ∙ bit-some found in
    record {
      size = length-set lanes (count - 1 - k) c.unwrap_or.result ∙ size;
      read = rw (here, byte, bit)
          (one_lane_more count word (count - 1 - k) k c.loop-k.known lanes found lane (omega (arith, size))
          (rw next at c.loop-k.invariant.read));
    }

pub returns : goal.returns
returns c =
    let count = length c.args.lanes.now in
    let all : c.loop-k.k ≡ count = omega arith in
    let none : count - c.loop-k.k ≡ 0 = omega arith in
    all-read count c.args.word.now c.loop-k.known c.loop-k.lanes (rw (none, all) at c.loop-k.invariant.read)
