use Rattle.std.proofs.Common.{◌≡◌, ◌∙◌, ◌+◌, ◌%◌, ◌≤◌, ◌<◌, ◌^◌, min, refl, arith}
use Rattle.check_beats.specs.Bus.{bus_log, low}
use Rattle.check_beats.proofs.Window.{ones_from}
use Rattle.check_beats.proofs.bus.active_mask_on_bus.Goals as goal

pub overflow_shr-result : goal.overflow_shr-result
overflow_shr-result c = omega arith

pub returns : goal.returns
returns c =
    let w = bus_log c.args.bus in
    let first : c.first_lane-first.result ≡ low c.args.address c.args.size % 2 ^ w = c.first_lane-first.ensures.value in
    let count : c.min-count.result ≡ min (2 ^ w) (2 ^ c.args.size) = omega arith in
    let some : 0 < c.min-count.result = omega arith in
    let fits : c.first_lane-first.result + c.min-count.result ≤ 64 = omega arith in
    ones_from c.first_lane-first.result c.min-count.result some fits ∙ rw (first, count) refl
