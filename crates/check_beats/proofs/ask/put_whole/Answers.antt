use Rattle.std.proofs.Common.{◌≡◌, ◌∙◌, ◌+◌, ◌-◌, ◌%◌, ◌^◌, min, ap, refl, arith}
use Rattle.tl_types.specs.Operation.{byte_count}
use Rattle.check_beats.specs.Bus.{bus_log, low}
use Rattle.check_beats.specs.Message.{op_of}
use Rattle.check_beats.proofs.Given.{one_is_lawful, one_is_given}
use Rattle.check_beats.proofs.ask.put_whole.Goals as goal

pub refill_given-requires : goal.refill_given-requires
refill_given-requires c =
    let w = bus_log c.args.bus in
    let beat = c.args.beat.now in
    let lanes = c.args.lanes.now in
    let op : byte_count c.args.op beat.size ≡ byte_count (op_of beat.opcode beat.param) beat.size = ap (λ o. byte_count o beat.size) c.requires.op in
    let first : c.first_lane-first.result ≡ low beat.address beat.size % 2 ^ w = c.first_lane-first.ensures.value in
    let count : c.min-count.result ≡ min (2 ^ w) (byte_count (op_of beat.opcode beat.param) beat.size) = omega (arith, op) in
    let long : c.first_lane-first.result + c.min-count.result - c.first_lane-first.result ≡ c.min-count.result = omega arith in
    rw (c.requires.op, long, count, first, one_is_given w beat lanes c.requires.lanes c.requires.clean c.requires.set) (one_is_lawful w beat lanes c.requires.formed c.requires.alone)

pub returns : goal.returns
returns c =
    let w = bus_log c.args.bus in
    let beat = c.args.beat.now in
    let lanes = c.args.lanes.now in
    let op : byte_count c.args.op beat.size ≡ byte_count (op_of beat.opcode beat.param) beat.size = ap (λ o. byte_count o beat.size) c.requires.op in
    let first : c.first_lane-first.result ≡ low beat.address beat.size % 2 ^ w = c.first_lane-first.ensures.value in
    let count : c.min-count.result ≡ min (2 ^ w) (byte_count (op_of beat.opcode beat.param) beat.size) = omega (arith, op) in
    let long : c.first_lane-first.result + c.min-count.result - c.first_lane-first.result ≡ c.min-count.result = omega arith in
    c.refill_given.ensures ∙ rw (c.requires.op, long, count, first, one_is_given w beat lanes c.requires.lanes c.requires.clean c.requires.set) refl
