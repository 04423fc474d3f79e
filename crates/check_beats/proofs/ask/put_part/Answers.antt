use Rattle.std.proofs.Common.{◌≡◌, ◌∙◌, ◌%◌, ◌^◌, ap, refl, arith}
use Rattle.tl_types.specs.Operation.{byte_count}
use Rattle.check_beats.specs.Bus.{bus_log, low}
use Rattle.check_beats.specs.Message.{op_of, ask_part, ask_part_count}
use Rattle.check_beats.proofs.Given.{clean_part, one_is_lawful}
use Rattle.check_beats.proofs.ask.put_part.Goals as goal

pub refill_from-requires : goal.refill_from-requires
refill_from-requires c =
    let w = bus_log c.args.bus in
    let beat = c.args.beat.now in
    let lanes = c.args.lanes.now in
    let op : byte_count c.args.op beat.size ≡ byte_count (op_of beat.opcode beat.param) beat.size = ap (λ o. byte_count o beat.size) c.requires.op in
    let first : c.first_lane-first.result ≡ low beat.address beat.size % 2 ^ w = c.first_lane-first.ensures.value in
    let count : c.min-count.result ≡ ask_part_count (2 ^ w) beat = omega (arith, op) in
    let bytes : c.push_lanes.new.bytes ≡ ask_part (2 ^ w) beat lanes = (rw (c.new-bytes.ensures, first, count) at c.push_lanes.ensures) ∙ clean_part (2 ^ w) beat lanes c.requires.clean in
    rw (c.requires.op, bytes) (one_is_lawful w beat lanes c.requires.formed c.requires.alone)

pub returns : goal.returns
returns c =
    let w = bus_log c.args.bus in
    let beat = c.args.beat.now in
    let lanes = c.args.lanes.now in
    let op : byte_count c.args.op beat.size ≡ byte_count (op_of beat.opcode beat.param) beat.size = ap (λ o. byte_count o beat.size) c.requires.op in
    let first : c.first_lane-first.result ≡ low beat.address beat.size % 2 ^ w = c.first_lane-first.ensures.value in
    let count : c.min-count.result ≡ ask_part_count (2 ^ w) beat = omega (arith, op) in
    let bytes : c.push_lanes.new.bytes ≡ ask_part (2 ^ w) beat lanes = (rw (c.new-bytes.ensures, first, count) at c.push_lanes.ensures) ∙ clean_part (2 ^ w) beat lanes c.requires.clean in
    c.refill_from.ensures ∙ rw (c.requires.op, bytes) refl
