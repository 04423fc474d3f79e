use Rattle.std.proofs.Common.{◌≡◌, ◌∙◌, ◌%◌, ◌^◌, min, ap, refl, arith}
use Rattle.tl_types.specs.Operation.{reply_byte_count}
use Rattle.check_cells.specs.Pattern.{Pattern}
use Rattle.check_beats.specs.Bus.{bus_log, low}
use Rattle.check_beats.specs.Message.{reply_op_of_number}
use Rattle.check_beats.proofs.reply.put_reply.Goals as goal

pub returns : goal.returns
returns c =
    let w = bus_log c.args.bus in
    let beat = c.args.beat.now in
    let op : reply_byte_count c.lawful_reply_op-op.result beat.size ≡ reply_byte_count (reply_op_of_number beat.opcode) beat.size = ap (λ o. reply_byte_count o beat.size) c.lawful_reply_op-op.ensures.value in
    let first : c.first_lane-first.result ≡ low c.args.address beat.size % 2 ^ w = c.first_lane-first.ensures.value in
    let count : c.min-count.result ≡ min (2 ^ w) (reply_byte_count (reply_op_of_number beat.opcode) beat.size) = omega (arith, op) in
    ap (λ (p : Pattern). record p { bytes = c.put_seen.new.cells; spoiled = c.push.new.self }) (c.reply.view_is ∙ c.set_fields.ensures)
    ∙ rw (c.put_seen.ensures, c.push.ensures, c.clear.ensures, c.is_spoiled.ensures, first, count, c.lawful_reply_op-op.ensures.value) refl
