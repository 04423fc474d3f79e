use Rattle.std.proofs.Common.{rules, arith, ◌≡◌, ◌+◌, ◌-◌, ◌%◌, ◌≤◌, false, length}
use Rattle.tl_types.specs.Operation.{reply_carries_bytes, reply_byte_count}
use Rattle.tl_beats.specs.Beats.{low}
use Rattle.tl_beats.proofs.Places.{first_fits, bytes_of_size}
use Rattle.tl_beats.proofs.ReplyBytes.{narrow_bytes}
use Rattle.tl_beats.proofs.ReplyReading.{reply_read_from, reply_read_spells}
use Rattle.tl_beats.proofs.reply_assemble.fill_reply.Goals as goal

pub slice_bounds-bytes-end : goal.slice_bounds-bytes-end
slice_bounds-bytes-end c =
    let first = c.args.first.now in
    let lane : c.first_lane-lane.result ≡ low c.args.address first.size % 8 = search rules in
    let count : c.byte_count-count.result ≡ reply_byte_count c.args.op first.size = search rules in
    omega (
      arith,
      lane,
      count,
      c.if-count-le-BUS_BYTES.true,
      first_fits c.args.address first.size,
      bytes_of_size (reply_carries_bytes c.args.op) first.size,
    )

pub returns-then-count-le-BUS_BYTES-clause-spells : goal.returns-then-count-le-BUS_BYTES-clause-spells
returns-then-count-le-BUS_BYTES-clause-spells c =
    let beats = c.args.beats.now in
    let first = c.args.first.now in
    let lane : c.first_lane-lane.result ≡ low c.args.address first.size % 8 = search rules in
    let count : c.byte_count-count.result ≡ reply_byte_count c.args.op first.size = search rules in
    let narrow : reply_byte_count c.args.op first.size ≤ 8 = omega (arith, count, c.if-count-le-BUS_BYTES.true) in
    let in_bus : c.first_lane-lane.result + reply_byte_count c.args.op first.size ≤ 8 =
    omega (
      arith,
      lane,
      narrow,
      first_fits c.args.address first.size,
      bytes_of_size (reply_carries_bytes c.args.op) first.size,
    ) in
    let eight : length first.lanes ≡ 8 = search rules in
    let not_denied : first.denied ≡ false = search rules in
    let bytes = narrow_bytes beats first c.args.op c.args.address c.first_lane-lane.result c.requires.begun.head eight not_denied narrow lane in_bus in
    let read = reply_read_from beats first c.args.op c.args.address _ c.requires.faultless bytes in
    let part : c.first_lane-lane.result + reply_byte_count c.args.op first.size - c.first_lane-lane.result ≡ reply_byte_count c.args.op first.size =
    omega arith in
    rw (c.refill.ensures, count, part) (reply_read_spells beats first c.args.op c.args.address c.requires.begun _ read)
