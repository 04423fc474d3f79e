use Rattle.std.proofs.Common.{rules, arith, ◌≡◌, length, take}
use Rattle.tl_types.specs.Operation.{reply_byte_count}
use Rattle.tl_beats.proofs.ReplyBytes.{wide_bytes}
use Rattle.tl_beats.proofs.ReplyReading.{reply_read_from, reply_read_spells}
use Rattle.tl_beats.proofs.reply_assemble.fill_wide.Goals as goal

pub returns-clause-spells : goal.returns-clause-spells
returns-clause-spells c =
    let beats = c.args.beats.now in
    let first = c.args.first.now in
    let lanes = c.put_lanes.new.lanes in
    let count : c.byte_count.result ≡ reply_byte_count c.args.op first.size = search rules in
    let long : length lanes ≡ 256 = search rules in
    let bytes = wide_bytes beats first c.args.op c.args.address lanes c.requires.given c.requires.wide
    (omega (arith, count, long, c.byte_count.ensures.in_limit)) c.put_lanes.ensures in
    let read = reply_read_from beats first c.args.op c.args.address
    (take (reply_byte_count c.args.op first.size) lanes) c.requires.faultless bytes in
    rw (c.refill.ensures, count) (reply_read_spells beats first c.args.op c.args.address c.requires.begun _ read)
