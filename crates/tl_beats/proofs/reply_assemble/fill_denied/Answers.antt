use Rattle.std.proofs.Common.{rules, arith, ◌≡◌, take, replicate}
use Rattle.tl_types.specs.Operation.{reply_byte_count}
use Rattle.tl_beats.proofs.ReplyBytes.{denied_bytes}
use Rattle.tl_beats.proofs.ReplyReading.{reply_read_from, reply_read_lawful, reply_read_spells}
use Rattle.tl_beats.proofs.reply_assemble.fill_denied.Goals as goal

pub refill-requires : goal.refill-requires
refill-requires c =
    let beats = c.args.beats.now in
    let first = c.args.first.now in
    let count : c.byte_count.result ≡ reply_byte_count c.args.op first.size = search rules in
    let bytes = denied_bytes beats first c.args.op c.args.address 256 c.requires.denied
    (omega (arith, count, c.byte_count.ensures.in_limit)) in
    let read = reply_read_from beats first c.args.op c.args.address
    (take (reply_byte_count c.args.op first.size) (replicate 256 0)) c.requires.faultless bytes in
    rw count (reply_read_lawful beats first c.args.op c.args.address c.requires.begun _ read)

pub returns-clause-lawful : goal.returns-clause-lawful
returns-clause-lawful c =
    let beats = c.args.beats.now in
    let first = c.args.first.now in
    let count : c.byte_count.result ≡ reply_byte_count c.args.op first.size = search rules in
    let bytes = denied_bytes beats first c.args.op c.args.address 256 c.requires.denied
    (omega (arith, count, c.byte_count.ensures.in_limit)) in
    let read = reply_read_from beats first c.args.op c.args.address
    (take (reply_byte_count c.args.op first.size) (replicate 256 0)) c.requires.faultless bytes in
    rw (c.refill.ensures, count) (reply_read_lawful beats first c.args.op c.args.address c.requires.begun _ read)

pub returns-clause-spells : goal.returns-clause-spells
returns-clause-spells c =
    let beats = c.args.beats.now in
    let first = c.args.first.now in
    let count : c.byte_count.result ≡ reply_byte_count c.args.op first.size = search rules in
    let bytes = denied_bytes beats first c.args.op c.args.address 256 c.requires.denied
    (omega (arith, count, c.byte_count.ensures.in_limit)) in
    let read = reply_read_from beats first c.args.op c.args.address
    (take (reply_byte_count c.args.op first.size) (replicate 256 0)) c.requires.faultless bytes in
    rw (c.refill.ensures, count) (reply_read_spells beats first c.args.op c.args.address c.requires.begun _ read)
