use Rattle.std.proofs.Common.{rules}
use Rattle.tl_beats.specs.Faults.{SameReplyFields}
use Rattle.tl_beats.specs.Reading.{HasLawfulFlag}
use Rattle.tl_beats.proofs.Failing.{holds_more_at}
use Rattle.tl_beats.proofs.reply_assemble.check_reply_beats.Goals as goal

pub loop-b-preserved : goal.loop-b-preserved
loop-b-preserved c =
    let beats = c.args.beats.now in
    let first = c.args.first.now in
    let so_far = c.loop-b.invariant in
    let lawful = c.is_lawful_where.ensures c.args.op first.denied (search rules) in
    record {
      same = holds_more_at (SameReplyFields first) beats c.loop-b.b _ so_far.same c.loop-b-test.true
          (c.same_reply_fields.ensures.0 c.if-not-same_reply_fields.false);
      flags = holds_more_at (HasLawfulFlag c.args.op first) beats c.loop-b.b _ so_far.flags c.loop-b-test.true
          (lawful.0 c.if-not-is_lawful_where.false);
    }
