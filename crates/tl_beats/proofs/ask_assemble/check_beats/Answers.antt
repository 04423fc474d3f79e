use Rattle.tl_beats.specs.Faults.{SameFields}
use Rattle.tl_beats.specs.Reading.{HasLawfulMask}
use Rattle.tl_beats.proofs.Failing.{holds_more_at}
use Rattle.tl_beats.proofs.ask_assemble.check_beats.Goals as goal

pub loop-b-preserved : goal.loop-b-preserved
loop-b-preserved c =
    let beats = c.args.beats.now in
    let first = c.args.first.now in
    let so_far = c.loop-b.invariant in
    let lawful = c.sets_active.ensures first.size first.address c.active_mask-active.ensures in
    record {
      same = holds_more_at (SameFields first) beats c.loop-b.b _ so_far.same c.loop-b-test.true
          (c.same_fields.ensures.0 c.if-not-same_fields.false);
      masks = holds_more_at (HasLawfulMask c.args.op first) beats c.loop-b.b _ so_far.masks c.loop-b-test.true
          (lawful.0 c.if-not-sets_active.false);
    }
