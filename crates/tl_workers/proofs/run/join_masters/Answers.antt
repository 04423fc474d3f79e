use Rattle.std.proofs.Common.{length, arith}
use Rattle.tl_workers.specs.Start.{IsPromised, IsTraceOf}
use Rattle.tl_workers.proofs.Rows.{row_head, row_tail, row_more, length_more}
use Rattle.tl_workers.proofs.Asking.{kept_promise}
use Rattle.tl_workers.proofs.run.join_masters.Goals as goal

pub loop-handle-preserved : goal.loop-handle-preserved
loop-handle-preserved g c =
    let a = c.args.arena.now in
    let ranges = c.args.system.now.ranges in
    let jobs = c.args.system.now.jobs in
    let step = c.in-Some.ensures.steps in
    let was = c.loop-handle.invariant in
    let push = c.push_reserved.ensures in
    let done = c.loop-handle.traces.items in
    let first = row_head (IsPromised a ranges jobs) (length done) c.in-Some.handle _ _ step.0 was.promised in
    record {
      count = omega (arith, step.1, push.len, was.count);
      room = rw push.capacity was.room;
      promised = row_tail (IsPromised a ranges jobs) (length done)
          (length c.push_reserved.new.self.items) c.in-Some.handle _ _ step.0
          (length_more done c.push_reserved.new.self.items c.join.result push.items) was.promised;
      traces = row_more (IsTraceOf a ranges jobs) done c.push_reserved.new.self.items c.join.result push.items was.traces
          (kept_promise a ranges jobs (length done) c.in-Some.handle c.join.result first c.join.ensures);
    }
