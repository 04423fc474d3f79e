use Rattle.std.proofs.Common.{◌≡◌, ℕ, length, arith, subst}
use Rattle.std.proofs.lemmas.Grind.{common_steps}
use Rattle.tl_workers.specs.Start.{IsNewMaster, IsNewMasterThread}
use Rattle.tl_workers.proofs.Rows.{row_head, row_tail, row_more, length_more}
use Rattle.tl_workers.proofs.setup.master_threads_of.Goals as goal

pub master_thread_of-requires-clause-seat : goal.master_thread_of-requires-clause-seat
master_thread_of-requires-clause-seat c =
    let num : length c.loop-seat.threads.items ≡ c.len-number.result = grind (arith, common_steps) in
    subst (λ (n : ℕ). IsNewMaster c.args.arena.now n c.in-Some.seat) num
    (row_head (IsNewMaster c.args.arena.now)
    (length c.loop-seat.threads.items) c.in-Some.seat _ _ c.in-Some.ensures.steps.0 c.loop-seat.invariant.seats)

pub loop-seat-preserved : goal.loop-seat-preserved
loop-seat-preserved c =
    let a = c.args.arena.now in
    let s = c.args.system.now in
    let was = c.loop-seat.invariant in
    let step = c.in-Some.ensures.steps in
    let push = c.push_reserved.ensures in
    let done = c.loop-seat.threads.items in
    let after = c.push_reserved.new.self.items in
    let num : c.len-number.result ≡ length done = grind (arith, common_steps) in
    let more = length_more done after c.in-Ok-master_thread_of.thread push.items in
    record {
      count = omega (arith, step.1, push.len, was.count);
      room = rw push.capacity was.room;
      bells = grind (arith, common_steps);
      seats = row_tail (IsNewMaster a) (length done) (length after) c.in-Some.seat _ _ step.0 more was.seats;
      threads = row_more (IsNewMasterThread a s) done after c.in-Ok-master_thread_of.thread push.items was.threads
          (subst (λ (n : ℕ). IsNewMasterThread a s n c.in-Ok-master_thread_of.thread) num c.in-Ok-master_thread_of.ensures);
    }
