use Rattle.std.proofs.Common.{◌≡◌, ℕ, ◌<◌, List, length, slice_get, Some, arith, rules, sym, ap, subst, ◌∙◌}
use Rattle.std.specs.Vec.Iter.{into_iter_items}
use Rattle.std.proofs.lemmas.Grind.{common_steps}
use Rattle.tl_script.specs.declared.operation.Job.{Job}
use Rattle.tl_workers.specs.declared.run.MasterThread.{MasterThread}
use Rattle.tl_workers.specs.Start.{AreFrom, IsNewMasterThread, IsPromised}
use Rattle.tl_workers.proofs.Arrivals.{listed_at}
use Rattle.tl_workers.proofs.Rows.{row_head, row_tail, row_more, row_empty, length_more}
use Rattle.tl_workers.proofs.run.start_masters.Goals as goal

pub loop-thread-init : goal.loop-thread-init
loop-thread-init g c =
    let none : length c.args.handles.items ≡ 0 = grind (arith, common_steps) in
    let given = c.into_iter-thread-iterator.ensures.into_iter_gives in
    let s = c.args.shared.now.system.now in
    let new = IsNewMasterThread c.args.shared.now.arena.now s in
    record {
      count = search rules;
      room = c.requires.room;
      masters = subst (λ (n : ℕ). AreFrom new n (into_iter_items c.into_iter-thread-iterator.result)) (sym none)
          (subst (λ (ts : List MasterThread). AreFrom new 0 ts) (sym given.0) c.requires.masters);
      promised = row_empty (IsPromised c.args.shared.now.arena.now s.ranges s.jobs) 0 c.args.handles.items none;
    }

pub start_master-requires-clause-new : goal.start_master-requires-clause-new
start_master-requires-clause-new g c κs within =
    let new = IsNewMasterThread c.args.shared.now.arena.now c.args.shared.now.system.now in
    let num : c.len-number.result ≡ length c.loop-thread.handles.items = grind (arith, common_steps) in
    let step = c.in-Some.ensures.steps in
    (subst (λ (n : ℕ). new n c.in-Some.thread) (sym num)
    (row_head new (length c.loop-thread.handles.items) c.in-Some.thread _ _ step.0 c.loop-thread.invariant.masters)).idle

pub start_master-requires-clause-room : goal.start_master-requires-clause-room
start_master-requires-clause-room g c κs within =
    let s = c.args.shared.now.system.now in
    let new = IsNewMasterThread c.args.shared.now.arena.now s in
    let num : c.len-number.result ≡ length c.loop-thread.handles.items = grind (arith, common_steps) in
    let lt : c.len-number.result < length c.jobs.result.now = grind (arith, common_steps) in
    let step = c.in-Some.ensures.steps in
    let is = subst (λ (n : ℕ). new n c.in-Some.thread) (sym num)
    (row_head new (length c.loop-thread.handles.items) c.in-Some.thread _ _ step.0 c.loop-thread.invariant.masters) in
    is.room c.index-jobs-number.result
    (listed_at s c.jobs.result.now c.len-number.result c.index-jobs-number.result c.jobs.ensures.value lt c.index-jobs-number.is)

pub start_master-requires-clause-bells : goal.start_master-requires-clause-bells
start_master-requires-clause-bells g c κs within =
    let new = IsNewMasterThread c.args.shared.now.arena.now c.args.shared.now.system.now in
    (row_head new (length c.loop-thread.handles.items) c.in-Some.thread _ _ c.in-Some.ensures.steps.0 c.loop-thread.invariant.masters).rings

pub loop-thread-preserved : goal.loop-thread-preserved
loop-thread-preserved g c =
    let a = c.args.shared.now.arena.now in
    let s = c.args.shared.now.system.now in
    let was = c.loop-thread.invariant in
    let push = c.push_reserved.ensures in
    let step = c.in-Some.ensures.steps in
    let done = c.loop-thread.handles.items in
    let made = c.in-Some-start_master.ensures in
    let h = c.in-Some-start_master.handle in
    let num : c.len-number.result ≡ length c.loop-thread.handles.items = grind (arith, common_steps) in
    let lt : c.len-number.result < length c.jobs.result.now = grind (arith, common_steps) in
    let at : slice_get s.jobs c.len-number.result ≡ Some h.promise.jobs.value =
    listed_at s c.jobs.result.now c.len-number.result c.index-jobs-number.result c.jobs.ensures.value lt c.index-jobs-number.is
    ∙ ap (λ (own : List Job). Some own) (sym made.3) in
    record {
      count = omega (arith, step.1, push.len, was.count);
      room = rw push.capacity was.room;
      masters = row_tail (IsNewMasterThread a s) (length done)
          (length c.push_reserved.new.self.items) c.in-Some.thread _ _ step.0
          (length_more done c.push_reserved.new.self.items h push.items) was.masters;
      promised = row_more (IsPromised a s.ranges s.jobs) done c.push_reserved.new.self.items h push.items was.promised
          (record {
            number_is = made.0 ∙ num;
            arena_is = made.1;
            map_is = made.2;
            jobs_are = subst (λ (n : ℕ). slice_get s.jobs n ≡ Some h.promise.jobs.value) num at;
          });
    }
