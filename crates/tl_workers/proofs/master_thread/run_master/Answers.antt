use Rattle.std.proofs.Common.{◌≡◌, ◌+◌, ◌≤◌, ◌∙◌, Bool, Some, ap, arith, length, slice_get, subst, sym}
use Rattle.std.proofs.lemmas.Option.{get_or_from_slice_get, slice_get_within}
use Rattle.tl_script.specs.Operations.{job_at}
use Rattle.tl_script.specs.declared.operation.Job.{Job}
use Rattle.tl_script.specs.declared.operation.Job.TheVariants.{Send, Wait}
use Rattle.tl_master.specs.Master.{MasterState}
use Rattle.tl_workers.specs.Trace.{HasDone, IsDriven}
use Rattle.tl_workers.proofs.Asking.{idle_driven, one_more, traced}
use Rattle.tl_workers.proofs.master_thread.run_master.Goals as goal
use Rattle.tl_workers.proofs.master_thread.run_master.Goals.{else-fill, then-fill}

pub loop-operation-init : goal.loop-operation-init
loop-operation-init g c =
    let shared = c.args.shared.now in
    record {
      done = idle_driven shared.arena.now shared.system.now.ranges c.args.number c.args.jobs.now c.args.master c.requires.new;
      bells = c.requires.bells;
    }

pub loop-operation-preserved : goal.loop-operation-preserved
loop-operation-preserved g c =
    let shared = c.args.shared.now in
    let ranges = shared.system.now.ranges in
    let was = c.loop-operation.invariant in
    let jobs = c.args.jobs.now in
    let k = c.loop-operation.operation in
    let m = c.loop-operation.master in
    let ask = c.fill.new.ask in
    let next : (job : Job) (n : MasterState) → slice_get jobs k ≡ Some job → HasDone ranges m job n
    → IsDriven shared.arena.now ranges c.args.number jobs (k + 1) n =
    λ job n at done. one_more shared.arena.now ranges c.args.number jobs k job m n
    (slice_get_within jobs k job at) was.done
    (subst (λ (j : Job). HasDone ranges m j n) (sym (get_or_from_slice_get jobs k job job at)) done) in
    elim c.if-fill.branch [
      | else-fill w ↦
          let at : slice_get jobs k ≡ Some Wait =
          c.fill.ensures.job ∙ ap (λ (sends : Bool). Some (job_at sends ask)) w.if-fill.false in
          record {
            done = rw w.master-is (next Wait w.collect_all.new.master at
                (w.collect_all.ensures.same, w.collect_all.ensures.none));
            bells = rw w.bells-is was.bells;
          }
      | then-fill w ↦
          let at : slice_get jobs k ≡ Some (Send ask) =
          c.fill.ensures.job ∙ ap (λ (sends : Bool). Some (job_at sends ask)) w.if-fill.true in
          record {
            done = rw w.master-is (next (Send ask) w.send.new.master at w.send.ensures.asked);
            bells = rw w.bells-is (w.send.ensures.bells ∙ was.bells);
          }
    ]

pub returns : goal.returns
returns g c =
    let shared = c.args.shared.now in
    let over : length c.args.jobs.now ≤ c.loop-operation.operation = omega arith in
    traced shared.arena.now shared.system.now.ranges c.args.number c.args.jobs.now c.loop-operation.operation c.loop-operation.master c.collect_all-2.new.master c.finish.result.items over c.loop-operation.invariant.done
    c.collect_all-2.ensures.same c.collect_all-2.ensures.none c.finish.ensures.trace c.finish.ensures.order c.finish.ensures.widened c.finish.ensures.own
