use Rattle.std.proofs.Common.{◌<◌, ◌∙◌, List, length, ap, sym, subst}
use Rattle.tl_script.specs.declared.operation.Job.{Job}
use Rattle.tl_script.specs.System.{sends}
use Rattle.std.proofs.lemmas.List.Elements.{All-head, All-same}
use Rattle.tl_workers.specs.Bell.{HasRoom}
use Rattle.tl_workers.proofs.Arrivals.{listed_here, listed_many}
use Rattle.tl_workers.proofs.setup.master_thread_of.Goals as goal

pub returns : goal.returns
returns c =
    let s = c.args.system.now in
    let lists = c.jobs.result.now in
    let within : c.args.number < length lists =
    subst (λ n. c.args.number < n) (sym (listed_many s lists c.jobs.ensures.value)) c.requires.jobs in
    let heard : HasRoom c.requests-limit.result c.in-Some.own =
    All-head (HasRoom c.requests-limit.result) c.in-Some.own _
    (All-same (HasRoom c.requests-limit.result) _ _ (sym c.in-Some.ensures.items)
    (All-same (HasRoom c.requests-limit.result) _ _ c.into_iter.ensures.rest c.in-Ok.ensures.room)) in
    record {
      idle = c.in-Ok-master_of.ensures.idle;
      room = λ its_jobs at.
          let here = listed_here s lists c.args.number c.index-jobs-number.result its_jobs c.jobs.ensures.value within c.index-jobs-number.is at in
          c.in-Ok-master_of.ensures.room ∙ c.requests-limit.ensures ∙ ap (λ (js : List Job). length (sends js)) here;
      bell = rw c.in-Ok-master_of.ensures.room heard;
      rings = c.in-Ok-ringers_of.ensures ∙ c.requires.ports;
    }
