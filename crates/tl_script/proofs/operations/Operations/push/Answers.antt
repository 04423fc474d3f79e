-- The operations before are read from the larger pools as they were, and the new one stands after them.
use Rattle.std.proofs.Common.{◌≡◌, ◌∙◌, ◌++◌, ◌∷◌, [], List, refl, ap, map, Result, Ok, Err}
use Rattle.std.specs.Prelude.{OnErr}
use Rattle.tl_script.specs.Operation.{job_of}
use Rattle.tl_script.specs.Operations.{job_in}
use Rattle.tl_script.specs.declared.operation.Job.{Job}
use Rattle.tl_script.specs.declared.operations.Header.{Header}
use Rattle.tl_script.proofs.Pooled.{Takes, jobs_in-grow, pushed_in, pushed_jobs, takes_send, takes_wait}
use Rattle.tl_script.proofs.operations.Operations.push.Goals as goal
use Rattle.tl_script.proofs.operations.Operations.push.Goals.{in-Wait, in-Send+in_ok-keep-in-Send}

on_err : {A E : Type 0} (result : Result A E) (P : Type 0) → P → OnErr result P
on_err (Ok x) P holds = tt
on_err (Err e) P holds = holds

pub returns-in_err-push-clause-err : goal.returns-in_err-push-clause-err
returns-in_err-push-clause-err c =
    let takes : Takes c.self.inside.pools c.match-spelled.self-inside.pools c.match-spelled.header
    (job_of c.args.spelled c.args.bytes.now) = elim c.match-spelled.branch [
      | in-Wait w ↦ rw (w.self-inside-is, w.header-is, w.in-Wait.is) (takes_wait c.self.inside.pools)
      | in-Send+in_ok-keep-in-Send w ↦
          let lawful = rw w.in-Send.is at c.requires in
          rw (w.self-inside-is, w.header-is, w.in-Send.is)
          (takes_send w.in-Send.op w.in-Send.size w.in-Send.source w.in-Send.address c.args.bytes.now c.self.inside.pools w.keep.new.self w.in_ok-keep-in-Send.field-0 lawful w.in_ok-keep-in-Send.ensures.ok)
    ] in
    let same : c.match-spelled.self-inside.headers.items ≡ c.self.inside.headers.items =
    elim c.match-spelled.branch [ in-Wait w ↦ rw w.self-inside-is refl | in-Send+in_ok-keep-in-Send w ↦ rw w.self-inside-is refl ] in
    on_err c.from_residual-in_err-push.result _
    (ap (map (job_in c.match-spelled.self-inside.pools)) (c.in_err-push.ensures.items ∙ same)
    ∙ jobs_in-grow c.self.inside.headers.items c.self.inside.pools c.match-spelled.self-inside.pools takes.grow c.self.invariant
    ∙ c.self.view_is)

pub invariant_of-self-2 : goal.invariant_of-self-2
invariant_of-self-2 c =
    let takes : Takes c.self.inside.pools c.match-spelled.self-inside.pools c.match-spelled.header
    (job_of c.args.spelled c.args.bytes.now) = elim c.match-spelled.branch [
      | in-Wait w ↦ rw (w.self-inside-is, w.header-is, w.in-Wait.is) (takes_wait c.self.inside.pools)
      | in-Send+in_ok-keep-in-Send w ↦
          let lawful = rw w.in-Send.is at c.requires in
          rw (w.self-inside-is, w.header-is, w.in-Send.is)
          (takes_send w.in-Send.op w.in-Send.size w.in-Send.source w.in-Send.address c.args.bytes.now c.self.inside.pools w.keep.new.self w.in_ok-keep-in-Send.field-0 lawful w.in_ok-keep-in-Send.ensures.ok)
    ] in
    let same : c.match-spelled.self-inside.headers.items ≡ c.self.inside.headers.items =
    elim c.match-spelled.branch [ in-Wait w ↦ rw w.self-inside-is refl | in-Send+in_ok-keep-in-Send w ↦ rw w.self-inside-is refl ] in
    rw (c.in_ok-push.ensures.items, same) (pushed_in c.self.inside.headers.items c.match-spelled.header
    (job_of c.args.spelled c.args.bytes.now) c.self.inside.pools c.match-spelled.self-inside.pools takes c.self.invariant)

pub returns-clause-ok : goal.returns-clause-ok
returns-clause-ok c =
    let takes : Takes c.self.inside.pools c.match-spelled.self-inside.pools c.match-spelled.header
    (job_of c.args.spelled c.args.bytes.now) = elim c.match-spelled.branch [
      | in-Wait w ↦ rw (w.self-inside-is, w.header-is, w.in-Wait.is) (takes_wait c.self.inside.pools)
      | in-Send+in_ok-keep-in-Send w ↦
          let lawful = rw w.in-Send.is at c.requires in
          rw (w.self-inside-is, w.header-is, w.in-Send.is)
          (takes_send w.in-Send.op w.in-Send.size w.in-Send.source w.in-Send.address c.args.bytes.now c.self.inside.pools w.keep.new.self w.in_ok-keep-in-Send.field-0 lawful w.in_ok-keep-in-Send.ensures.ok)
    ] in
    let same : c.match-spelled.self-inside.headers.items ≡ c.self.inside.headers.items =
    elim c.match-spelled.branch [ in-Wait w ↦ rw w.self-inside-is refl | in-Send+in_ok-keep-in-Send w ↦ rw w.self-inside-is refl ] in
    let headers = c.self.inside.headers.items in
    ap (map (job_in c.match-spelled.self-inside.pools))
    (c.in_ok-push.ensures.items ∙ ap (λ (hs : List Header). hs ++ c.match-spelled.header ∷ []) same)
    ∙ pushed_jobs headers c.match-spelled.header
    (job_of c.args.spelled c.args.bytes.now) c.self.inside.pools c.match-spelled.self-inside.pools takes c.self.invariant
    ∙ ap (λ (jobs : List Job). jobs ++ (job_of c.args.spelled c.args.bytes.now) ∷ []) c.self.view_is
