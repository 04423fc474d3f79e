use Rattle.std.proofs.Common.{length, ◌∙◌}
use Rattle.std.proofs.lemmas.List.Elements.{All-push, All-same}
use Rattle.tl_workers.specs.Start.{IsNewWorkerThread}
use Rattle.tl_workers.proofs.setup.push_workers.Goals as goal

pub loop-own-preserved : goal.loop-own-preserved
loop-own-preserved c = λ ports within before.
    let new = IsNewWorkerThread ports (length c.args.master_bells.now) in
    All-same new _ _ c.in-Ok-push.ensures.items
    (All-push new c.loop-own.threads.items _ (c.loop-own.invariant ports within before)
    (record { port = within; rings = c.in-Ok.ensures ∙ c.loop-own.auto.master_bells }))
