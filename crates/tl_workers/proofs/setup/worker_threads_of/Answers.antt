use Rattle.std.proofs.Common.{◌≡◌, ℕ, length, sym, subst}
use Rattle.std.specs.Prelude.{All}
use Rattle.std.proofs.lemmas.List.Elements.{All-head, All-rest, All-same}
use Rattle.tl_workers.specs.Start.{IsHeardAt, IsNewWorkerThread}
use Rattle.tl_workers.proofs.setup.worker_threads_of.Goals as goal

pub loop-listeners-preserved : goal.loop-listeners-preserved
loop-listeners-preserved c =
    let journals = c.args.journals.now in
    let heard = IsHeardAt journals c.args.workers in
    let was = c.loop-listeners.invariant in
    let step = c.in-Some.ensures.steps in
    let here = All-head heard c.in-Some.listeners _ (All-same heard _ _ (sym step.0) was.heard) in
    let bells : length c.loop-listeners.master_bells ≡ length c.args.master_bells.now =
    c.loop-listeners.auto.master_bells in
    record {
      heard = All-rest heard c.in-Some.listeners _ _ step.0 was.heard;
      threads = subst (λ (n : ℕ). All (IsNewWorkerThread (length journals) n) c.push_workers.new.threads.items) bells
          (c.in-Ok-push_workers.ensures (length journals) here.within
          (subst (λ (n : ℕ). All (IsNewWorkerThread (length journals) n) c.loop-listeners.threads.items)
          (sym bells) was.threads));
    }
