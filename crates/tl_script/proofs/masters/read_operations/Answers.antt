-- One more operation is read, and at the end room is given back.
use Rattle.std.proofs.Common.{arith}
use Rattle.std.proofs.lemmas.Grind.{common_steps}
use Rattle.tl_script.specs.Operation.{job_of}
use Rattle.tl_script.proofs.Jobs.{sends-push}
use Rattle.tl_script.proofs.masters.read_operations.Goals as goal

pub loop-n-preserved : goal.loop-n-preserved
loop-n-preserved c =
    let source = rw c.in-Some.is at c.spell.ensures.source in
    record {
      read = grind (arith, common_steps);
      counted = grind (arith, common_steps);
      sources = rw c.in_ok-push-in-Some.ensures.ok
          (sends-push c.args.master.now.sources c.loop-n.jobs
          (job_of c.in-Some.spelled c.spell.new.bytes) c.loop-n.invariant.sources source);
    }

pub returns-clause-lawful : goal.returns-clause-lawful
returns-clause-lawful c =
    rw c.shrink_to_fit.ensures record {
      in_limit = omega (
        arith,
        c.loop-n.invariant.counted,
        c.loop-n.auto.n-end,
        c.deref-line-items.ensures.value,
        c.deref-line-items.ensures.len,
        c.args.master.now.in_limit,
      );
      sources = c.loop-n.invariant.sources;
    }
