-- What went out before the failed write is a front of the text of the run.
use Rattle.std.proofs.Common.{rules}
use Rattle.tl_program.proofs.Failing.{at_err}
use Rattle.tl_program.proofs.engine.serial.write_run.Goals as goal

pub returns-in_err-write_all-clause-answered : goal.returns-in_err-write_all-clause-answered
returns-in_err-write_all-clause-answered g c read_old read_new given taken =
    let front = c.in_err-write_all.ensures.front in
    record {
      ok = search rules;
      script = search rules;
      audit = search rules;
      taken = taken;
      quiet = search rules;
      part = at_err _ c.from_residual-in_err-write_all.result (λ e is. record {
        system = c.args.system.now;
        text = c.in_ok-text.text.items;
        given = given;
        of_run = c.in_ok-text.ensures;
        written = rw c.deref.ensures.value at front;
      });
    }
