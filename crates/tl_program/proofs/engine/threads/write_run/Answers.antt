-- What went out before the failed write is a front of the text of the run; and the fault of an audit is one of the run.
use Rattle.std.proofs.Common.{rules}
use Rattle.tl_audit.specs.Agrees.{Agrees}
use Rattle.tl_audit.specs.Reader.{histories_of}
use Rattle.tl_journal.specs.Trace.{entries_in}
use Rattle.tl_program.specs.Engine.{HasThreadedFault, IsThreadedText}
use Rattle.tl_program.proofs.Failing.{at_err, refused, told_by}
use Rattle.tl_program.proofs.engine.threads.write_run.Goals as goal

pub returns-in_err-write_all-clause-answered : goal.returns-in_err-write_all-clause-answered
returns-in_err-write_all-clause-answered g c read_old read_new given taken ran =
    let front = c.in_err-write_all.ensures.front in
    let run = c.args.run.now in
    let agrees : Agrees c.sources.result.now (entries_in c.deref.result.now) (histories_of c.deref-2.result.now) =
    c.in_ok-audit.ensures.ok in
    record {
      ok = search rules;
      script = search rules;
      audit = search rules;
      taken = taken;
      quiet = search rules;
      part = at_err _ c.from_residual-in_err-write_all.result (λ e is. record {
        system = c.args.system.now;
        text = c.in_ok-text.text.items;
        given = given;
        of_run = record {
          traces = entries_in run.traces.items;
          books = run.books.items;
          free = run.account.free.items;
          held = run.account.held.items;
          left = run.account.left.items;
          run = ran;
          agrees = rw (c.sources.ensures.value, c.deref.ensures.value, c.deref-2.ensures.value) at agrees;
          is = c.in_ok-text.ensures;
        };
        written = rw c.deref-3.ensures.value at front;
      });
    }

pub returns-in_err-audit-clause-answered : goal.returns-in_err-audit-clause-answered
returns-in_err-audit-clause-answered g c read_old read_new given taken ran =
    let run = c.args.run.now in
    record {
      ok = search rules;
      script = search rules;
      audit = λ fault is.
          let told = told_by c.from_residual.result c.in_err-audit.field-0.0 fault c.from_residual.ensures.1 is in
          let found = c.in_err-audit.ensures.fault in
          record {
            system = c.args.system.now;
            given = given;
            has = record {
              traces = entries_in run.traces.items;
              books = run.books.items;
              free = run.account.free.items;
              held = run.account.held.items;
              left = run.account.left.items;
              run = ran;
              has = rw (c.sources.ensures.value, c.deref.ensures.value, c.deref-2.ensures.value, told.0) at found;
              told = told.1;
            };
          };
      taken = taken;
      quiet = search rules;
      part = search rules;
    }

pub returns-in_err-text-clause-answered : goal.returns-in_err-text-clause-answered
returns-in_err-text-clause-answered g c read_old read_new given taken ran =
    refused (IsThreadedText c.args.history) HasThreadedFault read_old read_new
    (g.W.Write.contents c.args.writer.now.writer.now) c.from_residual-in_err-text.result
    c.from_residual-in_err-text.ensures.1 taken
