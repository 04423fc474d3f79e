-- There was no memory for the line, or the write failed.
use Rattle.std.proofs.Common.{◌∙◌, refl}
use Rattle.std.proofs.KnownBytes.{Keeps-refl}
use Rattle.check_program.specs.declared.fault.CheckFault.TheVariants as check
use Rattle.check_program.proofs.Failing.{if_err, not_ok}
use Rattle.check_program.proofs.engine.tell.Goals as goal

pub returns-in_err-line : goal.returns-in_err-line
returns-in_err-line g c =
    let result = c.from_residual.result in
    let is = c.from_residual.ensures.1 in
    record {
      same_writer = refl;
      answered = not_ok _ result check.Memory is;
      written = not_ok _ result check.Memory is;
      fault = if_err _ result check.Memory is (Keeps-refl _);
    }

pub returns-in_err-write_all : goal.returns-in_err-write_all
returns-in_err-write_all g c =
    let result = c.from_residual-in_err-write_all.result in
    let is = c.from_residual-in_err-write_all.ensures.1 in
    let front = c.in_err-write_all.ensures.front in
    record {
      same_writer = c.write_all.ensures.same;
      answered = not_ok _ result check.Write is;
      written = not_ok _ result check.Write is;
      fault = if_err _ result check.Write is (rw (c.deref.ensures.value ∙ c.in_ok-line.ensures) at front);
    }

-- the rest is left to the search, so that an edit leaves its goal open
