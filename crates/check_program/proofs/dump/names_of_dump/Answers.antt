-- The names of a file, or why there are none, or the link that lacks signals.
use Rattle.check_program.specs.Fault.{of_keys}
use Rattle.check_program.proofs.DumpJudged.{names_fault}
use Rattle.check_program.proofs.Failing.{if_err}
use Rattle.check_program.proofs.dump.names_of_dump.Goals as goal

pub returns-in_err-names-clause-fault : goal.returns-in_err-names-clause-fault
returns-in_err-names-clause-fault c =
    let why = c.in_err-names.field-0.0 in
    if_err _ c.from_residual.result (of_keys why) c.from_residual.ensures.1
    (names_fault c.args.file.now c.args.links why c.in_err-names.ensures)
