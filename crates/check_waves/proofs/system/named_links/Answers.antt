-- A system that was described has links with names, or a first fault on the way to these.
use Rattle.check_waves.specs.Capture.{IsOfSystem}
use Rattle.check_waves.specs.Fault.{of_keys}
use Rattle.check_waves.proofs.OpenLemmas.{fails-by, keys-first}
use Rattle.check_waves.proofs.system.named_links.Goals as goal

pub returns-in_err-names-clause-fault : goal.returns-in_err-names-clause-fault
returns-in_err-names-clause-fault c old new reads described =
    let fault = c.in_err-names.field-0.0 in
    fails-by c.from_residual.result (of_keys fault) (IsOfSystem old new)
    c.from_residual.ensures.1
    (keys-first old new c.args.bytes.now _ fault reads described c.in_err-names.ensures)

pub returns-clause-ok : goal.returns-clause-ok
returns-clause-ok c old new reads described = record {
  file = c.args.bytes.now;
  read = reads;
  system = _;
  described = described;
  names = _;
  named = c.in_ok-names.ensures;
  are = c.in_ok-links_of.ensures;
}
