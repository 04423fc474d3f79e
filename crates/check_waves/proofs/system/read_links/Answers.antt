-- A system that was read has links, or a first fault.
use Rattle.check_waves.specs.Capture.{IsOfSystem}
use Rattle.check_waves.specs.Fault.{of_read}
use Rattle.check_waves.proofs.OpenLemmas.{fails-by, read-first}
use Rattle.check_waves.proofs.system.read_links.Goals as goal

pub returns-in_err-bytes-clause-fault : goal.returns-in_err-bytes-clause-fault
returns-in_err-bytes-clause-fault g c =
    let old = g.S.Read.remaining c.args.reader.now.reader.now in
    let new = g.S.Read.remaining c.read_up_to.new.reader.reader.now in
    let fault = c.in_err-bytes.field-0.0 in
    fails-by c.from_residual.result (of_read fault) (IsOfSystem old new) c.from_residual.ensures.1
    (read-first old new fault)

pub returns-clause-ok : goal.returns-clause-ok
returns-clause-ok g c =
    rw c.deref.ensures.value at c.links_in.ensures.ok _ _ c.in_ok-bytes.ensures.bytes

pub returns-clause-fault : goal.returns-clause-fault
returns-clause-fault g c =
    rw c.deref.ensures.value at c.links_in.ensures.fault _ _ c.in_ok-bytes.ensures.bytes
