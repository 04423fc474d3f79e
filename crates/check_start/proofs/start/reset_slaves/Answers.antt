-- Where the slaves of the ports' links have a fault, those of the links that are judged together have it too.
use Rattle.std.proofs.Common.{◌≡◌, ◌≢◌, Err, map}
use Rattle.check_keys.specs.declared.fault.SystemFault.{SystemFault}
use Rattle.check_keys.specs.declared.fault.SystemFault.TheVariants.{Memory}
use Rattle.check_description.proofs.BlockLemmas.{error_is}
use Rattle.check_description.specs.Port.{port_view}
use Rattle.check_start.specs.Slaves.{shared_side, shared_slaves}
use Rattle.check_start.specs.declared.slaves.SlaveSide.TheVariants.{Ports}
use Rattle.check_start.proofs.Faults.{same_fault}
use Rattle.check_start.proofs.start.reset_slaves.Goals as goal

pub returns-in_err-own-clause-fault : goal.returns-in_err-own-clause-fault
returns-in_err-own-clause-fault c =
    let images = map (λ image. image.items) c.args.images.now in
    let ports = map port_view c.args.ports.now in
    let fault = c.in_err-own.field-0.0 in
    error_is (λ (fault : SystemFault). fault ≢ Memory → shared_slaves c.args.corrupt c.args.terms images ports ≡ Err fault) fault
    c.from_residual-in_err-own.result c.from_residual-in_err-own.ensures.1
    (λ real. same_fault c.args.corrupt Ports (shared_side c.args.terms.links) c.args.terms.orders images ports fault
    (c.in_err-own.ensures.fault real))
