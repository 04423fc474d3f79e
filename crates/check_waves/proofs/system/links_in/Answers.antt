-- A system that was read has links, or a first fault.
use Rattle.std.proofs.Common.{inl, inr}
use Rattle.check_waves.specs.Capture.{IsOfSystem}
use Rattle.check_waves.specs.Fault.{of_system}
use Rattle.check_waves.proofs.OpenLemmas.{fails-by, system-first}
use Rattle.check_waves.proofs.system.links_in.Goals as goal

pub returns-in_err-parts-clause-fault : goal.returns-in_err-parts-clause-fault
returns-in_err-parts-clause-fault c old new reads =
    let fault = c.in_err-parts.field-0.0 in
    fails-by c.from_residual.result (of_system fault) (IsOfSystem old new)
    c.from_residual.ensures.1
    (system-first old new c.args.bytes.now fault reads (λ not_memory. inl (c.in_err-parts.ensures.fault not_memory)))

pub returns-in_err-system-clause-fault : goal.returns-in_err-system-clause-fault
returns-in_err-system-clause-fault c old new reads =
    let fault = c.in_err-system.field-0.0 in
    fails-by c.from_residual-in_err-system.result (of_system fault) (IsOfSystem old new)
    c.from_residual-in_err-system.ensures.1
    (system-first old new c.args.bytes.now fault reads
    (λ not_memory. inr (
      _,
      c.in_ok-parts.ensures.named,
      c.in_err-system.ensures.fault not_memory,
    )))

pub returns-clause-ok : goal.returns-clause-ok
returns-clause-ok c old new reads =
    c.named_links.ensures.ok old new reads (record {
      parts = _;
      named = c.in_ok-parts.ensures.named;
      made = c.in_ok-system.ensures.made;
    })

pub returns-clause-fault : goal.returns-clause-fault
returns-clause-fault c old new reads =
    c.named_links.ensures.fault old new reads (record {
      parts = _;
      named = c.in_ok-parts.ensures.named;
      made = c.in_ok-system.ensures.made;
    })
