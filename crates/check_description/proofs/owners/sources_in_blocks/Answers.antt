-- Blocks are lawful owners, so only want of memory is left.
use Rattle.std.proofs.Common.{◌≢◌}
use Rattle.tl_map.specs.Owners.{IsFirstSourceOwnerFault}
use Rattle.tl_map.specs.declared.owners.SourceOwnerFault.TheVariants.{Memory as SourceMemory}
use Rattle.check_description.specs.Master.{IsBlockFault}
use Rattle.check_keys.specs.Reading.{source_fault}
use Rattle.check_description.specs.Description.{IsOfSources}
use Rattle.check_keys.specs.declared.fault.SystemFault.{SystemFault}
use Rattle.check_keys.specs.declared.fault.SystemFault.TheVariants.{Memory}
use Rattle.tl_map.proofs.LawfulBlocks.{blocks_lawful}
use Rattle.check_description.proofs.BlockLemmas.{error_is, no_fault}
use Rattle.check_description.proofs.owners.sources_in_blocks.Goals as goal

pub returns-in_err-new-clause-fault : goal.returns-in_err-new-clause-fault
returns-in_err-new-clause-fault c =
    let counts = c.args.counts.now in
    let owners = c.in_ok-owners.owners.items in
    let fault = c.in_err-new.field-0.0 in
    let lawful = blocks_lawful counts owners c.in_ok-owners.ensures.few c.in_ok-owners.ensures.made in
    let first : fault ≢ SourceMemory → IsFirstSourceOwnerFault owners fault =
    rw (← c.deref.ensures.value) c.in_err-new.ensures.fault in
    error_is (λ (fault : SystemFault). fault ≢ Memory → IsOfSources (IsBlockFault counts) fault) (source_fault fault)
    c.from_residual-in_err-new.result c.from_residual-in_err-new.ensures.1
    (no_fault (IsBlockFault counts) owners fault lawful first)
