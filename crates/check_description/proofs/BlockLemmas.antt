-- The sources of blocks have no fault but want of memory.
use Rattle.std.proofs.Common.{◌≡◌, ◌<◌, List, length, All, Result, Ok, Err, IfErr, IsErrAnd, ◌≢◌, ⊎_elim, refl, arith}
use Rattle.tl_map.specs.Owners.{AreLawfulOwners, IsFirstSourceOwnerFault, IsLawfulOwner}
use Rattle.tl_map.specs.declared.limits.TheConstants.{MAX_JUDGED_MASTERS}
use Rattle.tl_map.specs.declared.owners.Owner.{Owner}
use Rattle.tl_map.specs.declared.owners.SourceOwnerFault.{SourceOwnerFault}
use Rattle.tl_map.specs.declared.owners.SourceOwnerFault.TheVariants.{TooMany, Shared, Memory as SourceMemory}
use Rattle.check_keys.specs.Reading.{source_fault}
use Rattle.check_description.specs.Description.{IsOfSources}
use Rattle.check_keys.specs.declared.fault.SystemFault.{SystemFault}
use Rattle.check_keys.specs.declared.fault.SystemFault.TheVariants.{Memory}

-- the fault that the sources of lawful owners have is want of memory
pub no_fault : (P : SourceOwnerFault → Type 0) (owners : List Owner) (fault : SourceOwnerFault) → AreLawfulOwners owners
    → (fault ≢ SourceMemory → IsFirstSourceOwnerFault owners fault) → source_fault fault ≢ Memory
    → IsOfSources P (source_fault fault)
no_fault P owners SourceMemory lawful first other = absurd (other refl)
no_fault P owners (Shared one other wide) lawful first more =
    let fault = first (λ e. absurd cc) in
    let here = fault.applies.here in
    let below = here.before in
    let same : one ≡ other = lawful.apart one other wide (record { of_one = here.is; of_other = (here.source, here.at) }) in
    absurd (omega (arith, below, same))
no_fault P owners TooMany lawful first other =
    let fault = first (λ e. absurd cc) in
    absurd (⊎_elim (λ (many : MAX_JUDGED_MASTERS < length owners). omega (arith, many, lawful.masters))
    (λ (unlawful : All IsLawfulOwner owners → ⊥). unlawful lawful.each) fault.applies)

-- what holds of a fault holds of the error that is that fault
pub error_is : {A : Type 0} (P : SystemFault → Type 0) (fault : SystemFault) (result : Result A SystemFault)
    → IsErrAnd result (λ e. e ≡ fault) → P fault → IfErr result P
error_is P fault (Ok x) is holds = tt
error_is P fault (Err e) is holds = rw is holds
