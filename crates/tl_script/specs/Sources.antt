-- Which source counts are lawful, and the faults of those that are not. All of it is this project's own.
use Rattle.std.specs.Prelude.{ℕ, ◌<◌, ◌≤◌, ◌⊎◌, ⊤, List, length, All, Any}
use Rattle.tl_types.specs.Fault.{IsFirstOf}
use Rattle.tl_types.specs.List.{FailsFirstAt}
use Rattle.tl_types.specs.declared.limits.TheConstants.{MAX_MASTERS}
use Rattle.tl_script.specs.declared.sources.SourceFault.{SourceFault}
use Rattle.tl_script.specs.declared.sources.SourceFault.TheVariants.{TooMany, NoSource, Memory}
use Rattle.tl_map.specs.declared.limits.TheConstants.{MAX_BLOCK}

-- the source counts of masters: few enough masters, few enough sources of each, and each has a source. There are at most
-- 16 masters, with 1 to 256 sources each.
pub record AreLawfulCounts (counts : List ℕ) : Type 0 where
  pub masters : length counts ≤ MAX_MASTERS
  pub sources : All (λ count. count ≤ MAX_BLOCK) counts
  pub some : All (λ count. 0 < count) counts

-- the fault is one of these counts, where of the masters without a source the lowest is named; memory can be refused to
-- any
abbrev pub HasCountFault : List ℕ → SourceFault → Type 0
HasCountFault counts TooMany = (MAX_MASTERS < length counts) ⊎ Any (λ count. MAX_BLOCK < count) counts
HasCountFault counts (NoSource master) = FailsFirstAt (λ count. 0 < count) counts master
HasCountFault counts Memory = ⊤

-- the place of a fault in the order in which faults are tried
abbrev pub count_fault_rank : SourceFault → ℕ
count_fault_rank TooMany = 1
count_fault_rank (NoSource master) = 2
count_fault_rank Memory = 3

-- the fault is the first one, in that order, of these counts
abbrev pub IsFirstSourceFault : List ℕ → SourceFault → Type 0
IsFirstSourceFault counts = IsFirstOf (HasCountFault counts) count_fault_rank
