-- The owners of masters that say only how many sources they have: each has a block. This project's own.
use Rattle.std.specs.Prelude.{◌≡◌, ◌<◌, ◌≤◌, ℕ, List, map, length, All, Some, slice_get}
use Rattle.tl_map.specs.Block.{IsBlock}
use Rattle.tl_map.specs.declared.limits.TheConstants.{MAX_BLOCK, MAX_JUDGED_MASTERS}
use Rattle.tl_map.specs.declared.owners.Owner.{Owner}

-- a master has a source, and not more than a block may have. There are 1 to 256 sources.
pub record IsFew (count : ℕ) : Type 0 where
  pub some : 0 < count
  pub few : count ≤ MAX_BLOCK

-- few enough masters, each with a source and not too many
pub record AreFew (counts : List ℕ) : Type 0 where
  pub masters : length counts ≤ MAX_JUDGED_MASTERS
  pub each : All IsFew counts

-- the owner has the first sources of the master's block, one after the other
pub record HasBlock (counts : List ℕ) (master : ℕ) (owner : Owner) : Type 0 where
  pub size : ℕ
  pub is : IsBlock counts master (record { start = owner.first; size = size })
  pub counted : slice_get counts master ≡ Some owner.count
  pub stride : owner.stride ≡ 1

-- each master of these counts has its block
pub record AreBlocks (counts : List ℕ) (owners : List Owner) : Type 0 where
  pub counted : length owners ≡ length counts
  pub each : (master : ℕ) (owner : Owner) → slice_get owners master ≡ Some owner → HasBlock counts master owner

-- how many sources each master has
abbrev pub counts_in : List Owner → List ℕ
counts_in owners = map (λ (owner : Owner). owner.count) owners

-- the owners have the blocks of few enough sources
pub record HaveBlocks (owners : List Owner) : Type 0 where
  pub few : AreFew (counts_in owners)
  pub blocks : AreBlocks (counts_in owners) owners
