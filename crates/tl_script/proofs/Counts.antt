-- The owners of the blocks of lawful counts.
use Rattle.std.proofs.Common.{ℕ, ◌*◌, ◌<◌, List, arith}
use Rattle.tl_types.specs.declared.limits.TheConstants.{MAX_MASTERS}
use Rattle.tl_map.specs.declared.limits.TheConstants.{MAX_BLOCK}
use Rattle.tl_map.specs.declared.owners.Owner.{Owner}
use Rattle.tl_map.specs.Blocks.{AreBlocks, AreFew, HaveBlocks}
use Rattle.tl_map.specs.Owner.{IsWideSource}
use Rattle.tl_map.proofs.Counted.{have_blocks, wide_low}
use Rattle.tl_script.specs.Sources.{AreLawfulCounts}

few : (counts : List ℕ) → AreLawfulCounts counts → AreFew counts
few counts lawful = record {
  masters = let masters = lawful.masters in omega (arith, masters);
  each = λ k d within. record { some = lawful.some k d within; few = lawful.sources k d within };
}

pub lawful_blocks : (counts : List ℕ) (owners : List Owner) → AreLawfulCounts counts → AreBlocks counts owners
    → HaveBlocks owners
lawful_blocks counts owners lawful blocks = have_blocks counts owners (few counts lawful) blocks

-- their wide sources are below those of the most sources of the most masters
pub low : (counts : List ℕ) (owners : List Owner) → AreLawfulCounts counts → AreBlocks counts owners
    → (master source wide : ℕ) → IsWideSource owners master source wide → wide < MAX_BLOCK * MAX_MASTERS
low counts owners lawful blocks master source wide is =
    let below = wide_low owners (lawful_blocks counts owners lawful blocks) master source wide is in
    let masters = lawful.masters in
    let counted = blocks.counted in
    omega (arith, below, masters, counted)
