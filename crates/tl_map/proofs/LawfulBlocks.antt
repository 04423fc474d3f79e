-- Blocks of sources are lawful owners.
use Rattle.std.proofs.Common.{◌≡◌, ℕ, zero, suc, ◌+◌, ◌*◌, ◌-◌, ◌<◌, ◌≤◌, List, length, get_or, Some, slice_get, All, arith}
use Rattle.std.proofs.lemmas.Option.{get_or_from_slice_get, slice_get-get_or, slice_get_within}
use Rattle.tl_map.specs.Block.{Block, IsBlock}
use Rattle.tl_map.specs.Blocks.{AreBlocks, AreFew, IsFew}
use Rattle.tl_map.specs.Owners.{AreLawfulOwners, IsLawfulOwner}
use Rattle.tl_map.specs.declared.owners.Owner.{Owner}
use Rattle.tl_map.proofs.BlockFacts.{has_size, in_block, in_one_block}
use Rattle.tl_map.proofs.Placing.{size_low, start_low}

-- the count of a master is few
few_at : (counts : List ℕ) (master count : ℕ) → All IsFew counts → slice_get counts master ≡ Some count → IsFew count
few_at counts master count few at =
    rw (← get_or_from_slice_get counts master count 0 at) (few master 0 (slice_get_within counts master count at))

-- the size of a master's block is at most 256
sized_low : (counts : List ℕ) (master : ℕ) (block : Block) (count : ℕ) → All IsFew counts
    → slice_get counts master ≡ Some count → IsBlock counts master block → block.size ≤ 256
sized_low counts master block count few at is =
    size_low count block.size (has_size counts master block count at is) (few_at counts master count few at).few

-- the count that stands at a place
record HasCount (counts : List ℕ) (master : ℕ) : Type 0 where
  pub count : ℕ
  pub at : slice_get counts master ≡ Some count

counted_at : (counts : List ℕ) (master : ℕ) → master < length counts → HasCount counts master
counted_at counts master within =
    record { count = get_or counts master 0; at = slice_get-get_or counts master 0 within }

-- a block ends where blocks of 256 sources would, or below
pub ends_low : (counts : List ℕ) (master : ℕ) (block : Block) → All IsFew counts → master < length counts
    → IsBlock counts master block → block.start + block.size ≤ 256 * (master + 1)
ends_low counts zero block few within is =
    let here = counted_at counts zero within in
    let size = sized_low counts zero block here.count few here.at is in
    let sized = has_size counts zero block here.count here.at is in
    let start = start_low 0 block.size block.start 0 sized.power size (omega arith) is.1 in
    omega (arith, size, start)
ends_low counts (suc master) block few within is =
    let here = counted_at counts (suc master) within in
    let size = sized_low counts (suc master) block here.count few here.at is in
    let sized = has_size counts (suc master) block here.count here.at is in
    let before = is.1.0 in
    let end : before.start + before.size ≤ 256 * (master + 1) =
    ends_low counts master before few (omega (arith, within)) is.1.1 in
    let start = start_low (before.start + before.size) block.size block.start (master + 1) sized.power size end is.1.2 in
    omega (arith, size, start)

lawful_one : (counts : List ℕ) (owners : List Owner) (master : ℕ) (owner : Owner) → AreFew counts
    → AreBlocks counts owners → slice_get owners master ≡ Some owner → IsLawfulOwner owner
lawful_one counts owners master owner few blocks at =
    let has = blocks.each master owner at in
    let count = few_at counts master owner.count few.each has.counted in
    let within = slice_get_within counts master owner.count has.counted in
    let sized = has_size counts master (record { start = owner.first; size = has.size }) owner.count has.counted has.is in
    let enough : owner.count ≤ has.size = sized.enough in
    let end : owner.first + has.size ≤ 256 * (master + 1) =
    ends_low counts master (record { start = owner.first; size = has.size }) few.each within has.is in
    let masters = few.masters in
    let some = count.some in
    let most = count.few in
    let times : owner.stride * (owner.count - 1) ≡ owner.count - 1 = rw has.stride (omega arith) in
    record {
      some = some;
      few = omega (arith, most);
      apart = rw has.stride (omega arith);
      in_range = omega (arith, times, end, enough, within, masters, some);
    }

-- blocks of few enough sources are lawful owners
pub blocks_lawful : (counts : List ℕ) (owners : List Owner) → AreFew counts → AreBlocks counts owners
    → AreLawfulOwners owners
blocks_lawful counts owners few blocks = record {
  masters = omega (arith, blocks.counted, few.masters);
  each = λ master d within. lawful_one counts owners master (get_or owners master d) few blocks
      (slice_get-get_or owners master d within);
  apart = λ one other wide shared. in_one_block counts one other wide
      (in_block counts owners blocks one shared.of_one.0 wide shared.of_one.1)
      (in_block counts owners blocks other shared.of_other.0 wide shared.of_other.1);
}
