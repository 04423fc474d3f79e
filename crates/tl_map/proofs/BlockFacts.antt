-- The blocks of masters: each has one, and they are apart.
use Rattle.std.proofs.Common.{◌≡◌, ℕ, zero, suc, ◌+◌, ◌*◌, ◌<◌, ◌≤◌, ⊎_elim, List, Option, Some, None, IsSomeAnd, slice_get, refl, sym, ap, ◌∙◌, arith}
use Rattle.std.proofs.lemmas.Bool.{cases_order, cases_lt}
use Rattle.std.proofs.lemmas.Option.{same_Some}
use Rattle.tl_map.specs.Block.{Block, IsBlockSize, IsBlockStart, HasBlockSize, IsBlock, IsInBlock}
use Rattle.tl_map.specs.Blocks.{AreBlocks}
use Rattle.tl_map.specs.Owner.{IsWideSource, Widens}
use Rattle.tl_map.specs.declared.owners.Owner.{Owner}
use Rattle.tl_map.proofs.Place.{same_at_each}

-- ---- sizes and starts are unique

size_unique : (count a b : ℕ) → IsBlockSize count a → IsBlockSize count b → a ≡ b
size_unique count a b first second =
    let up : a ≤ b = rw second.power.1 (first.least second.power.0 (rw (← second.power.1) second.enough)) in
    let down : b ≤ a = rw first.power.1 (second.least first.power.0 (rw (← first.power.1) first.enough)) in
    omega arith

start_unique : (end size a b : ℕ) → IsBlockStart end size a → IsBlockStart end size b → a ≡ b
start_unique end size a b first second =
    let up : a ≤ b = rw second.multiple.1 (first.first second.multiple.0 (rw (← second.multiple.1) second.not_below)) in
    let down : b ≤ a = rw first.multiple.1 (second.first first.multiple.0 (rw (← first.multiple.1) first.not_below)) in
    omega arith

has_size_unique : (counts : List ℕ) (master a b : ℕ) → HasBlockSize counts master a → HasBlockSize counts master b
    → a ≡ b
has_size_unique counts master a b first second = by_count (slice_get counts master) first second where
  by_count : (o : Option ℕ) → IsSomeAnd o (λ count. IsBlockSize count a) → IsSomeAnd o (λ count. IsBlockSize count b)
      → a ≡ b
  by_count None h k = absurd h
  by_count (Some count) h k = size_unique count a b h k

same_block : (a b : Block) → a.start ≡ b.start → a.size ≡ b.size → a ≡ b
same_block a b start size =
    let first : a ≡ record { start = b.start; size = a.size } =
    ap (λ (s : ℕ). let block : Block = record { start = s; size = a.size } in block) start in
    let second : record { start = b.start; size = a.size } ≡ b =
    ap (λ (z : ℕ). let block : Block = record { start = b.start; size = z } in block) size in
    first ∙ second

-- each master has one block
pub block_unique : (counts : List ℕ) (master : ℕ) (a b : Block) → IsBlock counts master a → IsBlock counts master b
    → a ≡ b
block_unique counts zero a b first second =
    let size = has_size_unique counts zero a.size b.size first.0 second.0 in
    same_block a b (start_unique 0 b.size a.start b.start (rw size at first.1) second.1) size
block_unique counts (suc master) a b first second =
    let size = has_size_unique counts (suc master) a.size b.size first.0 second.0 in
    let before = block_unique counts master first.1.0 second.1.0 first.1.1 second.1.1 in
    let starts : IsBlockStart (second.1.0.start + second.1.0.size) b.size a.start = rw (before, size) at first.1.2 in
    same_block a b (start_unique _ b.size a.start b.start starts second.1.2) size

-- the block of a later master starts at the end of an earlier one's, or above it
pub blocks_rise : (counts : List ℕ) (master other : ℕ) (a b : Block) → master < other → IsBlock counts master a
    → IsBlock counts other b → a.start + a.size ≤ b.start
blocks_rise counts master zero a b before first second = absurd (omega (arith, before))
blocks_rise counts master (suc other) a b before first second =
    let below = second.1.2.not_below in
    ⊎_elim
    (λ (earlier : master < other). let rest = blocks_rise counts master other a second.1.0 earlier first second.1.1 in
    omega arith)
    (λ (later : other ≤ master).
    let same : master ≡ other = omega arith in
    let one : IsBlock counts other a = rw same at first in
    let block = block_unique counts other a second.1.0 one second.1.1 in
    rw block below)
    (cases_lt master other)

pub in_one_block : (counts : List ℕ) (master other wide : ℕ) → IsInBlock counts master wide
    → IsInBlock counts other wide → master ≡ other
in_one_block counts master other wide first second =
    ⊎_elim (λ same. same)
    (λ order. ⊎_elim
    (λ below. let rise = blocks_rise counts master other first.block second.block below first.is second.is in
    absurd (omega arith))
    (λ above. let rise = blocks_rise counts other master second.block first.block above second.is first.is in
    absurd (omega arith))
    order)
    (cases_order master other)

-- the size of a block is that of its master's count
pub has_size : (counts : List ℕ) (master : ℕ) (block : Block) (count : ℕ) → slice_get counts master ≡ Some count
    → IsBlock counts master block → IsBlockSize count block.size
has_size counts zero block count is at = rw is at at.0
has_size counts (suc master) block count is at = rw is at at.0

-- a wide source of owners of blocks is in its master's block
pub in_block : (counts : List ℕ) (owners : List Owner) → AreBlocks counts owners → (master source wide : ℕ)
    → IsWideSource owners master source wide → IsInBlock counts master wide
in_block counts owners blocks master source wide is = go (slice_get owners master) refl is where
  go : (found : Option Owner) → slice_get owners master ≡ found → IsSomeAnd found (λ owner. Widens owner source wide)
      → IsInBlock counts master wide
  go None at none = absurd none
  go (Some owner) at widens =
      let has = blocks.each master owner at in
      let block : Block = record { start = owner.first; size = has.size } in
      let sized = has_size counts master block owner.count has.counted has.is in
      let enough : owner.count ≤ has.size = sized.enough in
      let one : owner.stride * source ≡ source = rw has.stride (omega arith) in
      let less = widens.has in
      let is = widens.at in
      record { block = block; is = has.is; from = omega arith; below = omega arith }

-- the blocks of counts have one list of owners
pub one_list : (counts : List ℕ) (owners others : List Owner) → AreBlocks counts owners → AreBlocks counts others
    → owners ≡ others
one_list counts owners others first second =
    same_at_each owners others (first.counted ∙ sym second.counted) same where
      same : (k : ℕ) (a b : Owner) → slice_get owners k ≡ Some a → slice_get others k ≡ Some b → a ≡ b
      same k a b at there =
          let one = first.each k a at in
          let other = second.each k b there in
          let block = block_unique counts k (record { start = a.first; size = one.size })
          (record { start = b.first; size = other.size }) one.is other.is in
          let start : a.first ≡ b.first = ap (λ (x : Block). x.start) block in
          let count : a.count ≡ b.count = same_Some a.count b.count (sym one.counted ∙ other.counted) in
          let stride : a.stride ≡ b.stride = one.stride ∙ sym other.stride in
          ap (λ (n : ℕ). let o : Owner = record { first = n; count = a.count; stride = a.stride } in o) start
          ∙ ap (λ (n : ℕ). let o : Owner = record { first = b.first; count = n; stride = a.stride } in o) count
          ∙ ap (λ (n : ℕ). let o : Owner = record { first = b.first; count = b.count; stride = n } in o) stride
