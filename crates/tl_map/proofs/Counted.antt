-- What the owners of blocks are to the counts of their masters.
use Rattle.std.proofs.Common.{◌≡◌, ◌∙◌, ℕ, ◌+◌, ◌*◌, ◌<◌, ◌≤◌, List, length, Option, Some, None, IsSomeAnd, IfSome, slice_get, option_map, refl, sym, ap, arith}
use Rattle.std.proofs.lemmas.List.{length-map}
use Rattle.std.proofs.lemmas.Option.{slice_get-map, same_Some}
use Rattle.tl_map.specs.declared.owners.Owner.{Owner}
use Rattle.tl_map.specs.declared.limits.TheConstants.{MAX_BLOCK}
use Rattle.tl_map.specs.Blocks.{AreBlocks, AreFew, HaveBlocks, IsFew, counts_in}
use Rattle.tl_map.specs.Owner.{IsWideSource, Widens}
use Rattle.tl_map.proofs.BlockFacts.{in_block}
use Rattle.tl_map.proofs.LawfulBlocks.{ends_low}
use Rattle.tl_map.proofs.Marking.{of_owner, there}
use Rattle.tl_map.proofs.Place.{of_all, same_at_each}

-- the count of an owner that is there, and of one that is not
pub count_at : (owners : List Owner) (master : ℕ) (found : Option Owner) → slice_get owners master ≡ found
    → slice_get (counts_in owners) master ≡ option_map (λ (owner : Owner). owner.count) found
count_at owners master found is =
    slice_get-map (λ (owner : Owner). owner.count) owners master
    ∙ ap (option_map (λ (owner : Owner). owner.count)) is

-- the counts of the owners of blocks are those of the blocks
pub counts_are : (counts : List ℕ) (owners : List Owner) → AreBlocks counts owners → counts_in owners ≡ counts
counts_are counts owners blocks =
    same_at_each (counts_in owners) counts (length-map owners (λ (owner : Owner). owner.count) ∙ blocks.counted)
    (λ k a b first second. go k a b (slice_get owners k) refl first second) where
      go : (k a b : ℕ) (found : Option Owner) → slice_get owners k ≡ found → slice_get (counts_in owners) k ≡ Some a
          → slice_get counts k ≡ Some b → a ≡ b
      go k a b None is first second = let none = count_at owners k None is in absurd (cc)
      go k a b (Some owner) is first second =
          same_Some a owner.count (sym first ∙ count_at owners k (Some owner) is)
          ∙ same_Some owner.count b (sym (blocks.each k owner is).counted ∙ second)

-- a source that has a wide source is below the count
pub below_count : (owners : List Owner) (master source wide : ℕ) → IsWideSource owners master source wide
    → IsSomeAnd (slice_get (counts_in owners) master) (λ count. source < count)
below_count owners master source wide is = go (slice_get owners master) refl is where
  go : (found : Option Owner) → slice_get owners master ≡ found → IsSomeAnd found (λ owner. Widens owner source wide)
      → IsSomeAnd (slice_get (counts_in owners) master) (λ count. source < count)
  go None at none = absurd none
  go (Some owner) at widens =
      let counted : slice_get (counts_in owners) master ≡ Some owner.count = count_at owners master (Some owner) at in
      rw counted widens.has

-- the owners of blocks of few counts
pub have_blocks : (counts : List ℕ) (owners : List Owner) → AreFew counts → AreBlocks counts owners → HaveBlocks owners
have_blocks counts owners few blocks =
    let same : counts_in owners ≡ counts = counts_are counts owners blocks in
    record { few = rw same few; blocks = rw same blocks }

module _ (owners : List Owner) (have : HaveBlocks owners) where
  -- a source below the count has a wide source
  pub has_wide : (master source : ℕ) → IsSomeAnd (slice_get (counts_in owners) master) (λ count. source < count)
      → (wide : ℕ) × IsWideSource owners master source wide
  has_wide master source has = go (slice_get owners master) refl where
    go : (found : Option Owner) → slice_get owners master ≡ found → (wide : ℕ) × IsWideSource owners master source wide
    go None is = let none : slice_get (counts_in owners) master ≡ None = count_at owners master None is in
        absurd (rw none at has)
    go (Some owner) is =
        let counted : slice_get (counts_in owners) master ≡ Some owner.count = count_at owners master (Some owner) is in
        let less : IsSomeAnd (Some owner.count) (λ count. source < count) = rw counted at has in
        let wide = owner.first + owner.stride * source in
        (wide, of_owner owners master source wide owner is (record { has = less; at = refl }))

  -- a wide source is below that of the most sources of so many masters
  pub wide_low : (master source wide : ℕ) → IsWideSource owners master source wide
      → wide < MAX_BLOCK * length owners
  wide_low master source wide is =
      let inside = in_block (counts_in owners) owners have.blocks master source wide is in
      let counted = have.blocks.counted in
      let here = there owners master source wide is in
      let within : master < length (counts_in owners) = omega (arith, here, counted) in
      let end = ends_low (counts_in owners) master inside.block have.few.each within inside.is in
      let below = inside.below in
      omega (arith, end, below, here)

  -- a master has not more sources than a block may have
  pub count_low : (master : ℕ) → IfSome (slice_get (counts_in owners) master) (λ count. count ≤ MAX_BLOCK)
  count_low master = go (slice_get (counts_in owners) master) refl where
    go : (found : Option ℕ) → slice_get (counts_in owners) master ≡ found → IfSome found (λ count. count ≤ MAX_BLOCK)
    go None is = tt
    go (Some count) is = (of_all IsFew (counts_in owners) master count is have.few.each).few

  -- the sources of a master have wide sources one after the other
  pub in_a_row : (master : ℕ) (owner : Owner) → slice_get owners master ≡ Some owner → (source : ℕ)
      → source < owner.count → IsWideSource owners master source (owner.first + source)
  in_a_row master owner is source less =
      let one : owner.stride ≡ 1 = (have.blocks.each master owner is).stride in
      of_owner owners master source (owner.first + source) owner is
      (record { has = less; at = rw one (omega arith) })
