-- Blocks, one after the other.
use Rattle.std.proofs.Common.{◌≡◌, ◌∙◌, ℕ, ◌+◌, ◌*◌, ◌<◌, ◌≤◌, ⊎_elim, List, [], ◌∷◌, ◌++◌, length, get_or, Some, slice_get, length-append, refl, sym, ap, arith, add-one}
use Rattle.std.proofs.lemmas.Option.{slice_get-get_or}
use Rattle.tl_types.proofs.Lists.{slice_get-push}
use Rattle.tl_map.specs.Block.{IsBlock, IsBlockSize, IsBlockStart}
use Rattle.tl_map.proofs.Placing.{IsEnd, block_next, start_low}
use Rattle.tl_map.specs.Blocks.{AreBlocks, HasBlock}
use Rattle.tl_map.specs.declared.owners.Owner.{Owner}

-- the blocks of the masters so far, which end where blocks of 256 sources would, or below
pub record ArePlacedSoFar (counts : List ℕ) (place end : ℕ) (owners : List Owner) : Type 0 where
  pub counted : length owners ≡ place
  pub each : (master : ℕ) (owner : Owner) → slice_get owners master ≡ Some owner → HasBlock counts master owner
  pub ends : IsEnd counts place end
  pub below : end ≤ 256 * place

pub placed_more : (counts : List ℕ) (place end count size start : ℕ) (owners : List Owner) → place < length counts
    → count ≡ get_or counts place count → size ≤ 256
    → ArePlacedSoFar counts place end owners → IsBlockSize count size → IsBlockStart end size start
    → ArePlacedSoFar counts (place + 1) (start + size)
    (owners ++ record { first = start; count = count; stride = 1 } ∷ [])
placed_more counts place end count size start owners within is few so_far sized starts =
    let here : slice_get counts place ≡ Some count = slice_get-get_or counts place count within ∙ ap Some (sym is) in
    let low = start_low end size start place sized.power few so_far.below starts in
    let block = block_next counts place end count size start so_far.ends here sized starts in
    let owner : Owner = record { first = start; count = count; stride = 1 } in
    record {
      counted = length-append owners (owner ∷ []) ∙ ap (λ (n : ℕ). n + 1) so_far.counted;
      each = λ master found at. ⊎_elim (λ before. so_far.each master found before)
          (λ last. last_one master found owner here block last.0 last.1 refl)
          (slice_get-push owners owner found master at);
      ends = rw add-one (record { start = start; size = size }, block, refl);
      below = omega (arith, low, few);
    } where
      last_one : (master : ℕ) (found owner : Owner) → slice_get counts place ≡ Some count
          → IsBlock counts place (record { start = start; size = size })
          → master ≡ length owners → owner ≡ found → owner ≡ record { first = start; count = count; stride = 1 }
          → HasBlock counts master found
      last_one master found owner here at last same own =
          let there : place ≡ master = sym (last ∙ so_far.counted) in
          let whole : HasBlock counts place (record { first = start; count = count; stride = 1 }) =
          record { size = size; is = at; counted = here; stride = refl } in
          rw (← same, own) (rw there at whole)

-- all blocks
pub placed_all : (counts : List ℕ) (place end : ℕ) (owners : List Owner) → place ≡ length counts
    → ArePlacedSoFar counts place end owners → AreBlocks counts owners
placed_all counts place end owners all so_far = record { counted = so_far.counted ∙ all; each = so_far.each }
