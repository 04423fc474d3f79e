-- The lanes that keep their byte, from a table for half a word.
use Rattle.std.proofs.Common.{◌≡◌, ℕ, List, lit≤, zero, suc, ◌+◌, ◌*◌, ◌/◌, ◌%◌, ◌^◌, ◌<◌, ◌∷◌, [], ◌++◌, bit_or, slice_index, refl, ap, ◌∙◌, arith}
use Rattle.std.proofs.lemmas.Nat.{or_shifted, shl_whole, shr_high}
use Rattle.std.specs.Int.{bit_at}
use Rattle.tl_ops.specs.Number.{low_bytes}
use Rattle.tl_ops.specs.Cell.{keep_bit}
use Rattle.tl_ops.specs.declared.cell.TheConstants.{KEPT}
use Rattle.tl_ops.proofs.Bytes.{low_bytes-above, low_bytes-add}

-- what a half says of its four lanes
half : (mask : ℕ) → mask < 16 → low_bytes 4 (slice_index KEPT mask) ≡ keep_bit (bit_at mask 0)
    ∷ keep_bit (bit_at mask 1) ∷ keep_bit (bit_at mask 2) ∷ keep_bit (bit_at mask 3) ∷ []
half zero within = refl
half (suc zero) within = refl
half (suc (suc zero)) within = refl
half (suc (suc (suc zero))) within = refl
half (suc (suc (suc (suc zero)))) within = refl
half (suc (suc (suc (suc (suc zero))))) within = refl
half (suc (suc (suc (suc (suc (suc zero)))))) within = refl
half (suc (suc (suc (suc (suc (suc (suc zero))))))) within = refl
half (suc (suc (suc (suc (suc (suc (suc (suc zero)))))))) within = refl
half (suc (suc (suc (suc (suc (suc (suc (suc (suc zero))))))))) within = refl
half (suc (suc (suc (suc (suc (suc (suc (suc (suc (suc zero)))))))))) within = refl
half (suc (suc (suc (suc (suc (suc (suc (suc (suc (suc (suc zero))))))))))) within = refl
half (suc (suc (suc (suc (suc (suc (suc (suc (suc (suc (suc (suc zero)))))))))))) within = refl
half (suc (suc (suc (suc (suc (suc (suc (suc (suc (suc (suc (suc (suc zero))))))))))))) within = refl
half (suc (suc (suc (suc (suc (suc (suc (suc (suc (suc (suc (suc (suc (suc zero)))))))))))))) within = refl
half (suc (suc (suc (suc (suc (suc (suc (suc (suc (suc (suc (suc (suc (suc (suc zero))))))))))))))) within = refl
half (suc (suc (suc (suc (suc (suc (suc (suc (suc (suc (suc (suc (suc (suc (suc (suc m)))))))))))))))) within =
    absurd (omega (arith, within))

small : (mask : ℕ) → mask < 16 → slice_index KEPT mask < 2 ^ 32
small zero within = lit≤ tt
small (suc zero) within = lit≤ tt
small (suc (suc zero)) within = lit≤ tt
small (suc (suc (suc zero))) within = lit≤ tt
small (suc (suc (suc (suc zero)))) within = lit≤ tt
small (suc (suc (suc (suc (suc zero))))) within = lit≤ tt
small (suc (suc (suc (suc (suc (suc zero)))))) within = lit≤ tt
small (suc (suc (suc (suc (suc (suc (suc zero))))))) within = lit≤ tt
small (suc (suc (suc (suc (suc (suc (suc (suc zero)))))))) within = lit≤ tt
small (suc (suc (suc (suc (suc (suc (suc (suc (suc zero))))))))) within = lit≤ tt
small (suc (suc (suc (suc (suc (suc (suc (suc (suc (suc zero)))))))))) within = lit≤ tt
small (suc (suc (suc (suc (suc (suc (suc (suc (suc (suc (suc zero))))))))))) within = lit≤ tt
small (suc (suc (suc (suc (suc (suc (suc (suc (suc (suc (suc (suc zero)))))))))))) within = lit≤ tt
small (suc (suc (suc (suc (suc (suc (suc (suc (suc (suc (suc (suc (suc zero))))))))))))) within = lit≤ tt
small (suc (suc (suc (suc (suc (suc (suc (suc (suc (suc (suc (suc (suc (suc zero)))))))))))))) within = lit≤ tt
small (suc (suc (suc (suc (suc (suc (suc (suc (suc (suc (suc (suc (suc (suc (suc zero))))))))))))))) within = lit≤ tt
small (suc (suc (suc (suc (suc (suc (suc (suc (suc (suc (suc (suc (suc (suc (suc (suc m)))))))))))))))) within =
    absurd (omega (arith, within))

-- both halves
both : (low high : ℕ) → low < 2 ^ 32 → high < 2 ^ 32
    → low_bytes 8 (bit_or (high * 2 ^ 32 % 2 ^ 64) low) ≡ low_bytes 4 low ++ low_bytes 4 high
both low high small fits =
    let joined : bit_or (high * 2 ^ 32 % 2 ^ 64) low ≡ high * 2 ^ 32 + low =
    ap (λ x. bit_or x low) (shl_whole high 32 32 64 fits (omega arith)) ∙ or_shifted high 32 low small in
    let above : (high * 2 ^ 32 + low) / 2 ^ 32 ≡ high = shr_high high 32 low small in
    ap (low_bytes 8) joined ∙ low_bytes-add 4 4 (high * 2 ^ 32 + low)
    ∙ ap (λ bytes. bytes ++ low_bytes 4 ((high * 2 ^ 32 + low) / 2 ^ 32)) (low_bytes-above 4 low high small)
    ∙ ap (λ x. low_bytes 4 low ++ low_bytes 4 x) above

-- what the mask of a half keeps of its four lanes
abbrev four : ℕ → List ℕ
four mask = keep_bit (bit_at mask 0) ∷ keep_bit (bit_at mask 1) ∷ keep_bit (bit_at mask 2) ∷ keep_bit (bit_at mask 3)
    ∷ []

pub lanes : (mask low high : ℕ) → mask < 256 → low ≡ slice_index KEPT (mask % 16) → high ≡ slice_index KEPT (mask / 16)
    → (lane : ℕ) → lane < 8 → slice_index (low_bytes 8 (bit_or (high * 2 ^ 32 % 2 ^ 64) low)) lane ≡ keep_bit
    (bit_at mask lane)
lanes mask low high within low_is high_is lane in_word =
    let front : low_bytes 4 low ≡ four (mask % 16) = ap (low_bytes 4) low_is ∙ half (mask % 16) (omega arith) in
    let back : low_bytes 4 high ≡ four (mask / 16) =
    ap (low_bytes 4) high_is ∙ half (mask / 16) (omega (arith, within)) in
    let bytes = both low high (rw low_is (small (mask % 16) (omega arith)))
    (rw high_is (small (mask / 16) (omega (arith, within)))) in
    ap (λ bs. slice_index bs lane) (bytes ∙ ap (λ bs. bs ++ low_bytes 4 high) front
    ∙ ap (λ bs. four (mask % 16) ++ bs) back) ∙ at lane in_word
  where
    at : (lane : ℕ) → lane < 8 → slice_index (four (mask % 16) ++ four (mask / 16)) lane ≡ keep_bit (bit_at mask lane)
    at zero h = ap keep_bit (omega arith)
    at (suc zero) h = ap keep_bit (omega arith)
    at (suc (suc zero)) h = ap keep_bit (omega arith)
    at (suc (suc (suc zero))) h = ap keep_bit (omega arith)
    at (suc (suc (suc (suc zero)))) h = ap keep_bit (omega arith)
    at (suc (suc (suc (suc (suc zero))))) h = ap keep_bit (omega arith)
    at (suc (suc (suc (suc (suc (suc zero)))))) h = ap keep_bit (omega arith)
    at (suc (suc (suc (suc (suc (suc (suc zero))))))) h = ap keep_bit (omega arith)
    at (suc (suc (suc (suc (suc (suc (suc (suc lane)))))))) h = absurd (omega (arith, h))
