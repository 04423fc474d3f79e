-- What is given of a cell, byte by byte, the highest first; and the masked merge of it into what was there.
use Rattle.std.proofs.Common.{◌≡◌, ℕ, suc, ◌+◌, ◌*◌, ◌/◌, ◌%◌, ◌^◌, ◌<◌, List, [], ◌∷◌, length, map, Option, Some, None, bit_and, bit_or, ◌⊎◌, inl, inr, refl, ap, ◌∙◌, arith}
use Rattle.std.specs.List.{zip}
use Rattle.std.specs.Int.Bits.{or_zero_r, or_zero_l, and_zero_r}
use Rattle.std.proofs.lemmas.Nat.{and_mask, or_shifted, shl_whole, pow-add}
use Rattle.tl_types.specs.declared.operation.AskOp.{AskOp}
use Rattle.tl_types.specs.declared.operation.AskOp.TheVariants.{PutFull, PutPartial}
use Rattle.tl_ops.specs.declared.kind.Kind.{Kind}
use Rattle.tl_ops.specs.Number.{low_bytes}
use Rattle.tl_ops.specs.Window.{merged, operand_of, put_window, new_window}
use Rattle.tl_ops.specs.Cell.{keep_of}

-- a byte below the bytes that were gathered
pub byte_below : (cell byte n : ℕ) → byte < 256 → cell < 2 ^ (8 * n) → n < 8
    → (low_bytes (suc n) (bit_or (cell * 256 % 2 ^ 64) byte) ≡ byte ∷ low_bytes n cell)
    × (bit_or (cell * 256 % 2 ^ 64) byte < 2 ^ (8 * suc n))
byte_below cell byte n small fits room =
    let whole : cell * 256 % 2 ^ 64 ≡ cell * 256 = shl_whole cell (8 * n) 8 64 fits (omega arith) in
    let joined : bit_or (cell * 256 % 2 ^ 64) byte ≡ cell * 256 + byte =
    ap (λ x. bit_or x byte) whole ∙ or_shifted cell 8 byte small in
    let low : (cell * 256 + byte) % 256 ≡ byte = omega (arith, small) in
    let high : (cell * 256 + byte) / 256 ≡ cell = omega (arith, small) in
    let more : 2 ^ (8 * suc n) ≡ 2 ^ (8 * n) * 256 = ap (λ k. 2 ^ k) (omega arith) ∙ pow-add 2 (8 * n) 8 in
    (rw (joined, low, high) refl, rw (joined, more) (omega (arith, fits, small)))

-- a byte that is not given stays, and one that is given replaces the old one
pub merged_by_masks : (given : List (Option ℕ)) (old : ℕ)
    → map (λ (p : ℕ × ℕ). bit_or p.0 p.1) (zip
    (map (λ (p : ℕ × ℕ). bit_and p.0 p.1) (zip (low_bytes (length given) old) (keep_of given))) (operand_of given))
    ≡ merged (low_bytes (length given) old) given
merged_by_masks [] old = refl
merged_by_masks (None ∷ given) old =
    let kept : bit_or (bit_and (old % 256) 255) 0 ≡ old % 256 = or_zero_r _ ∙ and_mask (old % 256) 8 ∙ omega arith in
    rw (kept, merged_by_masks given (old / 256)) refl
merged_by_masks (Some byte ∷ given) old =
    let replaced : bit_or (bit_and (old % 256) 0) byte ≡ byte =
    ap (λ n. bit_or n byte) (and_zero_r (old % 256)) ∙ or_zero_l byte in
    rw (replaced, merged_by_masks given (old / 256)) refl

-- both puts put
pub new_window-put : (kind : Kind) (op : AskOp) (old : List ℕ) (given : List (Option ℕ)) → (op ≡ PutFull)
    ⊎ (op ≡ PutPartial) → new_window kind op old given ≡ put_window kind old given
new_window-put kind op old given (inl full) = rw full refl
new_window-put kind op old given (inr part) = rw part refl
