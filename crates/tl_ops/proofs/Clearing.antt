-- Bits that are cleared in a number are cleared in its bytes.
use Rattle.std.proofs.Common.{◌≡◌, ℕ, zero, suc, ◌-◌, ◌*◌, ◌/◌, ◌%◌, ◌^◌, ◌<◌, ◌≤◌, List, [], ◌∷◌, map, bit_and, refl, ap, ◌∙◌, lit≤, arith}
use Rattle.std.proofs.Math.Nat.{pow-le-pow_right}
use Rattle.std.proofs.lemmas.Nat.{pow-add}
use Rattle.std.specs.List.{zip}
use Rattle.tl_ops.specs.Number.{low_bytes}
use Rattle.tl_ops.specs.Window.{cleared, not_byte}
use Rattle.tl_ops.proofs.Bytes.{low_bytes-and}

-- the bytes of a number with its bits turned round are its bytes turned round
low_bytes-not : (n m x : ℕ) → n ≤ m → x < 2 ^ (8 * m) → low_bytes n (2 ^ (8 * m) - 1 - x) ≡ map not_byte (low_bytes n x)
low_bytes-not zero m x fits below = refl
low_bytes-not (suc n) zero x fits below = absurd (omega (arith, fits))
low_bytes-not (suc n) (suc m) x fits below =
    let span = 2 ^ (8 * m) in
    let wide : 2 ^ (8 * suc m) ≡ span * 256 = ap (λ k. 2 ^ k) (omega arith) ∙ pow-add 2 (8 * m) 8 in
    let low : (span * 256 - 1 - x) % 256 ≡ 255 - x % 256 = omega (arith, wide, below) in
    let high : (span * 256 - 1 - x) / 256 ≡ span - 1 - x / 256 = omega (arith, wide, below) in
    let small : x / 256 < span = omega (arith, wide, below) in
    rw (wide, low, high, low_bytes-not n m (x / 256) (omega (arith, fits)) small) refl

-- pairs with the second turned round, and pairs whose second is turned round
zip-map : (f : ℕ → ℕ) (xs ys : List ℕ) → map (λ (p : ℕ × ℕ). bit_and p.0 p.1) (zip xs (map f ys)) ≡ map
    (λ (p : ℕ × ℕ). bit_and p.0 (f p.1)) (zip xs ys)
zip-map f [] ys = refl
zip-map f (x ∷ xs) [] = refl
zip-map f (x ∷ xs) (y ∷ ys) = ap (λ bytes. bit_and x (f y) ∷ bytes) (zip-map f xs ys)

-- a word without the bits of another, byte by byte
pub low_bytes-cleared : (n old ones : ℕ) → n ≤ 8 → ones < 2 ^ (8 * n)
    → low_bytes n (bit_and old (2 ^ 64 - 1 - ones)) ≡ cleared (low_bytes n old) (low_bytes n ones)
low_bytes-cleared n old ones fits below =
    let bits : 8 * n ≤ 64 = omega (arith, fits) in
    let most : 2 ^ (8 * n) ≤ 2 ^ 64 = pow-le-pow_right (lit≤ tt) bits in
    low_bytes-and n old (2 ^ 64 - 1 - ones)
    ∙ ap (λ bytes. map (λ (p : ℕ × ℕ). bit_and p.0 p.1) (zip (low_bytes n old) bytes))
    (low_bytes-not n 8 ones fits (omega (arith, most, below)))
    ∙ zip-map not_byte (low_bytes n old) (low_bytes n ones)
