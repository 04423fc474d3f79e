-- The lowest bytes of a number.
use Rattle.std.proofs.Common.{◌≡◌, ℕ, zero, suc, ◌+◌, ◌-◌, ◌*◌, ◌/◌, ◌%◌, ◌^◌, ◌<◌, ◌≤◌, ◌∷◌, ◌++◌, length, refl, sym, ap, ◌∙◌, arith}
use Rattle.std.proofs.Math.Nat.{div-one}
use Rattle.std.proofs.Math.Pow.{mod-mod-pow}
use Rattle.std.proofs.lemmas.Nat.{shr-shr, field_of, mod_low, shr_below, and_mod, and_shr, or_mod, or_shr, xor_mod, xor_shr}
use Rattle.std.proofs.lemmas.Slice.Zip.{seconds-zip}
use Rattle.std.specs.Prelude.{bit_and, bit_or, bit_xor, map}
use Rattle.std.specs.List.{zip}
use Rattle.tl_ops.specs.Number.{number, low_bytes}

pub length-low_bytes : (n x : ℕ) → length (low_bytes n x) ≡ n
length-low_bytes zero x = refl
length-low_bytes (suc n) x = ap suc (length-low_bytes n (x / 256))

-- 8 bits more, below: as exponents and as numbers
eight_more : (x n : ℕ) → x / 256 / 2 ^ (8 * n) ≡ x / 2 ^ (8 * suc n)
eight_more x n = shr-shr x 8 (8 * n) ∙ ap (λ k. x / 2 ^ k) (omega arith)

-- the lowest bytes and those after them
pub low_bytes-add : (a b x : ℕ) → low_bytes (a + b) x ≡ low_bytes a x ++ low_bytes b (x / 2 ^ (8 * a))
low_bytes-add zero b x =
    let e : 0 + b ≡ b = omega arith in
    ap (λ n. low_bytes n x) e ∙ ap (low_bytes b) (sym (div-one x))
low_bytes-add (suc a) b x =
    let e : suc a + b ≡ suc (a + b) = omega arith in
    rw (e, ← eight_more x a) (ap (λ bs. x % 256 ∷ bs) (low_bytes-add a b (x / 256)))

-- what lies above does not matter
pub low_bytes-mod : (n x : ℕ) → low_bytes n (x % 2 ^ (8 * n)) ≡ low_bytes n x
low_bytes-mod zero x = refl
low_bytes-mod (suc n) x =
    let e : 8 * suc n ≡ 8 * n + 8 = omega arith in
    let low : x % 2 ^ (8 * suc n) % 256 ≡ x % 256 = ap (λ k. x % 2 ^ k % 256) e ∙ mod-mod-pow x (8 * n) 8 in
    let high : x % 2 ^ (8 * suc n) / 256 ≡ x / 256 % 2 ^ (8 * n) = ap (λ k. x % 2 ^ k / 256) e ∙ field_of x (8 * n) 8 in
    rw (low, high) (ap (λ bs. x % 256 ∷ bs) (low_bytes-mod n (x / 256)))

pub low_bytes-above : (n x above : ℕ) → x < 2 ^ (8 * n) → low_bytes n (above * 2 ^ (8 * n) + x) ≡ low_bytes n x
low_bytes-above n x above below = sym (low_bytes-mod n _) ∙ ap (low_bytes n) (mod_low above (8 * n) x below)

-- a number below is its bytes
pub number-low_bytes : (n x : ℕ) → x < 2 ^ (8 * n) → number (low_bytes n x) ≡ x
number-low_bytes zero x below = omega (arith, below)
number-low_bytes (suc n) x below =
    let e : 8 * suc n ≡ 8 * n + 8 = omega arith in
    let within : x < 2 ^ (8 * n + 8) = rw (← e) below in
    omega (arith, number-low_bytes n (x / 256) (shr_below x (8 * n) 8 within))

-- bit by bit is byte by byte
pub low_bytes-and : (n x y : ℕ) → low_bytes n (bit_and x y) ≡ map (λ (p : ℕ × ℕ). bit_and p.0 p.1)
    (zip (low_bytes n x) (low_bytes n y))
low_bytes-and zero x y = refl
low_bytes-and (suc n) x y =
    rw (and_shr x y 8, and_mod x y 8) (ap (λ bs. bit_and (x % 256) (y % 256) ∷ bs)
    (low_bytes-and n (x / 256) (y / 256)))

pub low_bytes-or : (n x y : ℕ) → low_bytes n (bit_or x y) ≡ map (λ (p : ℕ × ℕ). bit_or p.0 p.1)
    (zip (low_bytes n x) (low_bytes n y))
low_bytes-or zero x y = refl
low_bytes-or (suc n) x y =
    rw (or_shr x y 8, or_mod x y 8) (ap (λ bs. bit_or (x % 256) (y % 256) ∷ bs) (low_bytes-or n (x / 256) (y / 256)))

pub low_bytes-xor : (n x y : ℕ) → low_bytes n (bit_xor x y) ≡ map (λ (p : ℕ × ℕ). bit_xor p.0 p.1)
    (zip (low_bytes n x) (low_bytes n y))
low_bytes-xor zero x y = refl
low_bytes-xor (suc n) x y =
    rw (xor_shr x y 8, xor_mod x y 8) (ap (λ bs. bit_xor (x % 256) (y % 256) ∷ bs)
    (low_bytes-xor n (x / 256) (y / 256)))

pub seconds_of_low_bytes : (n x y : ℕ) → map (λ (p : ℕ × ℕ). p.1) (zip (low_bytes n x) (low_bytes n y)) ≡ low_bytes n y
seconds_of_low_bytes n x y =
    seconds-zip (low_bytes n x) (low_bytes n y) (length-low_bytes n y ∙ sym (length-low_bytes n x))

-- the bytes of a sum that wrapped at a word
pub low_bytes-mod_word : (n x : ℕ) → n ≤ 8 → low_bytes n (x % 2 ^ 64) ≡ low_bytes n x
low_bytes-mod_word n x fits =
    let e : 64 ≡ (64 - 8 * n) + 8 * n = omega arith in
    let low : x % 2 ^ 64 % 2 ^ (8 * n) ≡ x % 2 ^ (8 * n) =
    ap (λ k. x % 2 ^ k % 2 ^ (8 * n)) e ∙ mod-mod-pow x (64 - 8 * n) (8 * n) in
    sym (low_bytes-mod n (x % 2 ^ 64)) ∙ ap (low_bytes n) low ∙ low_bytes-mod n x
