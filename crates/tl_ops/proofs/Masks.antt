-- A word with a cell replaced by a mask.
use Rattle.std.proofs.Common.{◌≡◌, ℕ, ◌+◌, ◌-◌, ◌*◌, ◌/◌, ◌%◌, ◌^◌, ◌<◌, ◌≤◌, bit_and, bit_or, ap, ◌∙◌, lit≤, arith}
use Rattle.std.proofs.Math.Nat.{pow-le-pow_right, add-mul, mul-sub, mul_comm}
use Rattle.std.proofs.lemmas.Nat.{pow-add, pow_pos, shl_whole, shr_split, mod_below, and-not, and_comm, or_block, or_shifted}
use Rattle.std.proofs.lemmas.Nat.Bits.{and_high}
use Rattle.std.specs.Int.Bits.{or_zero_r}

-- a mask of j bits from bit k on
mask_shifted : (j k : ℕ) → j + k ≤ 64 → ((2 ^ j - 1) * 2 ^ k) % 2 ^ 64 ≡ 2 ^ (j + k) - 2 ^ k
mask_shifted j k fits =
    let whole = shl_whole (2 ^ j - 1) j k 64 (omega (arith, pow_pos j)) fits in
    whole ∙ mul_comm (2 ^ j - 1) (2 ^ k) ∙ mul-sub (2 ^ k) (2 ^ j) 1
    ∙ omega (arith, mul_comm (2 ^ k) (2 ^ j), pow-add 2 j k)

-- what is left where j bits from bit k on are cleared
cleared : (word j k : ℕ) → word < 2 ^ 64 → j + k ≤ 64
    → bit_and word (2 ^ 64 - 1 - (2 ^ (j + k) - 2 ^ k)) ≡ word / 2 ^ k / 2 ^ j * 2 ^ j * 2 ^ k + word % 2 ^ k
cleared word j k within fits =
    let mask = 2 ^ (j + k) - 2 ^ k in
    let high = word / 2 ^ k in
    let most : 2 ^ (j + k) ≤ 2 ^ 64 = pow-le-pow_right (lit≤ tt) fits in
    let mask_fits : mask < 2 ^ 64 = omega (arith, pow_pos k) in
    let both = and-not 64 mask word mask_fits within in
    let taken : bit_and mask word ≡ (high % 2 ^ j) * 2 ^ k = and_comm mask word ∙ and_high word j k in
    let turned = and_comm word (2 ^ 64 - 1 - mask) in
    omega (
      arith,
      both,
      taken,
      turned,
      shr_split word k,
      ap (λ n. n * 2 ^ k) (shr_split high j),
      add-mul (high / 2 ^ j * 2 ^ j) (high % 2 ^ j) (2 ^ k),
    )

-- the word after the masks is the word with the cell replaced
pub masked : (word j k cell : ℕ) → word < 2 ^ 64 → j + k ≤ 64 → cell < 2 ^ j
    → bit_or (bit_and word (2 ^ 64 - 1 - ((2 ^ j - 1) * 2 ^ k) % 2 ^ 64)) ((cell * 2 ^ k) % 2 ^ 64) ≡
    (word / 2 ^ k / 2 ^ j * 2 ^ j + cell) * 2 ^ k + word % 2 ^ k
masked word j k cell within fits below =
    let high = word / 2 ^ k / 2 ^ j in
    let low = word % 2 ^ k in
    let low_fits : low < 2 ^ k = mod_below word (2 ^ k) (pow_pos k) in
    let shifted : (cell * 2 ^ k) % 2 ^ 64 ≡ cell * 2 ^ k + 0 = shl_whole cell j k 64 below fits ∙ omega arith in
    let blocks = or_block k (high * 2 ^ j) cell low 0 low_fits (pow_pos k) in
    let joined = or_shifted high j cell below in
    let alone : bit_or low 0 ≡ low = or_zero_r low in
    rw (mask_shifted j k fits, cleared word j k within fits, shifted)
    (blocks ∙ ap (λ n. n * 2 ^ k + bit_or low 0) joined ∙ ap (λ n. (high * 2 ^ j + cell) * 2 ^ k + n) alone)
