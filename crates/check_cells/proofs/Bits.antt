-- The bits of masks, a bit for each byte of a word.
use Rattle.std.proofs.Common.{◌≡◌, ◌∙◌, ◌⊎◌, inl, inr, ⊎_elim, ℕ, zero, suc, ◌+◌, ◌-◌, ◌*◌, ◌/◌, ◌%◌, ◌^◌, ◌<◌, ◌≤◌, min, max, List, length, set, slice_index, Option, Some, None, bit_and, bit_or, w8, sym, ap, arith, lit≤}
use Rattle.std.specs.Int.{bit_at, bit_not}
use Rattle.std.proofs.Math.Nat.{div-div-eq-div-mul, pow-le-pow_right}
use Rattle.std.proofs.lemmas.Nat.{pow-add, pow_pos}
use Rattle.std.proofs.lemmas.Bool.{cases_eq}
use Rattle.std.proofs.lemmas.Nat.Bits.{bit_at-lt, bit_at-zero, bit_at_and, bit_at_or, bit_at_ones, bit_at_not, bit_at_cat_low, bit_at_cat_high, bit_at_mask_inside, bit_at_mask_below, bit_at_mask_above}
use Rattle.tl_types.specs.Bytes.{bit_in, mask_bit}
use Rattle.tl_types.proofs.Given.{bit_in-set_here, bit_in-set_there, bit_in-word}
use Rattle.check_cells.specs.Bit.{given_bit}

-- ---- one word

pub bit_at-shr : (n s k : ℕ) → bit_at (n / 2 ^ s) k ≡ bit_at n (s + k)
bit_at-shr n s k = ap (λ x. x % 2) (div-div-eq-div-mul n (2 ^ s) (2 ^ k) ∙ ap (λ p. n / p) (sym (pow-add 2 s k)))

-- a bit by its place among all
pub bit_in_word : (masks : List ℕ) (start k : ℕ) → start % 8 + k < 8
    → bit_in masks (start + k) ≡ bit_at (slice_index masks (start / 8)) (start % 8 + k)
bit_in_word masks start k in_word =
    let e : start + k ≡ 8 * (start / 8) + (start % 8 + k) = omega (arith, in_word) in
    ap (bit_in masks) e ∙ bit_in-word masks (start / 8) (start % 8 + k) in_word

min_one : (b : ℕ) → b < 2 → min b 1 ≡ b
min_one b small = omega (arith, small)

-- the bits of a cell of a mask
pub cell_bits : (masks : List ℕ) (start width k : ℕ) → start % 8 + width ≤ 8 → k < width
    → bit_at (bit_and (slice_index masks (start / 8) / 2 ^ (start % 8)) (2 ^ width - 1)) k ≡ bit_in masks (start + k)
cell_bits masks start width k in_word below =
    let m = slice_index masks (start / 8) in
    let s = start % 8 in
    bit_at_and (m / 2 ^ s) (2 ^ width - 1) k
    ∙ ap (λ b. min (bit_at (m / 2 ^ s) k) b) (bit_at_ones width k below)
    ∙ min_one (bit_at (m / 2 ^ s) k) (bit_at-lt (m / 2 ^ s) k)
    ∙ bit_at-shr m s k
    ∙ sym (bit_in_word masks start k (omega (arith, in_word, below)))

-- ---- a word replaced

pub word_here : (masks : List ℕ) (start new k : ℕ) → start / 8 < length masks → start % 8 + k < 8
    → bit_in (set masks (start / 8) new) (start + k) ≡ bit_at new (start % 8 + k)
word_here masks start new k within in_word =
    let here : (start + k) / 8 ≡ start / 8 = omega (arith, in_word) in
    let lane : (start + k) % 8 ≡ start % 8 + k = omega (arith, in_word) in
    bit_in-set_here masks (start / 8) new (start + k) within here ∙ ap (bit_at new) lane

-- where the bits beside a cell stay, all others do
pub word_there : (masks : List ℕ) (start top new : ℕ) → start / 8 < length masks → start % 8 + top ≤ 8
    → ((i : ℕ) → i < 8 → (i < start % 8) ⊎ (start % 8 + top ≤ i)
    → bit_at new i ≡ bit_at (slice_index masks (start / 8)) i)
    → (place : ℕ) → (place < start) ⊎ (start + top ≤ place)
    → bit_in (set masks (start / 8) new) place ≡ bit_in masks place
word_there masks start top new within in_word stay place where_ = go (cases_eq (place / 8) (start / 8))
  where
    lane : place / 8 ≡ start / 8 → (place % 8 < start % 8) ⊎ (start % 8 + top ≤ place % 8)
    lane same = ⊎_elim (λ before. inl (omega (arith, same, before))) (λ past. inr (omega (arith, same, past))) where_

    go : (place / 8 ≡ start / 8) ⊎ (place / 8 ≡ start / 8 → ⊥)
        → bit_in (set masks (start / 8) new) place ≡ bit_in masks place
    go (inr apart) = bit_in-set_there masks (start / 8) new place apart
    go (inl same) =
        let e : 8 * (start / 8) + place % 8 ≡ place = omega (arith, same) in
        bit_in-set_here masks (start / 8) new place within same ∙ stay (place % 8) (omega arith) (lane same)
        ∙ sym (bit_in-word masks (start / 8) (place % 8) (omega arith)) ∙ ap (bit_in masks) e

-- ---- a cell made known or unknown

product_of : (a b : ℕ) → 0 < a → (a - 1) * b ≡ b * a - b
product_of zero b some = absurd (omega (arith, some))
product_of (suc a) b some = let e : suc a - 1 ≡ a = omega arith in rw e (omega arith)

-- the ones of a cell, moved to its lanes
pub ones_moved : (s width : ℕ) → s + width ≤ 8 → (2 ^ width - 1) * 2 ^ s % 256 ≡ 2 ^ (s + width) - 2 ^ s
ones_moved s width in_word =
    let spread : 2 ^ (s + width) ≡ 2 ^ s * 2 ^ width = pow-add 2 s width in
    let most : 2 ^ (s + width) ≤ 2 ^ 8 = pow-le-pow_right (lit≤ tt) in_word in
    let low : 0 < 2 ^ s = pow_pos s in
    let high : 0 < 2 ^ width = pow_pos width in
    let product : (2 ^ width - 1) * 2 ^ s ≡ 2 ^ (s + width) - 2 ^ s = product_of (2 ^ width) (2 ^ s) high
    ∙ ap (λ x. x - 2 ^ s) (sym spread) in
    let small : 2 ^ (s + width) - 2 ^ s < 256 = omega (arith, most, low) in
    ap (λ x. x % 256) product ∙ omega (arith, small)

max_one : (b : ℕ) → b < 2 → max b 1 ≡ 1
max_one b small = omega (arith, small)

max_zero : (b : ℕ) → max b 0 ≡ b
max_zero b = omega arith

min_zero : (b : ℕ) → min b 0 ≡ 0
min_zero b = omega arith

pub set_inside : (m lo hi i : ℕ) → lo ≤ i → i < hi → bit_at (bit_or m (2 ^ hi - 2 ^ lo)) i ≡ 1
set_inside m lo hi i from to = bit_at_or m (2 ^ hi - 2 ^ lo) i
    ∙ ap (max (bit_at m i)) (bit_at_mask_inside lo hi i from to) ∙ max_one (bit_at m i) (bit_at-lt m i)

mask_outside : (lo hi i : ℕ) → (i < lo) ⊎ (hi ≤ i) → bit_at (2 ^ hi - 2 ^ lo) i ≡ 0
mask_outside lo hi i (inl before) = bit_at_mask_below lo hi i before
mask_outside lo hi i (inr past) = bit_at_mask_above lo hi i past

pub set_outside : (m lo hi i : ℕ) → (i < lo) ⊎ (hi ≤ i) → bit_at (bit_or m (2 ^ hi - 2 ^ lo)) i ≡ bit_at m i
set_outside m lo hi i where_ = bit_at_or m (2 ^ hi - 2 ^ lo) i ∙ ap (max (bit_at m i)) (mask_outside lo hi i where_)
    ∙ max_zero (bit_at m i)

pub clear_inside : (m lo hi i : ℕ) → 2 ^ hi - 2 ^ lo < 2 ^ 8 → i < 8 → lo ≤ i → i < hi
    → bit_at (bit_and m (bit_not w8 (2 ^ hi - 2 ^ lo))) i ≡ 0
clear_inside m lo hi i small lane from to =
    bit_at_and m (bit_not w8 (2 ^ hi - 2 ^ lo)) i
    ∙ ap (min (bit_at m i)) (bit_at_not w8 (2 ^ hi - 2 ^ lo) i small lane
    ∙ ap (λ b. 1 - b) (bit_at_mask_inside lo hi i from to))
    ∙ min_zero (bit_at m i)

pub clear_outside : (m lo hi i : ℕ) → 2 ^ hi - 2 ^ lo < 2 ^ 8 → i < 8 → (i < lo) ⊎ (hi ≤ i)
    → bit_at (bit_and m (bit_not w8 (2 ^ hi - 2 ^ lo))) i ≡ bit_at m i
clear_outside m lo hi i small lane where_ =
    bit_at_and m (bit_not w8 (2 ^ hi - 2 ^ lo)) i
    ∙ ap (min (bit_at m i)) (bit_at_not w8 (2 ^ hi - 2 ^ lo) i small lane
    ∙ ap (λ b. 1 - b) (mask_outside lo hi i where_))
    ∙ min_one (bit_at m i) (bit_at-lt m i)

pub cell_small : (lo width : ℕ) → lo + width ≤ 8 → 2 ^ (lo + width) - 2 ^ lo < 2 ^ 8
cell_small lo width in_word =
    let most : 2 ^ (lo + width) ≤ 2 ^ 8 = pow-le-pow_right (lit≤ tt) in_word in
    let low : 0 < 2 ^ lo = pow_pos lo in
    omega (arith, most, low)

-- ---- a mask given to the lanes of a word

max_given : (b : ℕ) (given : Option ℕ) → b < 2 → max b (mask_bit given) ≡ given_bit b given
max_given b None small = max_zero b
max_given b (Some x) small = max_one b small

mod_bit : (x i : ℕ) → i < 8 → bit_at (x % 256) i ≡ bit_at x i
mod_bit x i lane =
    let e : x / 256 * 2 ^ 8 + x % 256 ≡ x = omega arith in
    sym (bit_at_cat_low (x / 256) 8 (x % 256) i lane) ∙ ap (λ n. bit_at n i) e

moved_above : (mask s i : ℕ) → s ≤ i → bit_at (mask * 2 ^ s) i ≡ bit_at mask (i - s)
moved_above mask s i from =
    let e : mask * 2 ^ s ≡ mask * 2 ^ s + 0 = omega arith in
    ap (λ n. bit_at n i) e ∙ bit_at_cat_high mask s 0 i (pow_pos s) from

moved_below : (mask s i : ℕ) → i < s → bit_at (mask * 2 ^ s) i ≡ 0
moved_below mask s i below =
    let e : mask * 2 ^ s ≡ mask * 2 ^ s + 0 = omega arith in
    ap (λ n. bit_at n i) e ∙ bit_at_cat_low mask s 0 i below ∙ bit_at-zero i

-- a lane from the cell's first on: given, or as before
pub given_here : (m mask s k : ℕ) (given : Option ℕ) → s + k < 8 → bit_at mask k ≡ mask_bit given
    → bit_at (bit_or m (mask * 2 ^ s % 256)) (s + k) ≡ given_bit (bit_at m (s + k)) given
given_here m mask s k given in_word is =
    let back : s + k - s ≡ k = omega arith in
    bit_at_or m (mask * 2 ^ s % 256) (s + k)
    ∙ ap (max (bit_at m (s + k))) (mod_bit (mask * 2 ^ s) (s + k) in_word ∙ moved_above mask s (s + k) (omega arith)
    ∙ ap (bit_at mask) back ∙ is)
    ∙ max_given (bit_at m (s + k)) given (bit_at-lt m (s + k))

pub given_below : (m mask s i : ℕ) → i < 8 → i < s → bit_at (bit_or m (mask * 2 ^ s % 256)) i ≡ bit_at m i
given_below m mask s i lane below =
    bit_at_or m (mask * 2 ^ s % 256) i
    ∙ ap (max (bit_at m i)) (mod_bit (mask * 2 ^ s) i lane ∙ moved_below mask s i below) ∙ max_zero (bit_at m i)
