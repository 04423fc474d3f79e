-- The lanes of a beat lie on the bus.
use Rattle.std.proofs.Common.{◌≡◌, ◌∙◌, ℕ, suc, zero, ◌+◌, ◌-◌, ◌*◌, ◌/◌, ◌^◌, ◌%◌, ◌<◌, ◌≤◌, ◌⊎◌, inl, inr, min, max, Bool, true, false, if◌then◌else◌, ap, refl, arith, lit≤}
use Rattle.std.proofs.Math.Nat.{mul-mod_left, mod-eq_of_lt, pow-le-pow_right, add-mod}
use Rattle.std.proofs.lemmas.Bool.{cases_lt}
use Rattle.std.proofs.lemmas.Nat.{pow_pos, pow-add, mod-pow-add, mul-le, div-add-mod', mod_below, shl-shr, div-mul-add}
use Rattle.check_beats.specs.Bus.{low, lane_on_bus, beat_count_on_bus}

-- the rounded address is a multiple of the size
low-multiple : (address size : ℕ) → low address size ≡ address / 2 ^ size * 2 ^ size
low-multiple address size = omega (arith, div-add-mod' address (2 ^ size))

pub split_power : (small more large : ℕ) → small + more ≡ large → 2 ^ large ≡ 2 ^ more * 2 ^ small
split_power small more large is = let e : large ≡ more + small = omega (arith, is) in ap (λ n. 2 ^ n) e ∙ pow-add 2 more small

-- a message that fills the bus begins at its first lane
pub low-wide : (w address size : ℕ) → w ≤ size → low address size % 2 ^ w ≡ 0
low-wide w address size wide =
    let more = size - w in
    let power : 2 ^ size ≡ 2 ^ more * 2 ^ w = split_power w more size (omega (arith, wide)) in
    let whole : low address size ≡ address / 2 ^ size * 2 ^ more * 2 ^ w = low-multiple address size
    ∙ ap (λ n. address / 2 ^ size * n) power ∙ search arith in
    ap (λ n. n % 2 ^ w) whole ∙ mul-mod_left (address / 2 ^ size * 2 ^ more) (2 ^ w)

-- a smaller message ends on the bus
low-narrow : (w address size : ℕ) → size < w → low address size % 2 ^ w + 2 ^ size ≤ 2 ^ w
low-narrow w address size narrow =
    let more = w - size in
    let power : 2 ^ w ≡ 2 ^ more * 2 ^ size = split_power size more w (omega (arith, narrow)) in
    let n = low address size in
    let sum : w ≡ more + size = omega (arith, narrow) in
    let none : n % 2 ^ size ≡ 0 = ap (λ x. x % 2 ^ size) (low-multiple address size) ∙ mul-mod_left (address / 2 ^ size) (2 ^ size) in
    let parts : n % 2 ^ w ≡ (n / 2 ^ size % 2 ^ more) * 2 ^ size + n % 2 ^ size = ap (λ x. n % 2 ^ x) sum ∙ mod-pow-add n more size in
    let place = n / 2 ^ size % 2 ^ more in
    let below : place < 2 ^ more = mod_below (n / 2 ^ size) (2 ^ more) (pow_pos more) in
    let row : (suc place) * 2 ^ size ≤ 2 ^ more * 2 ^ size =
    mul-le (suc place) (2 ^ size) (2 ^ more) (2 ^ size) (omega (arith, below)) (omega arith) in
    omega (arith, power, none, parts, row)

pub window_fits : (w address size : ℕ) → low address size % 2 ^ w + min (2 ^ w) (2 ^ size) ≤ 2 ^ w
window_fits w address size = go (cases_lt size w)
  where
    go : (size < w) ⊎ (w ≤ size) → low address size % 2 ^ w + min (2 ^ w) (2 ^ size) ≤ 2 ^ w
    go (inl narrow) = omega (arith, low-narrow w address size narrow)
    go (inr wide) = omega (arith, low-wide w address size wide)

-- a message of one beat that carries bytes is no larger than the bus
pub one_beat : (w size : ℕ) → max 1 (2 ^ size / 2 ^ w) ≡ 1 → 2 ^ size ≤ 2 ^ w
one_beat w size alone = go (cases_lt w size)
  where
    go : (w < size) ⊎ (size ≤ w) → 2 ^ size ≤ 2 ^ w
    go (inr small) = pow-le-pow_right (lit≤ tt) small
    go (inl large) =
        let more = size - w in
        let power : 2 ^ size ≡ 2 ^ more * 2 ^ w = split_power w more size (omega (arith, large)) in
        let count : 2 ^ size / 2 ^ w ≡ 2 ^ more = ap (λ n. n / 2 ^ w) power ∙ shl-shr (2 ^ more) w in
        let one : 1 ≤ more = omega (arith, large) in
        let two : 2 ^ 1 ≤ 2 ^ more = pow-le-pow_right (lit≤ tt) one in
        absurd (omega (arith, alone, count, two))

pub small_count : (w size : ℕ) (carries : Bool) → beat_count_on_bus (2 ^ w) carries size ≡ 1 → (if carries then 2 ^ size else 0) ≤ 2 ^ w
small_count w size true alone = one_beat w size alone
small_count w size false alone = omega arith

pub some_count : (size : ℕ) (carries : Bool) → (if carries then 2 ^ size else 0) ≤ 2 ^ size
some_count size true = omega arith
some_count size false = omega arith

-- a run of ones, shifted
pub ones_from : (first count : ℕ) → 0 < count → first + count ≤ 64
    → (2 ^ 64 - 1) / 2 ^ (64 - count) * 2 ^ first % 2 ^ 64 ≡ 2 ^ (first + count) - 2 ^ first
ones_from first count some fits =
    let power : 2 ^ 64 ≡ 2 ^ count * 2 ^ (64 - count) = split_power (64 - count) count 64 (omega (arith, fits)) in
    let whole : 2 ^ count * 2 ^ (64 - count) ≡ (2 ^ count - 1) * 2 ^ (64 - count) + 2 ^ (64 - count) =
    one_less (2 ^ count) (2 ^ (64 - count)) (pow_pos count) in
    let top : 2 ^ 64 - 1 ≡ (2 ^ count - 1) * 2 ^ (64 - count) + (2 ^ (64 - count) - 1) =
    omega (arith, power, whole, pow_pos (64 - count)) in
    let run : (2 ^ 64 - 1) / 2 ^ (64 - count) ≡ 2 ^ count - 1 = ap (λ n. n / 2 ^ (64 - count)) top
    ∙ div-mul-add (2 ^ count - 1) (2 ^ (64 - count)) (2 ^ (64 - count) - 1) (omega (arith, pow_pos (64 - count))) in
    let all : 2 ^ (first + count) ≡ 2 ^ count * 2 ^ first = split_power first count (first + count) refl in
    let less : 2 ^ count * 2 ^ first ≡ (2 ^ count - 1) * 2 ^ first + 2 ^ first = one_less (2 ^ count) (2 ^ first) (pow_pos count) in
    let most : 2 ^ (first + count) ≤ 2 ^ 64 = pow-le-pow_right (lit≤ tt) fits in
    let small : (2 ^ count - 1) * 2 ^ first < 2 ^ 64 = omega (arith, all, less, most, pow_pos first) in
    ap (λ n. n * 2 ^ first % 2 ^ 64) run ∙ mod-eq_of_lt small ∙ omega (arith, all, less)
  where
    one_less : (a b : ℕ) → 0 < a → a * b ≡ (a - 1) * b + b
    one_less zero b some = absurd (omega (arith, some))
    one_less (suc a) b some = search arith

-- where byte j stands
pub lane_wide : (w address size j : ℕ) → w ≤ size → lane_on_bus (2 ^ w) address size j ≡ j % 2 ^ w
lane_wide w address size j wide =
    let none : low address size % 2 ^ w ≡ 0 = low-wide w address size wide in
    add-mod (low address size) j (2 ^ w) ∙ ap (λ n. (n + j % 2 ^ w) % 2 ^ w) none
    ∙ mod-eq_of_lt (omega (arith, mod_below j (2 ^ w) (pow_pos w))) ∙ omega arith

pub lane_in_window : (w address size k : ℕ) → k < min (2 ^ w) (2 ^ size) → lane_on_bus (2 ^ w) address size k ≡ low address size % 2 ^ w + k
lane_in_window w address size k within =
    let small : k < 2 ^ w = omega (arith, within) in
    let fits : low address size % 2 ^ w + k < 2 ^ w = omega (arith, within, window_fits w address size) in
    add-mod (low address size) k (2 ^ w) ∙ ap (λ n. (low address size % 2 ^ w + n) % 2 ^ w) (mod-eq_of_lt small) ∙ mod-eq_of_lt fits

-- a run of ones from bit 0 on
pub ones_of : (count : ℕ) → count ≤ 64 → (2 ^ 64 - 1) / 2 ^ (64 - count) ≡ 2 ^ count - 1
ones_of count fits =
    let power : 2 ^ 64 ≡ 2 ^ count * 2 ^ (64 - count) = split_power (64 - count) count 64 (omega (arith, fits)) in
    let whole : 2 ^ count * 2 ^ (64 - count) ≡ (2 ^ count - 1) * 2 ^ (64 - count) + 2 ^ (64 - count) =
    one_less (2 ^ count) (2 ^ (64 - count)) (pow_pos count) in
    let top : 2 ^ 64 - 1 ≡ (2 ^ count - 1) * 2 ^ (64 - count) + (2 ^ (64 - count) - 1) =
    omega (arith, power, whole, pow_pos (64 - count)) in
    ap (λ n. n / 2 ^ (64 - count)) top
    ∙ div-mul-add (2 ^ count - 1) (2 ^ (64 - count)) (2 ^ (64 - count) - 1) (omega (arith, pow_pos (64 - count)))
  where
    one_less : (a b : ℕ) → 0 < a → a * b ≡ (a - 1) * b + b
    one_less zero b some = absurd (omega (arith, some))
    one_less (suc a) b some = search arith
