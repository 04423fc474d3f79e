-- The mask of the active lanes, bit by bit.
use Rattle.std.proofs.Common.{◌≡◌, ◌∙◌, ℕ, suc, zero, ◌+◌, ◌-◌, ◌*◌, ◌/◌, ◌^◌, ◌%◌, ◌<◌, ◌≤◌, min, ⊎_elim, ap, arith}
use Rattle.std.specs.Int.{bit_at}
use Rattle.std.proofs.Math.Nat.{pow-suc}
use Rattle.std.proofs.lemmas.Bool.{cases_lt}
use Rattle.std.proofs.lemmas.Nat.{pow_pos}
use Rattle.std.proofs.lemmas.Nat.Bits.{bit_at_lowest, bit_at-suc, bit_at_ones, bit_at_above}
use Rattle.tl_beats.specs.Beats.{low}
use Rattle.tl_beats.specs.Laws.{MaskSetsActiveLanes}

-- a run of ones from bit `first` on
abbrev run : ℕ → ℕ → ℕ
run first count = 2 ^ (first + count) - 2 ^ first

twice : (first count : ℕ) → run (suc first) count ≡ run first count * 2
twice first count =
    let next : suc first + count ≡ suc (first + count) = omega arith in
    let whole : 2 ^ (suc first + count) ≡ 2 ^ (first + count) * 2 = ap (λ n. 2 ^ n) next ∙ pow-suc 2 (first + count) in
    omega (arith, whole, pow-suc 2 first)

half : (first count : ℕ) → run (suc first) count / 2 ≡ run first count
half first count = omega (arith, twice first count)

run_below : (first count i : ℕ) → i < first → bit_at (run first count) i ≡ 0
run_below zero count i below = absurd (omega (arith, below))
run_below (suc first) count zero below = bit_at_lowest (run (suc first) count) ∙ omega (arith, twice first count)
run_below (suc first) count (suc i) below =
    bit_at-suc (run (suc first) count) i ∙ ap (λ n. bit_at n i) (half first count)
    ∙ run_below first count i (omega (arith, below))

run_within : (first count i : ℕ) → first ≤ i → i < first + count → bit_at (run first count) i ≡ 1
run_within zero count i from below =
    let none : 0 + count ≡ count = omega arith in
    let whole : run 0 count ≡ 2 ^ count - 1 = ap (λ n. 2 ^ n - 1) none in
    ap (λ n. bit_at n i) whole ∙ bit_at_ones count i (omega (arith, below))
run_within (suc first) count zero from below = absurd (omega (arith, from))
run_within (suc first) count (suc i) from below =
    bit_at-suc (run (suc first) count) i ∙ ap (λ n. bit_at n i) (half first count)
    ∙ run_within first count i (omega (arith, from)) (omega (arith, below))

run_above : (first count i : ℕ) → first + count ≤ i → bit_at (run first count) i ≡ 0
run_above first count i above =
    bit_at_above (run first count) (first + count) i (omega (arith, pow_pos first, pow_pos (first + count))) above

set_is_from : (first count i : ℕ) → bit_at (run first count) i ≡ 1 → first ≤ i
set_is_from first count i set =
    ⊎_elim (λ (below : i < first). absurd (omega (arith, set, run_below first count i below)))
    (λ (from : first ≤ i). from) (cases_lt i first)

set_is_below : (first count i : ℕ) → bit_at (run first count) i ≡ 1 → i < first + count
set_is_below first count i set =
    ⊎_elim (λ (below : i < first + count). below)
    (λ (above : first + count ≤ i). absurd (omega (arith, set, run_above first count i above)))
    (cases_lt i (first + count))

pub active_lanes_are_set : MaskSetsActiveLanes
active_lanes_are_set address size lane =
    let first = low address size % 8 in
    let count = min 8 (2 ^ size) in (
      (λ set. record { above = set_is_from first count lane set; below = set_is_below first count lane set }),
      (λ active. run_within first count lane active.above active.below),
    )
