-- Lists that grow beat by beat.
use Rattle.std.proofs.Common.{◌≡◌, ◌∙◌, ℕ, suc, zero, ◌+◌, ◌-◌, ◌*◌, ◌/◌, ◌%◌, ◌^◌, ◌<◌, ◌⊎◌, inl, inr, min, max, Bool, true, false, if◌then◌else◌, List, [], ◌∷◌, ◌++◌, length, Some, slice_get, ap, subst, arith, length-append, ⊎_elim}
use Rattle.std.proofs.Math.Nat.{pow-suc}
use Rattle.std.proofs.lemmas.Option.{slice_get_within}
use Rattle.tl_types.proofs.Lists.{slice_get-push}
use Rattle.tl_beats.specs.Beats.{low, lane_of, beat_count}
use Rattle.tl_beats.specs.Reading.{Gains}
use Rattle.tl_beats.proofs.Places.{low-wide}

-- nothing is gained at first
pub gains_none : {X : Type 0} (P : ℕ → X → Type 0) (xs : List X) → Gains P 0 xs xs
gains_none P xs = record { counted = omega arith; each = λ j x at. inl at }

-- one more is gained
pub gains_push : {X : Type 0} (P : ℕ → X → Type 0) (count : ℕ) (old new : List X) (x : X) → Gains P count old new
    → P count x → Gains P (count + 1) old (new ++ x ∷ [])
gains_push P count old new x gains holds = record {
  counted = omega (arith, gains.counted, length-append new (x ∷ []));
  each = λ j y at. ⊎_elim
      (λ before. ⊎_elim (λ kept. inl kept) (λ gained. inr (gained.0, gained.1, omega (arith, gained.2), gained.3))
      (gains.each j y before))
      (λ last. inr (count, last.0 ∙ gains.counted, omega arith, subst (λ w. P count w) last.1 holds))
      (slice_get-push new x y j at);
}

-- what is read after an append was read before, or from what is appended
slice_get-append : {X : Type 0} (xs ys : List X) (j : ℕ) (x : X) → slice_get (xs ++ ys) j ≡ Some x
    → (slice_get xs j ≡ Some x) ⊎ ((k : ℕ) × (j ≡ length xs + k) × (slice_get ys k ≡ Some x))
slice_get-append [] ys j x at = inr (j, omega arith, at)
slice_get-append (y ∷ xs) ys zero x at = inl at
slice_get-append (y ∷ xs) ys (suc j) x at =
    ⊎_elim (λ kept. inl kept) (λ gained. inr (gained.0, omega (arith, gained.1), gained.2))
    (slice_get-append xs ys j x at)

-- a whole list is gained
pub gains_append : {X : Type 0} (old ys : List X) → Gains (λ k x. slice_get ys k ≡ Some x) (length ys) old (old ++ ys)
gains_append old ys = record {
  counted = length-append old ys;
  each = λ j x at. ⊎_elim (λ kept. inl kept)
      (λ gained. inr (gained.0, gained.1, slice_get_within ys gained.0 x gained.2, gained.2))
      (slice_get-append old ys j x at);
}

-- what follows from the property is gained too
pub gains_so : {X : Type 0} (P Q : ℕ → X → Type 0) (count : ℕ) (old new : List X)
    → ((k : ℕ) (x : X) → k < count → P k x → Q k x) → Gains P count old new → Gains Q count old new
gains_so P Q count old new so gains = record {
  counted = gains.counted;
  each = λ j x at. ⊎_elim (λ kept. inl kept)
      (λ gained. inr (gained.0, gained.1, gained.2, so gained.0 x gained.2 gained.3)) (gains.each j x at);
}

-- the k-th byte of beat b stands in that beat, k lanes past the first
pub place_of_gained : (address size b k old count : ℕ) → b < max 1 (2 ^ size / 8) → old ≡ min (8 * b) (2 ^ size)
    → count ≡ min (2 ^ size - old) 8 → k < count → ((old + k) / 8 ≡ b)
    × (lane_of address size (old + k) ≡ low address size % 8 + k)
place_of_gained address zero b k old count beat o n h = (omega arith, omega arith)
place_of_gained address (suc zero) b k old count beat o n h = (omega arith, omega arith)
place_of_gained address (suc (suc zero)) b k old count beat o n h = (omega arith, omega arith)
place_of_gained address (suc (suc (suc s))) b k old count beat o n h =
    let wide = pow-suc 2 (suc (suc s)) in
    let wide' = pow-suc 2 (suc s) in
    let wide'' = pow-suc 2 s in
    let lane = low-wide address s in
    (omega arith, omega arith)

-- how many bytes the beats up to b have
pub count_of_gained : (b old count total : ℕ) → old ≡ min (8 * b) total → count ≡ min (total - old) 8
    → old + count ≡ min (8 * (b + 1)) total
count_of_gained b old count total o n = omega arith

-- each beat has as many bytes: those of the message, or a whole bus of them
pub count_of_beat : (carries : Bool) (size b old count : ℕ) → b < beat_count carries size
    → old ≡ min (8 * b) (if carries then 2 ^ size else 0) → count ≡ min (if carries then 2 ^ size else 0) 8
    → count ≡ min ((if carries then 2 ^ size else 0) - old) 8
count_of_beat false size b old count beat o n = omega (arith, o, n)
count_of_beat true zero b old count beat o n = omega arith
count_of_beat true (suc zero) b old count beat o n = omega arith
count_of_beat true (suc (suc zero)) b old count beat o n = omega arith
count_of_beat true (suc (suc (suc s))) b old count beat o n =
    let wide = pow-suc 2 (suc (suc s)) in
    let wide' = pow-suc 2 (suc s) in
    let wide'' = pow-suc 2 s in
    omega arith

-- each byte of the longer list stands where it is to stand: `Q b lane x` says that x stands at the lane of beat b
pub gains_beat : {X : Type 0} (Q : ℕ → ℕ → X → Type 0) (address size b count : ℕ) (old new : List X)
    → b < max 1 (2 ^ size / 8) → length old ≡ min (8 * b) (2 ^ size) → count ≡ min (2 ^ size - length old) 8
    → Gains (λ k x. Q b (low address size % 8 + k) x) count old new
    → ((j : ℕ) (x : X) → slice_get old j ≡ Some x → Q (j / 8) (lane_of address size j) x) → (j : ℕ) (x : X)
    → slice_get new j ≡ Some x → Q (j / 8) (lane_of address size j) x
gains_beat Q address size b count old new beat o n gains so_far j x at =
    ⊎_elim
    (λ kept. so_far j x kept)
    (λ gained.
    let place = place_of_gained address size b gained.0 (length old) count beat o n gained.2 in
    let in_beat : j / 8 ≡ b = ap (λ i. i / 8) gained.1 ∙ place.0 in
    let lane : lane_of address size j ≡ low address size % 8 + gained.0 =
    ap (λ i. lane_of address size i) gained.1 ∙ place.1 in
    rw (in_beat, lane) gained.3)
    (gains.each j x at)

-- and so in a message that may carry none
pub gains_in_message : {X : Type 0} (Q : ℕ → ℕ → X → Type 0) (carries : Bool) (address size b count : ℕ)
    (old new : List X) → b < beat_count carries size → length old ≡ min (8 * b) (if carries then 2 ^ size else 0)
    → count ≡ min ((if carries then 2 ^ size else 0) - length old) 8
    → Gains (λ k x. Q b (low address size % 8 + k) x) count old new
    → ((j : ℕ) (x : X) → slice_get old j ≡ Some x → Q (j / 8) (lane_of address size j) x) → (j : ℕ) (x : X)
    → slice_get new j ≡ Some x → Q (j / 8) (lane_of address size j) x
gains_in_message Q true address size b count old new beat o n gains so_far j x at =
    gains_beat Q address size b count old new beat o n gains so_far j x at
gains_in_message Q false address size b count old new beat o n gains so_far j x at =
    ⊎_elim (λ kept. so_far j x kept) (λ gained. absurd (omega (arith, n, gained.2))) (gains.each j x at)
