-- The part of a message's bytes that one beat carries.
use Rattle.std.proofs.Common.{◌≡◌, ◌∙◌, ℕ, suc, zero, ◌+◌, ◌-◌, ◌*◌, ◌/◌, ◌%◌, ◌^◌, ◌<◌, ◌≤◌, ◌⊎◌, inl, inr, min, max, List, length, take, drop, slice_get, sym, arith, length-drop}
use Rattle.std.proofs.Math.Nat.{pow-suc}
use Rattle.std.proofs.lemmas.Bool.{cases_lt}
use Rattle.std.proofs.lemmas.List.{length-take}
use Rattle.std.proofs.lemmas.Option.{slice_get_past}
use Rattle.tl_types.proofs.Lists.{slice_get-take, slice_get-drop}
use Rattle.tl_beats.specs.Beats.{low}
use Rattle.tl_beats.proofs.Places.{low-wide}

-- the part of a list from s on, of at most eight elements
pub length-word : {X : Type 0} (xs : List X) (s n : ℕ) → n ≡ min (length xs) (s + 8) - s
    → length (take n (drop s xs)) ≡ n
length-word xs s n e = omega (arith, e, length-take n (drop s xs), length-drop s xs)

pub slice_get-word : {X : Type 0} (xs : List X) (s n k : ℕ) → n ≡ min (length xs) (s + 8) - s → s ≤ length xs → k < 8
    → slice_get (take n (drop s xs)) k ≡ slice_get xs (s + k)
slice_get-word {X} xs s n k e starts in_bus = go (cases_lt k n)
  where
    go : (k < n) ⊎ (n ≤ k) → slice_get (take n (drop s xs)) k ≡ slice_get xs (s + k)
    go (inl below) = slice_get-take n (drop s xs) k below ∙ slice_get-drop s xs k
    go (inr above) =
        slice_get_past (take n (drop s xs)) k (omega (arith, above, length-word xs s n e))
        ∙ sym (slice_get_past xs (s + k) (omega (arith, above, e, in_bus, starts)))

-- a message of several beats begins at lane 0
pub first_or_only : (address size b : ℕ) → b < max 1 (2 ^ size / 8) → (low address size % 8 ≡ 0) ⊎ (b ≡ 0)
first_or_only address zero b beat = inr (omega arith)
first_or_only address (suc zero) b beat = inr (omega arith)
first_or_only address (suc (suc zero)) b beat = inr (omega arith)
first_or_only address (suc (suc (suc n))) b beat = inl (low-wide address n)

-- a beat of a message begins within its bytes
pub starts_within : (size b : ℕ) → b < max 1 (2 ^ size / 8) → 8 * b ≤ 2 ^ size
starts_within zero b beat = omega arith
starts_within (suc zero) b beat = omega arith
starts_within (suc (suc zero)) b beat = omega arith
starts_within (suc (suc (suc n))) b beat = omega (arith, pow-suc 2 (suc (suc n)), pow-suc 2 (suc n), pow-suc 2 n)
