-- Links before any beat, and lists that hold one thing again and again, with something like it for places that are not
-- there.
use Rattle.std.proofs.Common.{◌≡◌, ℕ, zero, suc, List, [], ◌∷◌, ◌++◌, map, slice_get, unwrap_or, refl}
use Rattle.check_beats.specs.Bus.{bus_bytes}
use Rattle.check_beats.specs.State.{Under, nothing_under}
use Rattle.check_beats.specs.declared.bus.Bus.{Bus}
use Rattle.check_flight.specs.Side.{bus_at, under_at}

-- a link of each of these buses, with no message under way
abbrev pub fresh_of : List Bus → List Under
fresh_of buses = map (λ (bus : Bus). nothing_under (bus_bytes bus)) buses

pub under_at-fresh_of : (buses : List Bus) (number : ℕ)
    → under_at (fresh_of buses) number ≡ nothing_under (bus_at buses number)
under_at-fresh_of [] zero = refl
under_at-fresh_of [] (suc number) = refl
under_at-fresh_of (bus ∷ buses) zero = refl
under_at-fresh_of (bus ∷ buses) (suc number) = under_at-fresh_of buses number

-- one more of it
pub fresh_more : {X : Type 0} (d : X) (xs : List X) → ((k : ℕ) → unwrap_or (slice_get xs k) d ≡ d) → (k : ℕ)
    → unwrap_or (slice_get (xs ++ d ∷ []) k) d ≡ d
fresh_more d [] fresh zero = refl
fresh_more d [] fresh (suc k) = refl
fresh_more d (x ∷ xs) fresh zero = fresh zero
fresh_more d (x ∷ xs) fresh (suc k) = fresh_more d xs (λ j. fresh (suc j)) k
