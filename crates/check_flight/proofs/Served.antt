-- What stands in flight where a slave serves, or serves nothing.
use Rattle.std.proofs.Common.{◌≡◌, ◌∙◌, ◌<◌, ℕ, suc, zero, List, [], ◌∷◌, length, Option, Some, None, slice_get, get_or, ap, sym, refl}
use Rattle.std.proofs.lemmas.Option.{slice_get-get_or}
use Rattle.std.specs.Prelude.{slice_set, unwrap_or}
use Rattle.check_flight.specs.declared.answer.Answer.{Answer}
use Rattle.check_flight.specs.Flight.{Flight, idle, flight_due}
use Rattle.check_flight.specs.Side.{flight_at, flights_due}

-- what stands at a place, written there again, changes nothing
pub set_own : {X : Type 0} (d : X) (xs : List X) (k : ℕ) → slice_set xs k (unwrap_or (slice_get xs k) d) ≡ xs
set_own d [] k = refl
set_own d (x ∷ xs) zero = refl
set_own d (x ∷ xs) (suc k) = ap (λ l. x ∷ l) (set_own d xs k)

pub flights_served : (flights : List Flight) (wide : ℕ) (due : Option Answer)
    → slice_set flights wide (flight_due (flight_at flights wide) due) ≡ flights_due flights wide due
flights_served flights wide None = set_own idle flights wide
flights_served flights wide (Some answer) = refl

-- what is found at a place within a list stands there
pub flight_found : (flights : List Flight) (wide : ℕ) (d : Flight) → wide < length flights → d ≡ get_or flights wide d
    → d ≡ flight_at flights wide
flight_found flights wide d within is = is ∙ sym (ap (λ o. unwrap_or o idle) (slice_get-get_or flights wide d within))
