-- With which row a request began, as one row more is judged.
use Rattle.std.proofs.Common.{◌≡◌, ◌≢◌, ◌∙◌, ℕ, Bool, true, false, if◌then◌else◌, List, [], ◌∷◌, length, ◌%◌, ◌^◌, Option, Some, None, refl, sym, ap}
use Rattle.std.specs.Prelude.{◌↔◌}
use Rattle.check_flight.specs.Flight.{Turn}
use Rattle.check_flight.specs.Flight.Turn.{Idle, Asking, Asked}
use Rattle.check_watch.specs.Plan.{Layout, LinkSide}
use Rattle.check_watch.proofs.InFlight.{idle_or_asked, idle_or_asking}
use Rattle.check_watch.specs.Past.{state}
use Rattle.check_sides.specs.Groups.{shared_past}
use Rattle.check_sides.specs.Pending.{IsInFlightAt}
use Rattle.check_sides.specs.Plan.{Plan}
use Rattle.check_rows.specs.Row.{SeenRow, beats_of}
use Rattle.check_rows.specs.declared.request.Began.{Began}
use Rattle.check_unanswered.specs.Began.{began, began_with, is_idle, turn_at}

-- ---- turns

idle_is : (turn : Turn) → is_idle turn ≡ true → turn ≡ Idle
idle_is Idle is = refl
idle_is (Asking n) is = absurd (cc)
idle_is (Asked n ask) is = absurd (cc)

is_idle_of : (turn : Turn) → (turn ≢ Idle → ⊥) → is_idle turn ≡ true
is_idle_of Idle not = refl
is_idle_of (Asking n) not = absurd (not (λ is. idle_or_asking n (sym is)))
is_idle_of (Asked n ask) not = absurd (not (λ is. idle_or_asked n ask (sym is)))

is_busy_of : (turn : Turn) → turn ≢ Idle → is_idle turn ≡ false
is_busy_of Idle busy = absurd (busy refl)
is_busy_of (Asking n) busy = refl
is_busy_of (Asked n ask) busy = refl

busy_of : (turn : Turn) → is_idle turn ≡ false → turn ≢ Idle
busy_of Idle is = absurd (cc)
busy_of (Asking n) is = λ idle. idle_or_asking n (sym idle)
busy_of (Asked n ask) is = λ idle. idle_or_asked n ask (sym idle)

-- ---- one row more

module _ (plan : Plan) (row : SeenRow) (before : List SeenRow) (side : LinkSide) (wide : ℕ) where
  abbrev now : Turn
  now = turn_at plan (row ∷ before) side wide

  abbrev was : Turn
  was = turn_at plan before side wide

  abbrev this : Began
  this = began_with row (length before % 2 ^ 64)

  abbrev by : Bool → Bool → Option Began
  by idle idle_before =
      if idle then None
      else if idle_before then Some this
      else began plan before side wide

  by_is : (idle idle_before : Bool) → is_idle now ≡ idle → is_idle was ≡ idle_before
      → began plan (row ∷ before) side wide ≡ by idle idle_before
  by_is idle idle_before is is_before = ap (λ b. by b (is_idle was)) is ∙ ap (λ b. by idle b) is_before

  pub began_none : (IsInFlightAt plan (beats_of (row ∷ before)) side wide → ⊥)
      → began plan (row ∷ before) side wide ≡ None
  began_none not = ap (λ b. by b (is_idle was)) (is_idle_of now not)

  pub began_now : IsInFlightAt plan (beats_of (row ∷ before)) side wide
      → (IsInFlightAt plan (beats_of before) side wide → ⊥)
      → began plan (row ∷ before) side wide ≡ Some this
  began_now busy free = by_is false true (is_busy_of now busy) (is_idle_of was free)

  began_before : IsInFlightAt plan (beats_of (row ∷ before)) side wide
      → IsInFlightAt plan (beats_of before) side wide
      → began plan (row ∷ before) side wide ≡ began plan before side wide
  began_before busy was_busy = by_is false false (is_busy_of now busy) (is_busy_of was was_busy)

-- before any row nothing is in flight
none_shared : (layout : Layout) → shared_past layout [] ≡ []
none_shared layout = refl

turn_none : (plan : Plan) (side : LinkSide) (wide : ℕ) → turn_at plan [] side wide ≡ Idle
turn_none plan side wide =
    ap (λ past. ((state plan past).flights side wide).turn) (none_shared plan.layout)

-- what is in flight has begun
pub began_some : (plan : Plan) (rows : List SeenRow) (side : LinkSide) (wide : ℕ)
    → IsInFlightAt plan (beats_of rows) side wide → (b : Began) × (began plan rows side wide ≡ Some b)
began_some plan [] side wide busy = absurd (busy (turn_none plan side wide))
began_some plan (row ∷ before) side wide busy =
    go (is_idle (turn_at plan before side wide)) refl (began_some plan before side wide)
  where
    go : (b : Bool) → is_idle (turn_at plan before side wide) ≡ b
        → (IsInFlightAt plan (beats_of before) side wide → (k : Began) × (began plan before side wide ≡ Some k))
        → (k : Began) × (began plan (row ∷ before) side wide ≡ Some k)
    go true idle earlier = (
      this plan row before side wide,
      began_now plan row before side wide busy (λ h. h (idle_is (turn_at plan before side wide) idle)),
    )
    go false was_busy earlier =
        let h = busy_of (turn_at plan before side wide) was_busy in
        let found = earlier h in
        (found.0, began_before plan row before side wide busy h ∙ found.1)

-- and nothing else has
pub began_busy : (plan : Plan) (rows : List SeenRow) (side : LinkSide) (wide : ℕ) (b : Began)
    → began plan rows side wide ≡ Some b → IsInFlightAt plan (beats_of rows) side wide
began_busy plan [] side wide b is idle = absurd (cc)
began_busy plan (row ∷ before) side wide b is idle =
    let none = began_none plan row before side wide (λ busy. busy idle) in absurd (cc)

pub began_idle : (plan : Plan) (rows : List SeenRow) (side : LinkSide) (wide : ℕ)
    → (IsInFlightAt plan (beats_of rows) side wide → ⊥) → began plan rows side wide ≡ None
began_idle plan [] side wide not = refl
began_idle plan (row ∷ before) side wide not = began_none plan row before side wide not

-- where a row changes nothing, what began stays
pub began_stays : (plan : Plan) (row : SeenRow) (before : List SeenRow) (side : LinkSide) (wide : ℕ)
    → (IsInFlightAt plan (beats_of (row ∷ before)) side wide ↔ IsInFlightAt plan (beats_of before) side wide)
    → began plan (row ∷ before) side wide ≡ began plan before side wide
began_stays plan row before side wide same = go (is_idle (turn_at plan (row ∷ before) side wide)) refl
  where
    go : (b : Bool) → is_idle (turn_at plan (row ∷ before) side wide) ≡ b
        → began plan (row ∷ before) side wide ≡ began plan before side wide
    go true idle =
        let not : IsInFlightAt plan (beats_of (row ∷ before)) side wide → ⊥ =
        λ busy. busy (idle_is (turn_at plan (row ∷ before) side wide) idle) in
        began_none plan row before side wide not
        ∙ sym (began_idle plan before side wide (λ busy. not (same.1 busy)))
    go false busy =
        let now = busy_of (turn_at plan (row ∷ before) side wide) busy in
        began_before plan row before side wide now (same.0 now)
