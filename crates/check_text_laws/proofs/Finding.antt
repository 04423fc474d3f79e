-- Which request of a wide source is in flight after one beat more.
use Rattle.std.proofs.Common.{◌≡◌, ◌∙◌, ℕ, Bool, true, false, cond, if◌then◌else◌, List, [], ◌∷◌, ◌++◌, Option, Some, None, refl, ap, sym, subst, eqb-true}
use Rattle.std.specs.Prelude.{◌==◌, not, map, filter, find, is_some, option_map}
use Rattle.std.proofs.lemmas.Bool.{eqb-false}
use Rattle.check_beats.specs.declared.beat.AskHead.{AskHead}
use Rattle.check_watch.specs.declared.beat.Beat.TheVariants.{A}
use Rattle.check_watch.specs.declared.seen.Ended.{Ended}
use Rattle.check_watch_laws.proofs.Turns.{eqb_own}
use Rattle.check_sides.specs.Plan.{Plan}
use Rattle.check_coverage.specs.Flights.{InFlight, begun, flights_after, grown, is_of, ends_an_ask, with_beat, with_begun}
use Rattle.check_coverage.proofs.Places.{found_any}

-- the request in flight of a wide source
abbrev pub found : ℕ → List InFlight → Option InFlight
found wide flights = find (is_of wide) flights

pub found_of : (wide : ℕ) (flights : List InFlight) (f : InFlight) → found wide flights ≡ Some f → is_of wide f ≡ true
found_of wide [] f is = cc
found_of wide (x ∷ xs) f is = go (is_of wide x) refl is (found_of wide xs f)
  where
    go : (b : Bool) → is_of wide x ≡ b → cond b (Some x) (found wide xs) ≡ Some f
        → (found wide xs ≡ Some f → is_of wide f ≡ true) → is_of wide f ≡ true
    go true here so rest = let same : x ≡ f = cc in subst (λ r. is_of wide r ≡ true) same here
    go false here so rest = rest so

-- of two numbers that are not the same, another is not both
pub not_other : (own wide n : ℕ) → (own == wide) ≡ false → (n == own) ≡ true → (n == wide) ≡ false
not_other own wide n apart is = ap (λ k. k == wide) (eqb-true n own is) ∙ apart

pub not_own : (own wide n : ℕ) → (own == wide) ≡ false → (n == wide) ≡ true → (n == own) ≡ false
not_own own wide n apart is = go (n == own) refl
  where
    go : (b : Bool) → (n == own) ≡ b → b ≡ false
    go true same = absurd (eqb-false own wide apart (sym (eqb-true n own same) ∙ eqb-true n wide is))
    go false same = refl

-- ---- one beat more of a request

module _ (bus own : ℕ) (beat : AskHead) (whole : Bool) where
  abbrev grow : InFlight → InFlight
  grow = with_beat bus own beat whole

  same_wide : (flight : InFlight) → (grow flight).wide ≡ flight.wide
  same_wide flight = go (is_of own flight)
    where
      go : (b : Bool) → (if b then grown bus beat whole flight else flight).wide ≡ flight.wide
      go true = refl
      go false = refl

  found_grown : (wide : ℕ) (flights : List InFlight)
      → found wide (map grow flights) ≡ option_map grow (found wide flights)
  found_grown wide [] = refl
  found_grown wide (x ∷ xs) =
      ap (λ w. cond (w == wide) (Some (grow x)) (found wide (map grow xs))) (same_wide x)
      ∙ go (is_of wide x) (found_grown wide xs)
    where
      go : (b : Bool) → found wide (map grow xs) ≡ option_map grow (found wide xs)
          → cond b (Some (grow x)) (found wide (map grow xs)) ≡ option_map grow (cond b (Some x) (found wide xs))
      go true rest = refl
      go false rest = rest

  grow_own : (flight : InFlight) → is_of own flight ≡ true → grow flight ≡ grown bus beat whole flight
  grow_own flight is = ap (λ b. if b then grown bus beat whole flight else flight) is

  grow_other : (flight : InFlight) → is_of own flight ≡ false → grow flight ≡ flight
  grow_other flight is = ap (λ b. if b then grown bus beat whole flight else flight) is

-- ---- one request more

found_last : (wide : ℕ) (xs : List InFlight) (y : InFlight) → found wide xs ≡ None → is_of wide y ≡ true
    → found wide (xs ++ y ∷ []) ≡ Some y
found_last wide [] y none is = ap (λ b. cond b (Some y) None) is
found_last wide (x ∷ xs) y none is = go (is_of wide x) none (found_last wide xs y)
  where
    go : (b : Bool) → cond b (Some x) (found wide xs) ≡ None
        → (found wide xs ≡ None → is_of wide y ≡ true → found wide (xs ++ y ∷ []) ≡ Some y)
        → cond b (Some x) (found wide (xs ++ y ∷ [])) ≡ Some y
    go true so rest = absurd (cc)
    go false so rest = rest so is

found_but_last : (wide : ℕ) (xs : List InFlight) (y : InFlight) → is_of wide y ≡ false
    → found wide (xs ++ y ∷ []) ≡ found wide xs
found_but_last wide [] y is = ap (λ b. cond b (Some y) None) is
found_but_last wide (x ∷ xs) y is = ap (λ r. cond (is_of wide x) (Some x) r) (found_but_last wide xs y is)

module _ (plan : Plan) (own : ℕ) (beat : AskHead) (flights : List InFlight) (bus : ℕ) (end : Ended) where
  abbrev pub start : InFlight
  start = begun plan own beat

  abbrev grows : InFlight → InFlight
  grows = with_beat bus own beat (ends_an_ask end)

  abbrev pub after : List InFlight
  after = flights_after plan bus own flights (A beat) end

  abbrev more : Bool → List InFlight
  more here = if here then flights else flights ++ start ∷ []

  none_begun : found own flights ≡ None → with_begun plan own beat flights ≡ flights ++ start ∷ []
  none_begun is = ap more (sym (found_any (is_of own) flights) ∙ ap (λ (o : Option InFlight). is_some o) is)

  some_begun : (f : InFlight) → found own flights ≡ Some f → with_begun plan own beat flights ≡ flights
  some_begun f is = ap more (sym (found_any (is_of own) flights) ∙ ap (λ (o : Option InFlight). is_some o) is)

  -- it begins
  pub own_begins : found own flights ≡ None → found own after ≡ Some (grown bus beat (ends_an_ask end) start)
  own_begins none =
      ap (λ l. found own (map grows l)) (none_begun none)
      ∙ found_grown bus own beat (ends_an_ask end) own (flights ++ start ∷ [])
      ∙ ap (λ o. option_map grows o) (found_last own flights start none (eqb_own own))
      ∙ ap (λ r. Some r) (grow_own bus own beat (ends_an_ask end) start (eqb_own own))

  -- or it goes on
  pub own_goes_on : (f : InFlight) → found own flights ≡ Some f
      → found own after ≡ Some (grown bus beat (ends_an_ask end) f)
  own_goes_on f is =
      ap (λ l. found own (map grows l)) (some_begun f is)
      ∙ found_grown bus own beat (ends_an_ask end) own flights
      ∙ ap (λ o. option_map grows o) is
      ∙ ap (λ r. Some r) (grow_own bus own beat (ends_an_ask end) f (found_of own flights f is))

  -- one of them is found
  pub own_found : (f : InFlight) × (found own after ≡ Some f) × (f.is_whole ≡ ends_an_ask end)
  own_found = go (found own flights) refl
    where
      go : (o : Option InFlight) → found own flights ≡ o
          → (f : InFlight) × (found own after ≡ Some f) × (f.is_whole ≡ ends_an_ask end)
      go None is = (grown bus beat (ends_an_ask end) start, own_begins is, refl)
      go (Some f) is = (grown bus beat (ends_an_ask end) f, own_goes_on f is, refl)

  -- that of another source stays
  pub other_stays : (wide : ℕ) → (own == wide) ≡ false → found wide after ≡ found wide flights
  other_stays wide apart =
      found_grown bus own beat (ends_an_ask end) wide (with_begun plan own beat flights)
      ∙ ap (λ o. option_map grows o) (same (found own flights) refl)
      ∙ still (found wide flights) refl
    where
      same : (o : Option InFlight) → found own flights ≡ o
          → found wide (with_begun plan own beat flights) ≡ found wide flights
      same None is = ap (λ l. found wide l) (none_begun is) ∙ found_but_last wide flights start apart
      same (Some f) is = ap (λ l. found wide l) (some_begun f is)

      still : (o : Option InFlight) → found wide flights ≡ o → option_map grows o ≡ o
      still None is = refl
      still (Some f) is = ap (λ r. Some r)
          (grow_other bus own beat (ends_an_ask end) f (not_own own wide f.wide apart (found_of wide flights f is)))

-- ---- a reply that ends

abbrev pub left : ℕ → List InFlight → List InFlight
left own flights = filter (λ flight. not (is_of own flight)) flights

pub own_left : (own : ℕ) (flights : List InFlight) → found own (left own flights) ≡ None
own_left own [] = refl
own_left own (x ∷ xs) = go (is_of own x) refl (own_left own xs)
  where
    go : (b : Bool) → is_of own x ≡ b → found own (left own xs) ≡ None
        → found own (cond (not b) (x ∷ left own xs) (left own xs)) ≡ None
    go true is rest = rest
    go false is rest = ap (λ t. cond t (Some x) (found own (left own xs))) is ∙ rest

pub other_left : (own wide : ℕ) → (own == wide) ≡ false → (flights : List InFlight)
    → found wide (left own flights) ≡ found wide flights
other_left own wide apart [] = refl
other_left own wide apart (x ∷ xs) = go (is_of own x) refl (other_left own wide apart xs)
  where
    go : (b : Bool) → is_of own x ≡ b → found wide (left own xs) ≡ found wide xs
        → found wide (cond (not b) (x ∷ left own xs) (left own xs)) ≡ cond (is_of wide x) (Some x) (found wide xs)
    go true is rest =
        rest ∙ sym (ap (λ t. cond t (Some x) (found wide xs)) (not_other own wide x.wide apart is))
    go false is rest = ap (λ r. cond (is_of wide x) (Some x) r) rest
