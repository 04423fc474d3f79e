-- Requests in flight, and how they are kept.
use Rattle.std.proofs.Common.{◌≡◌, ◌∙◌, ℕ, zero, suc, ◌+◌, ◌<◌, ◌≤◌, Bool, true, false, cond, ◌||◌, List, [], ◌∷◌, length, get_or, take, Some, None, slice_get, refl, ap, sym, subst, arith}
use Rattle.std.specs.Prelude.{map, filter, find, take_while, is_some, option_map, slice_set}
use Rattle.std.specs.List.{list_any}
use Rattle.std.proofs.lemmas.Bool.{or_from}
use Rattle.std.proofs.lemmas.List.{get_or-map, take_all}
use Rattle.std.proofs.lemmas.List.Folds.{list_any_at, list_any_more}
use Rattle.std.proofs.lemmas.List.Sums.{take_while-cons}
use Rattle.std.proofs.lemmas.Option.{same_Some, slice_get-get_or}
use Rattle.check_coverage.specs.declared.flight.CountedFlight.{CountedFlight}
use Rattle.check_coverage.specs.Flights.{InFlight, kept}

pub find_kept : (test : CountedFlight → Bool) (flights : List InFlight)
    → find test (map kept flights) ≡ option_map kept (find (λ flight. test (kept flight)) flights)
find_kept test [] = refl
find_kept test (x ∷ xs) = go (test (kept x)) (find_kept test xs)
  where
    go : (b : Bool) → find test (map kept xs) ≡ option_map kept (find (λ flight. test (kept flight)) xs)
        → cond b (Some (kept x)) (find test (map kept xs))
        ≡ option_map kept (cond b (Some x) (find (λ flight. test (kept flight)) xs))
    go true rest = refl
    go false rest = rest

pub filter_kept : (test : CountedFlight → Bool) (flights : List InFlight)
    → filter test (map kept flights) ≡ map kept (filter (λ flight. test (kept flight)) flights)
filter_kept test [] = refl
filter_kept test (x ∷ xs) = go (test (kept x)) (filter_kept test xs)
  where
    go : (b : Bool) → filter test (map kept xs) ≡ map kept (filter (λ flight. test (kept flight)) xs)
        → cond b (kept x ∷ filter test (map kept xs)) (filter test (map kept xs))
        ≡ map kept (cond b (x ∷ filter (λ flight. test (kept flight)) xs) (filter (λ flight. test (kept flight)) xs))
    go true rest = ap (λ l. kept x ∷ l) rest
    go false rest = rest

length_kept : (flights : List InFlight) → length (map kept flights) ≡ length flights
length_kept [] = refl
length_kept (x ∷ xs) = ap suc (length_kept xs)

pub filter_count : (test : CountedFlight → Bool) (flights : List InFlight)
    → length (filter test (map kept flights)) ≡ length (filter (λ flight. test (kept flight)) flights)
filter_count test flights = ap length (filter_kept test flights) ∙ length_kept (filter (λ flight. test (kept flight)) flights)

pub any_kept : (test : CountedFlight → Bool) (flights : List InFlight)
    → list_any test (map kept flights) ≡ list_any (λ flight. test (kept flight)) flights
any_kept test [] = refl
any_kept test (x ∷ xs) = ap (λ b. test (kept x) || b) (any_kept test xs)

pub take_while_kept : (test : CountedFlight → Bool) (flights : List InFlight)
    → take_while test (map kept flights) ≡ map kept (take_while (λ flight. test (kept flight)) flights)
take_while_kept test [] = refl
take_while_kept test (x ∷ xs) =
    take_while-cons test (kept x) (map kept xs) ∙ go (test (kept x)) (take_while_kept test xs)
    ∙ ap (map kept) (sym (take_while-cons (λ flight. test (kept flight)) x xs))
  where
    go : (b : Bool) → take_while test (map kept xs) ≡ map kept (take_while (λ flight. test (kept flight)) xs)
        → cond b (kept x ∷ take_while test (map kept xs)) []
        ≡ map kept (cond b (x ∷ take_while (λ flight. test (kept flight)) xs) [])
    go true rest = ap (λ l. kept x ∷ l) rest
    go false rest = refl

-- what is passed over, and passes no test, says nothing of the rest
pub passed_over : (test passes : CountedFlight → Bool) (flight : CountedFlight) (rest : List CountedFlight)
    → passes flight ≡ true → test flight ≡ false
    → list_any test (take_while passes rest) ≡ list_any test (take_while passes (flight ∷ rest))
passed_over test passes flight rest passed fails =
    let whole : take_while passes (flight ∷ rest) ≡ flight ∷ take_while passes rest =
    take_while-cons passes flight rest ∙ ap (λ b. cond b (flight ∷ take_while passes rest) []) passed in
    sym (ap (list_any test) whole ∙ ap (λ b. b || list_any test (take_while passes rest)) fails)

-- whether one was found is whether there is one
pub found_any : (test : InFlight → Bool) (flights : List InFlight) → is_some (find test flights) ≡ list_any test flights
found_any test [] = refl
found_any test (x ∷ xs) = go (test x) (found_any test xs)
  where
    go : (b : Bool) → is_some (find test xs) ≡ list_any test xs
        → is_some (cond b (Some x) (find test xs)) ≡ (b || list_any test xs)
    go true rest = refl
    go false rest = rest

-- ---- one place after the other

-- the first places are changed
abbrev pub upto : (InFlight → InFlight) → List InFlight → ℕ → List InFlight
upto change [] n = []
upto change (x ∷ xs) zero = x ∷ xs
upto change (x ∷ xs) (suc n) = change x ∷ upto change xs n

pub upto_none : (change : InFlight → InFlight) (flights : List InFlight) → upto change flights 0 ≡ flights
upto_none change [] = refl
upto_none change (x ∷ xs) = refl

-- one place more is changed
pub upto_more : (change : InFlight → InFlight) (flights : List InFlight) (n : ℕ) (old new : CountedFlight)
    → slice_get (map kept (upto change flights n)) n ≡ Some old
    → ((flight : InFlight) → old ≡ kept flight → new ≡ kept (change flight))
    → slice_set (map kept (upto change flights n)) n new ≡ map kept (upto change flights (n + 1))
upto_more change [] n old new there changes = absurd (cc)
upto_more change (x ∷ xs) zero old new there changes =
    let same : old ≡ kept x = same_Some old (kept x) (sym there) in
    let one : upto change (x ∷ xs) (0 + 1) ≡ change x ∷ xs = ap (λ l. change x ∷ l) (upto_none change xs) in
    ap (λ f. f ∷ map kept xs) (changes x same) ∙ sym (ap (map kept) one)
upto_more change (x ∷ xs) (suc n) old new there changes =
    let next : suc n + 1 ≡ suc (n + 1) = omega arith in
    ap (λ l. kept (change x) ∷ l) (upto_more change xs n old new there changes)
    ∙ ap (λ k. map kept (upto change (x ∷ xs) k)) (sym next)

-- the first places are all of them
upto_past : (change : InFlight → InFlight) (flights : List InFlight) (n : ℕ) → length flights ≤ n
    → upto change flights n ≡ map change flights
upto_past change [] n past = refl
upto_past change (x ∷ xs) zero past = absurd (omega (arith, past))
upto_past change (x ∷ xs) (suc n) past = ap (λ l. change x ∷ l) (upto_past change xs n (omega (arith, past)))

-- ---- what is kept, place by place

pub grow_first : (change : InFlight → InFlight) (before : List InFlight) (items : List CountedFlight) → items ≡ map kept before
    → items ≡ map kept (upto change before 0)
grow_first change before items is = is ∙ ap (map kept) (sym (upto_none change before))

length_upto : (change : InFlight → InFlight) (flights : List InFlight) (n : ℕ) → length (upto change flights n) ≡ length flights
length_upto change [] n = refl
length_upto change (x ∷ xs) zero = refl
length_upto change (x ∷ xs) (suc n) = ap suc (length_upto change xs n)

pub grow_more : (change : InFlight → InFlight) (before : List InFlight) (n : ℕ) (old items : List CountedFlight) (new d : CountedFlight)
    → old ≡ map kept before → items ≡ map kept (upto change before n) → n < length old
    → ((flight : InFlight) → get_or items n d ≡ kept flight → new ≡ kept (change flight))
    → slice_set items n new ≡ map kept (upto change before (n + 1))
grow_more change before n old items new d was is within changes =
    let long : length old ≡ length before = ap length was ∙ length_kept before in
    let same : length items ≡ length before =
    ap length is ∙ length_kept (upto change before n) ∙ length_upto change before n in
    ap (λ l. slice_set l n new) is
    ∙ upto_more change before n (get_or items n d) new
    (subst (λ l. slice_get l n ≡ Some (get_or items n d)) is
    (slice_get-get_or items n d (omega (arith, long, same, within)))) changes

pub grow_all : (change : InFlight → InFlight) (before : List InFlight) (n : ℕ) (old items : List CountedFlight)
    → old ≡ map kept before → length old ≤ n → items ≡ map kept (upto change before n) → items ≡ map kept (map change before)
grow_all change before n old items was past is =
    let long : length old ≡ length before = ap length was ∙ length_kept before in
    is ∙ ap (map kept) (upto_past change before n (omega (arith, long, past)))

-- ---- contests

abbrev pub no_flight : InFlight
no_flight = record {
  wide = 0;
  master = 0;
  source = 0;
  port = 0;
  first = record { opcode = 0; param = 0; size = 0; source = 0; address = 0; mask = 0; corrupt = false };
  is_found = false;
  place = None;
  given = [];
  is_whole = false;
}

abbrev pub not_kept : CountedFlight
not_kept = record {
  wide = 0;
  master = 0;
  source = 0;
  port = 0;
  first = record { opcode = 0; param = 0; size = 0; source = 0; address = 0; mask = 0; corrupt = false };
  span = 0;
  is_unaligned = false;
  is_found = false;
  place = None;
  marks = record { places = 0; given = 0; low = false; high = false; even = false; odd = false };
  is_whole = false;
}

module _ (test : InFlight → Bool) (before : List InFlight) (flights : List CountedFlight) (is : flights ≡ map kept before)
    (i : ℕ) (d : CountedFlight) where
  within_before : i < length flights → i < length before
  within_before within =
      let long : length flights ≡ length before = ap length is ∙ length_kept before in omega (arith, long, within)

  at_kept : i < length flights → get_or flights i d ≡ kept (get_or before i no_flight)
  at_kept within = ap (λ l. get_or l i d) is ∙ get_or-map kept before i no_flight d (within_before within)

  pub none_more : i < length flights → list_any test (take i before) ≡ false
      → test (get_or before i no_flight) ≡ false → list_any test (take (i + 1) before) ≡ false
  none_more within none fails =
      list_any_more test before i no_flight (within_before within)
      ∙ or_from (list_any test (take i before)) (test (get_or before i no_flight)) none fails

  pub some_here : i < length flights → test (get_or before i no_flight) ≡ true → true ≡ list_any test before
  some_here within passes = sym (list_any_at test before i no_flight (within_before within) passes)

  pub none_of : length flights ≤ i → list_any test (take i before) ≡ false → false ≡ list_any test before
  none_of past none =
      let long : length flights ≡ length before = ap length is ∙ length_kept before in
      sym none ∙ ap (list_any test) (take_all i before (omega (arith, long, past)))

  -- what a test of the one that is kept answered is what the test answers
  pub told : (answer : Bool) → i < length flights
      → ((rival : InFlight) → get_or flights i d ≡ kept rival → answer ≡ test rival)
      → answer ≡ test (get_or before i no_flight)
  told answer within tells = tells (get_or before i no_flight) (at_kept within)
