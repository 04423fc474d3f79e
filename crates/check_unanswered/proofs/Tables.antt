-- Tables of requests in flight: how many there are, of which wide sources, and the oldest.
use Rattle.std.proofs.Common.{◌≡◌, ◌∙◌, ℕ, zero, suc, ◌+◌, ◌<◌, ◌≤◌, ◌⊎◌, inl, inr, List, [], ◌∷◌, ◌++◌, length, length-append, Contains, Option, Some, None, map, refl, ap, sym, subst, arith}
use Rattle.std.specs.Prelude.{slice_index, slice_set, unwrap_or}
use Rattle.std.specs.List.Sorted.{IsStrictlyIncreasing}
use Rattle.std.proofs.lemmas.List.Elements.{All-contains_itself, Contains-append_left, Contains-append_right, Contains-append_cases}
use Rattle.tl_types.proofs.Lists.{slice_get-set_same, slice_get-set_other}
use Rattle.check_rows.specs.declared.request.Open.{Open}
use Rattle.check_unanswered.specs.Table.{IsOldestOf, open_at, opens}

-- ---- elements

here : {X : Type 0} (x : X) (rest : List X) → Contains (x ∷ rest) x
here x rest = (0, omega arith, refl)

there : {X : Type 0} (y : X) (rest : List X) (x : X) → Contains rest x → Contains (y ∷ rest) x
there y rest x inside = Contains-append_right (y ∷ []) rest x inside

only : {X : Type 0} (y x : X) → Contains (y ∷ []) x → y ≡ x
only y x (zero, lt, is) = is
only y x (suc k, lt, is) = absurd (omega (arith, lt))

-- ---- all requests

pub opens-append : (xs ys : List (Option Open)) → opens (xs ++ ys) ≡ opens xs ++ opens ys
opens-append [] ys = refl
opens-append (None ∷ xs) ys = opens-append xs ys
opens-append (Some ask ∷ xs) ys = ap (λ l. ask ∷ l) (opens-append xs ys)

pub opens-none : (xs : List (Option Open)) → opens (xs ++ None ∷ []) ≡ opens xs
opens-none [] = refl
opens-none (None ∷ xs) = opens-none xs
opens-none (Some ask ∷ xs) = ap (λ l. ask ∷ l) (opens-none xs)

pub counted_more : (before : List (Option Open)) (ask : Option Open) (n more : ℕ)
    → more ≡ n + length (opens (ask ∷ [])) → n ≡ length (opens before) → more ≡ length (opens (before ++ ask ∷ []))
counted_more before ask n more is counted =
    is ∙ ap (λ k. k + length (opens (ask ∷ []))) counted ∙ sym (length-append (opens before) (opens (ask ∷ [])))
    ∙ ap length (sym (opens-append before (ask ∷ [])))

pub few_more : (ask : Option Open) (n more i : ℕ) → more ≡ n + length (opens (ask ∷ [])) → n ≤ i → more ≤ i + 1
few_more None n more i is few = omega (arith, is, few)
few_more (Some ask) n more i is few = omega (arith, is, few)

pub opens_at : (table : List (Option Open)) (wide : ℕ) (ask : Open) → open_at table wide ≡ Some ask
    → Contains (opens table) ask
opens_at [] wide ask is = absurd (cc)
opens_at (None ∷ rest) zero ask is = absurd (cc)
opens_at (None ∷ rest) (suc wide) ask is = opens_at rest wide ask is
opens_at (Some first ∷ rest) zero ask is =
    let same : first ≡ ask = cc in subst (λ o. Contains (first ∷ opens rest) o) same (here first (opens rest))
opens_at (Some first ∷ rest) (suc wide) ask is = there first (opens rest) ask (opens_at rest wide ask is)

pub at_opens : (table : List (Option Open)) (ask : Open) → Contains (opens table) ask
    → (wide : ℕ) × (open_at table wide ≡ Some ask)
at_opens [] ask (k, lt, is) = absurd (omega (arith, lt))
at_opens (None ∷ rest) ask inside = let found = at_opens rest ask inside in (suc found.0, found.1)
at_opens (Some first ∷ rest) ask inside =
    go (Contains-append_cases (first ∷ []) (opens rest) ask inside) (at_opens rest ask)
  where
    go : Contains (first ∷ []) ask ⊎ Contains (opens rest) ask
        → (Contains (opens rest) ask → (wide : ℕ) × (open_at rest wide ≡ Some ask))
        → (wide : ℕ) × (open_at (Some first ∷ rest) wide ≡ Some ask)
    go (inl is) later = (0, ap (λ o. Some o) (only first ask is))
    go (inr is) later = let found = later is in (suc found.0, found.1)

pub none_at : (table : List (Option Open)) (wide : ℕ) → opens table ≡ [] → open_at table wide ≡ None
none_at [] wide none = refl
none_at (None ∷ rest) zero none = refl
none_at (None ∷ rest) (suc wide) none = none_at rest wide none
none_at (Some first ∷ rest) wide none = absurd (cc)

-- ---- the wide sources of those in flight, where the first place has this number

abbrev pub wides_from : ℕ → List (Option Open) → List ℕ
wides_from n [] = []
wides_from n (None ∷ rest) = wides_from (n + 1) rest
wides_from n (Some ask ∷ rest) = n ∷ wides_from (n + 1) rest

pub length-wides : (n : ℕ) (table : List (Option Open)) → length (wides_from n table) ≡ length (opens table)
length-wides n [] = refl
length-wides n (None ∷ rest) = length-wides (n + 1) rest
length-wides n (Some ask ∷ rest) = let h = length-wides (n + 1) rest in omega (arith, h)

next : (n k : ℕ) → n + 1 + k ≡ n + suc k
next n k = omega arith

pub wides_at : (n : ℕ) (table : List (Option Open)) (k : ℕ) (ask : Open) → open_at table k ≡ Some ask
    → Contains (wides_from n table) (n + k)
wides_at n [] k ask is = absurd (cc)
wides_at n (None ∷ rest) zero ask is = absurd (cc)
wides_at n (None ∷ rest) (suc k) ask is =
    subst (λ m. Contains (wides_from (n + 1) rest) m) (next n k) (wides_at (n + 1) rest k ask is)
wides_at n (Some first ∷ rest) zero ask is =
    subst (λ m. Contains (n ∷ wides_from (n + 1) rest) m) (omega arith) (here n (wides_from (n + 1) rest))
wides_at n (Some first ∷ rest) (suc k) ask is =
    there n (wides_from (n + 1) rest) (n + suc k)
    (subst (λ m. Contains (wides_from (n + 1) rest) m) (next n k) (wides_at (n + 1) rest k ask is))

pub record IsAt (n : ℕ) (table : List (Option Open)) (wide : ℕ) : Type 0 where
  pub k : ℕ
  pub ask : Open
  pub far : wide ≡ n + k
  pub is : open_at table k ≡ Some ask

onward : (n : ℕ) (first : Option Open) (rest : List (Option Open)) (wide : ℕ) → IsAt (n + 1) rest wide
    → IsAt n (first ∷ rest) wide
onward n first rest wide at =
    record { k = suc at.k; ask = at.ask; far = at.far ∙ next n at.k; is = at.is }

pub at_wides : (n : ℕ) (table : List (Option Open)) (wide : ℕ) → Contains (wides_from n table) wide
    → IsAt n table wide
at_wides n [] wide (k, lt, is) = absurd (omega (arith, lt))
at_wides n (None ∷ rest) wide inside = onward n None rest wide (at_wides (n + 1) rest wide inside)
at_wides n (Some first ∷ rest) wide inside =
    go (Contains-append_cases (n ∷ []) (wides_from (n + 1) rest) wide inside) (at_wides (n + 1) rest wide)
  where
    go : Contains (n ∷ []) wide ⊎ Contains (wides_from (n + 1) rest) wide
        → (Contains (wides_from (n + 1) rest) wide → IsAt (n + 1) rest wide) → IsAt n (Some first ∷ rest) wide
    go (inl is) later =
        let same = only n wide is in record { k = 0; ask = first; far = omega (arith, same); is = refl }
    go (inr is) later = onward n (Some first) rest wide (later is)

rising_cons : (n : ℕ) (rest : List ℕ) → ((k : ℕ) → k < length rest → n < slice_index rest k)
    → IsStrictlyIncreasing rest → IsStrictlyIncreasing (n ∷ rest)
rising_cons n rest above up zero within = above 0 (omega (arith, within))
rising_cons n rest above up (suc k) within =
    let shifted : suc (k + 1) ≡ suc k + 1 = omega arith in
    subst (λ m. slice_index (n ∷ rest) (suc k) < slice_index (n ∷ rest) m) shifted (up k (omega (arith, within)))

pub rising_wides : (n : ℕ) (table : List (Option Open)) → IsStrictlyIncreasing (wides_from n table)
rising_wides n [] = λ k within. absurd (omega (arith, within))
rising_wides n (None ∷ rest) = rising_wides (n + 1) rest
rising_wides n (Some first ∷ rest) =
    rising_cons n (wides_from (n + 1) rest)
    (λ k lt.
    let wides = wides_from (n + 1) rest in
    let at = at_wides (n + 1) rest (slice_index wides k) (All-contains_itself wides k 0 lt) in
    let far = at.far in
    omega (arith, far)) (rising_wides (n + 1) rest)

-- ---- the oldest

pub oldest_of_one : (before : List Open) (ask : Open) → before ≡ [] → IsOldestOf (before ++ ask ∷ []) (Some ask)
oldest_of_one [] ask none =
    (here ask [], λ other inside. let same = only ask other inside in subst (λ o. ask.began.place ≤ o.began.place) same (omega arith))
oldest_of_one (first ∷ before) ask none = absurd (cc)

pub oldest_stays : (before : List Open) (first ask : Open) → IsOldestOf before (Some first)
    → first.began.place ≤ ask.began.place → IsOldestOf (before ++ ask ∷ []) (Some first)
oldest_stays before first ask is le = (
  Contains-append_left before (ask ∷ []) first is.0,
  λ other inside. go other (Contains-append_cases before (ask ∷ []) other inside),
)
  where
    go : (other : Open) → Contains before other ⊎ Contains (ask ∷ []) other
        → first.began.place ≤ other.began.place
    go other (inl inside) = is.1 other inside
    go other (inr inside) = subst (λ o. first.began.place ≤ o.began.place) (only ask other inside) le

pub oldest_comes : (before : List Open) (first ask : Open) → IsOldestOf before (Some first)
    → ask.began.place < first.began.place → IsOldestOf (before ++ ask ∷ []) (Some ask)
oldest_comes before first ask is lt = (
  Contains-append_right before (ask ∷ []) ask (here ask []),
  λ other inside. go other (Contains-append_cases before (ask ∷ []) other inside),
)
  where
    go : (other : Open) → Contains before other ⊎ Contains (ask ∷ []) other
        → ask.began.place ≤ other.began.place
    go other (inl inside) = let le = is.1 other inside in omega (arith, le, lt)
    go other (inr inside) =
        subst (λ o. ask.began.place ≤ o.began.place) (only ask other inside) (omega arith)

-- ---- one place set

pub set_here : (table : List (Option Open)) (wide : ℕ) (ask : Option Open) → wide < length table
    → open_at (slice_set table wide ask) wide ≡ ask
set_here table wide ask within = ap (λ o. unwrap_or o None) (slice_get-set_same table wide ask within)

pub set_other : (table : List (Option Open)) (wide other : ℕ) (ask : Option Open) → (wide ≡ other → ⊥)
    → open_at (slice_set table wide ask) other ≡ open_at table other
set_other table wide other ask apart = ap (λ o. unwrap_or o None) (slice_get-set_other table wide other ask apart)

pub set_none : (table : List (Option Open)) (wide : ℕ) → open_at (slice_set table wide None) wide ≡ None
set_none [] wide = refl
set_none (first ∷ rest) zero = refl
set_none (first ∷ rest) (suc wide) = set_none rest wide

pub none_more : (table : List (Option Open)) → ((wide : ℕ) → open_at table wide ≡ None) → (wide : ℕ)
    → open_at (table ++ None ∷ []) wide ≡ None
none_more [] none zero = refl
none_more [] none (suc wide) = refl
none_more (first ∷ rest) none zero = none 0
none_more (first ∷ rest) none (suc wide) = none_more rest (λ w. none (suc w)) wide

-- nothing is in flight of any
abbrev pub cleared : List (Option Open) → List (Option Open)
cleared table = map (λ (_ : Option Open). None) table

pub cleared_at : (table : List (Option Open)) (wide : ℕ) → open_at (cleared table) wide ≡ None
cleared_at [] wide = refl
cleared_at (first ∷ rest) zero = refl
cleared_at (first ∷ rest) (suc wide) = cleared_at rest wide
