-- Bytes that are given or not, as one more comes.
use Rattle.std.proofs.Common.{◌≡◌, ◌∙◌, ℕ, zero, suc, ◌+◌, ◌-◌, ◌*◌, ◌%◌, ◌^◌, ◌<◌, ◌≤◌, Bool, true, false, ◌&&◌, List, [], ◌∷◌, ◌++◌, length, length-append, append_assoc, take, refl, ap, sym, arith}
use Rattle.std.specs.Prelude.{if◌then◌else◌, not, nat_lt, ◌==◌}
use Rattle.std.specs.Bool.{beq}
use Rattle.std.specs.Cmp.{both_ways}
use Rattle.std.proofs.Math.Nat.{mod-eq_of_lt}
use Rattle.std.proofs.lemmas.List.FromFn.{map-range_with_len_more}
use Rattle.std.specs.Int.{bit_at}
use Rattle.std.proofs.lemmas.Bool.{lt-ltb, ltb-true}
use Rattle.check_coverage.specs.declared.marks.Marks.{Marks}
use Rattle.check_coverage.specs.Shape.{sized_bytes, count_given, fits, is_even, is_low, lanes_given, marks_in, marks_of}

-- ---- the first of them

take_nil : (n : ℕ) → ◌≡◌ {A = List Bool} (take n []) []
take_nil zero = refl
take_nil (suc n) = refl

take_short : (n : ℕ) (xs : List Bool) (x : Bool) → length (take n xs) < n → take n (xs ++ x ∷ []) ≡ take n xs ++ x ∷ []
take_short zero xs x lt = absurd (omega (arith, lt))
take_short (suc n) [] x lt = ap (λ l. x ∷ l) (take_nil n)
take_short (suc n) (y ∷ xs) x lt = ap (λ l. y ∷ l) (take_short n xs x (omega (arith, lt)))

take_full : (n : ℕ) (xs : List Bool) (x : Bool) → n ≤ length (take n xs) → take n (xs ++ x ∷ []) ≡ take n xs
take_full zero xs x le = refl
take_full (suc n) [] x le = absurd (omega (arith, le))
take_full (suc n) (y ∷ xs) x le = ap (λ l. y ∷ l) (take_full n xs x (omega (arith, le)))

pub take_at_most : (n : ℕ) (xs : List Bool) → length (take n xs) ≤ n
take_at_most zero xs = omega arith
take_at_most (suc n) [] = omega arith
take_at_most (suc n) (y ∷ xs) = let h = take_at_most n xs in omega (arith, h)

-- ---- counts

pub count_at_most : (xs : List Bool) → count_given xs ≤ length xs
count_at_most [] = omega arith
count_at_most (true ∷ xs) = let h = count_at_most xs in omega (arith, h)
count_at_most (false ∷ xs) = let h = count_at_most xs in omega (arith, h)

count_true : (xs : List Bool) → count_given (xs ++ true ∷ []) ≡ count_given xs + 1
count_true [] = refl
count_true (true ∷ xs) = ap (λ n. n + 1) (count_true xs)
count_true (false ∷ xs) = count_true xs

count_false : (xs : List Bool) → count_given (xs ++ false ∷ []) ≡ count_given xs
count_false [] = refl
count_false (true ∷ xs) = ap (λ n. n + 1) (count_false xs)
count_false (false ∷ xs) = count_false xs

-- ---- patterns

and_true : (b : Bool) → (b && true) ≡ b
and_true true = refl
and_true false = refl

and_assoc : (a b c : Bool) → (a && (b && c)) ≡ ((a && b) && c)
and_assoc true b c = refl
and_assoc false b c = refl

fits_more : (places : ℕ → Bool) (n : ℕ) (xs : List Bool) (x : Bool) (at : ℕ) → at ≡ n + length xs
    → fits places n (xs ++ x ∷ []) ≡ (fits places n xs && beq x (places at))
fits_more places n [] x at is =
    let here : at ≡ n = omega (arith, is) in and_true (beq x (places n)) ∙ ap (λ k. beq x (places k)) (sym here)
fits_more places n (y ∷ xs) x at is =
    ap (λ b. beq y (places n) && b) (fits_more places (suc n) xs x at (omega (arith, is)))
    ∙ and_assoc (beq y (places n)) (fits places (suc n) xs) (beq x (places at))

-- ---- what is kept

pub marks_none : (size : ℕ) → marks_in size [] ≡ marks_of size []
marks_none size = ap (marks_in size) (sym (take_nil (2 ^ size)))

-- one byte more
marks_push : (size : ℕ) (old : List Bool) (x low even : Bool) (more : ℕ)
    → low ≡ is_low size (length old) → even ≡ is_even (length old) → more ≡ count_given (old ++ x ∷ [])
    → record {
      places = length old + 1;
      given = more;
      low = fits (is_low size) 0 old && beq x low;
      high = fits (λ place. not (is_low size place)) 0 old && beq x (not low);
      even = fits is_even 0 old && beq x even;
      odd = fits (λ place. not (is_even place)) 0 old && beq x (not even);
    } ≡ marks_in size (old ++ x ∷ [])
marks_push size old x low even more is_l is_e is_m =
    let at : length old ≡ 0 + length old = omega arith in
    let l = fits_more (is_low size) 0 old x (length old) at in
    let h = fits_more (λ place. not (is_low size place)) 0 old x (length old) at in
    let e = fits_more is_even 0 old x (length old) at in
    let o = fits_more (λ place. not (is_even place)) 0 old x (length old) at in
    λ i. record {
      places = sym (length-append old (x ∷ [])) i;
      given = is_m i;
      low = (ap (λ b. fits (is_low size) 0 old && beq x b) is_l ∙ sym l) i;
      high = (ap (λ b. fits (λ place. not (is_low size place)) 0 old && beq x (not b)) is_l ∙ sym h) i;
      even = (ap (λ b. fits is_even 0 old && beq x b) is_e ∙ sym e) i;
      odd = (ap (λ b. fits (λ place. not (is_even place)) 0 old && beq x (not b)) is_e ∙ sym o) i;
    }

-- if there is room for it
pub marks_more : (size : ℕ) (bytes : List Bool) (x low even : Bool) (more : ℕ) → length (sized_bytes size bytes) < 2 ^ size
    → low ≡ is_low size (length (sized_bytes size bytes)) → even ≡ is_even (length (sized_bytes size bytes))
    → more ≡ count_given (sized_bytes size bytes ++ x ∷ [])
    → record {
      places = length (sized_bytes size bytes) + 1;
      given = more;
      low = (marks_of size bytes).low && beq x low;
      high = (marks_of size bytes).high && beq x (not low);
      even = (marks_of size bytes).even && beq x even;
      odd = (marks_of size bytes).odd && beq x (not even);
    } ≡ marks_of size (bytes ++ x ∷ [])
marks_more size bytes x low even more room is_l is_e is_m =
    marks_push size (sized_bytes size bytes) x low even more is_l is_e is_m
    ∙ ap (marks_in size) (sym (take_short (2 ^ size) bytes x room))

-- and nothing, if there is none
pub marks_same : (size : ℕ) (bytes : List Bool) (x : Bool) → 2 ^ size ≤ length (sized_bytes size bytes)
    → marks_of size bytes ≡ marks_of size (bytes ++ x ∷ [])
marks_same size bytes x full = ap (marks_in size) (sym (take_full (2 ^ size) bytes x full))

pub count_more : (xs : List Bool) (x : Bool) (n : ℕ) → n ≡ count_given xs → (if x then n + 1 else n) ≡ count_given (xs ++ x ∷ [])
count_more xs true n is = ap (λ k. k + 1) is ∙ sym (count_true xs)
count_more xs false n is = is ∙ sym (count_false xs)

low_is : (size span place : ℕ) → span ≡ 2 ^ size → place < span → nat_lt place (span - place) ≡ is_low size place
low_is size span place is lt =
    ap (λ n. nat_lt place (n - place)) is
    ∙ both_ways (nat_lt place (2 ^ size - place)) (nat_lt (place * 2) (2 ^ size))
    (λ t. let h = ltb-true place (2 ^ size - place) t in lt-ltb (place * 2) (2 ^ size) (omega (arith, h)))
    (λ t. let h = ltb-true (place * 2) (2 ^ size) t in lt-ltb place (2 ^ size - place) (omega (arith, h)))

-- what is kept of a request that has a byte more
pub added_marks : (size : ℕ) (bytes : List Bool) (span : ℕ) (x : Bool) (was : Marks) → span ≡ 2 ^ size
    → was ≡ marks_of size bytes → span < 2 ^ 64 → was.places < span
    → (l h e o : Bool) (g : ℕ)
    → l ≡ (was.low && beq x (nat_lt was.places (span - was.places)))
    → h ≡ (was.high && beq x (not (nat_lt was.places (span - was.places))))
    → e ≡ (was.even && beq x (was.places % 2 == 0)) → o ≡ (was.odd && beq x (not (was.places % 2 == 0)))
    → g ≡ (if x then (was.given + 1) % 2 ^ 64 else was.given)
    → record { places = was.places + 1; given = g; low = l; high = h; even = e; odd = o } ≡ marks_of size (bytes ++ x ∷ [])
added_marks size bytes span x was is_span is small room l h e o g is_l is_h is_e is_o is_g =
    let old = sized_bytes size bytes in
    let places : was.places ≡ length old = ap (λ m. m.places) is in
    let given : was.given ≡ count_given old = ap (λ m. m.given) is in
    let few : count_given old ≤ length old = count_at_most old in
    let fits : was.given + 1 < 2 ^ 64 = omega (arith, places, given, few, room, small) in
    let low : nat_lt was.places (span - was.places) ≡ is_low size (length old) =
    low_is size span was.places is_span room ∙ ap (is_low size) places in
    let even : (was.places % 2 == 0) ≡ is_even (length old) = ap is_even places in
    let more : g ≡ count_given (old ++ x ∷ []) =
    is_g ∙ ap (λ n. if x then n else was.given) (mod-eq_of_lt fits) ∙ count_more old x was.given given in
    (λ i. record {
      places = places i + 1;
      given = g;
      low = (is_l ∙ ap (λ (m : Marks). m.low && beq x (nat_lt was.places (span - was.places))) is) i;
      high = (is_h ∙ ap (λ (m : Marks). m.high && beq x (not (nat_lt was.places (span - was.places)))) is) i;
      even = (is_e ∙ ap (λ (m : Marks). m.even && beq x (was.places % 2 == 0)) is) i;
      odd = (is_o ∙ ap (λ (m : Marks). m.odd && beq x (not (was.places % 2 == 0))) is) i;
    })
    ∙ marks_more size bytes x (nat_lt was.places (span - was.places)) (was.places % 2 == 0) g
    (let r : length old < 2 ^ size = omega (arith, places, room, is_span) in r) low even more

-- and of one that has no room for it
pub full_marks : (size : ℕ) (bytes : List Bool) (span : ℕ) (x : Bool) (was : Marks) → span ≡ 2 ^ size
    → was ≡ marks_of size bytes → span ≤ was.places → was ≡ marks_of size (bytes ++ x ∷ [])
full_marks size bytes span x was is_span is full =
    let places : was.places ≡ length (sized_bytes size bytes) = ap (λ m. m.places) is in
    is ∙ marks_same size bytes x (omega (arith, places, full, is_span))

-- one lane more of a beat
pub lanes_more : (bytes : List Bool) (mask first k : ℕ) (x : Bool) → x ≡ (bit_at mask (first + k) == 1)
    → (bytes ++ lanes_given mask first k) ++ x ∷ [] ≡ bytes ++ lanes_given mask first (k + 1)
lanes_more bytes mask first k x is =
    append_assoc bytes (lanes_given mask first k) (x ∷ [])
    ∙ ap (λ b. bytes ++ (lanes_given mask first k ++ b ∷ [])) is
    ∙ ap (λ l. bytes ++ l) (sym (map-range_with_len_more (λ lane. bit_at mask (first + lane) == 1) 0 k k (omega arith)))
