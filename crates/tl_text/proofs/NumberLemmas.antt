-- What the loop over the digits of a number leads to.
use Rattle.std.proofs.Common.{◌≡◌, ◌∙◌, ℕ, zero, suc, ◌+◌, ◌-◌, ◌*◌, ◌/◌, ◌%◌, ◌^◌, ◌<◌, ◌≤◌, ◌==◌, Bool, true, false, cond, List, [], ◌∷◌, length, Some, arith, refl, ap}
use Rattle.std.proofs.Math.Nat.{pow-succ'}
use Rattle.std.proofs.lemmas.Bool.Decides.{nat_tests}
use Rattle.std.specs.Char.{is_digit}
use Rattle.std.specs.Fmt.{digit_glyph, digits, digits_onto}
use Rattle.std.specs.List.{list_all}
use Rattle.std.specs.Str.Parse.{AllDigits, digits_value}
use Rattle.tl_text.specs.Number.{below_64_bits, digits_of}

list_all-digits : (radix : ℕ) (word : List ℕ) → AllDigits radix word → list_all (λ c. is_digit c radix) word ≡ true
list_all-digits radix [] all = refl
list_all-digits radix (c ∷ cs) all = grind (arith, nat_tests, list_all-digits radix cs all.1)

-- all of the digits
pub digits_of-digits : (radix : ℕ) (word : List ℕ) → AllDigits radix word → 0 < length word
    → digits_of radix word ≡ Some (below_64_bits (digits_value radix word))
digits_of-digits radix word all some =
    let digits = list_all-digits radix word all in
    grind (arith, nat_tests)

-- ---- hexadecimal digits, the last one first

-- a number of more than one digit has room in more than one
pub one_more : (n first : ℕ) → 16 ≤ n → n < 16 ^ (first + 1) → 1 ≤ first
one_more n zero large small = absurd (omega (arith, large, small))
one_more n (suc first) large small = omega arith

-- a sixteenth of a number has room in a digit less
pub sixteenth : (n first : ℕ) → 16 ≤ n → n < 16 ^ (first + 1) → n / 16 < 16 ^ (first - 1 + 1)
sixteenth n zero large small = absurd (omega (arith, large, small))
sixteenth n (suc first) large small =
    let next : suc first + 1 ≡ suc (first + 1) = omega arith in
    let more : 16 ^ (suc first + 1) ≡ 16 * 16 ^ (first + 1) = rw next (pow-succ' 16 (first + 1)) in
    let same : suc first - 1 + 1 ≡ first + 1 = omega arith in
    rw same (let bound : n < 16 * 16 ^ (first + 1) = rw (← more) small in omega (arith, bound))

pub hex_none : (n : ℕ) → digits_onto 64 16 false n [] ≡ digits 16 false n
unfolding digits
hex_none n = refl

pub hex_more : (k n : ℕ) (behind : List ℕ) → 16 ≤ n
    → digits_onto (suc k) 16 false n behind ≡ digits_onto k 16 false (n / 16) (digit_glyph false (n % 16) ∷ behind)
hex_more k n behind large =
    let more : (n / 16 == 0) ≡ false = grind (arith, nat_tests) in
    ap (λ (last : Bool). cond last (digit_glyph false (n % 16) ∷ behind)
    (digits_onto k 16 false (n / 16) (digit_glyph false (n % 16) ∷ behind))) more

pub hex_last : (k n : ℕ) (behind : List ℕ) → n < 16
    → digits_onto (suc k) 16 false n behind ≡ digit_glyph false n ∷ behind
hex_last k n behind small =
    let last : (n / 16 == 0) ≡ true = grind (arith, nat_tests) in
    let whole : n % 16 ≡ n = omega arith in
    ap (λ (t : Bool). cond t (digit_glyph false (n % 16) ∷ behind)
    (digits_onto k 16 false (n / 16) (digit_glyph false (n % 16) ∷ behind))) last
    ∙ ap (λ (d : ℕ). digit_glyph false d ∷ behind) whole
