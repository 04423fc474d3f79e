-- What the loop over hexadecimal digits leads to.
use Rattle.std.proofs.Common.{◌≡◌, ◌∙◌, ℕ, zero, suc, ◌+◌, ◌-◌, ◌*◌, ◌^◌, ◌<◌, ◌≤◌, true, false, List, length, get_or, take, Ok, Err, refl, ap, arith}
use Rattle.std.proofs.Math.Nat.{pow-succ'}
use Rattle.std.proofs.lemmas.Bool.{and_from, lt-ltb}
use Rattle.std.proofs.lemmas.Int.Digits.{digits_value_more}
use Rattle.std.proofs.lemmas.List.Folds.{list_all_at, list_all_more}
use Rattle.std.specs.Char.{digit_value, is_digit}
use Rattle.std.specs.List.{list_all}
use Rattle.std.specs.Str.Parse.{digits_value}
use Rattle.check_rows.proofs.Digits.{code-known, digit-known}
use Rattle.check_rows.specs.Digit.{digit_code}
use Rattle.check_rows.specs.Number.{hex_of}
use Rattle.check_rows.specs.declared.fault.RowFault.TheVariants.{Number}

-- a longer number has more room
more_room : (k i : ℕ) → 16 ^ i ≤ 16 ^ (k + i)
more_room zero i = let none : 0 + i ≡ i = omega arith in rw none (omega arith)
more_room (suc k) i =
    let one : suc k + i ≡ suc (k + i) = omega arith in
    let next : 16 ^ (suc k + i) ≡ 16 * 16 ^ (k + i) = ap (λ (n : ℕ). 16 ^ n) one ∙ pow-succ' 16 (k + i) in
    omega (arith, next, more_room k i)

-- a digit more has room in 64 bits
pub room : (i : ℕ) → i < 16 → 16 ^ i ≤ 16 ^ 15
room i within = let all : 15 - i + i ≡ 15 = omega (arith, within) in rw all at (more_room (15 - i) i)

pub one_digit_more : (i value code : ℕ) → value < 16 ^ i → code < 16 → 16 * value + code < 16 ^ (i + 1)
one_digit_more i value code small digit =
    let next : 16 ^ (i + 1) ≡ 16 * 16 ^ i = ap (λ (n : ℕ). 16 ^ n) (let e : i + 1 ≡ suc i = omega arith in e) ∙ pow-succ' 16 i in
    omega (arith, next, small, digit)

pub hex_of-digits : (word : List ℕ) → 0 < length word → list_all (λ c. is_digit c 16) word ≡ true
    → hex_of word ≡ Ok (digits_value 16 word)
unfolding hex_of
hex_of-digits word some all = rw (lt-ltb 0 (length word) some, all) refl

pub hex_of-none : (word : List ℕ) (i : ℕ) → i < length word → is_digit (get_or word i 0) 16 ≡ false
    → hex_of word ≡ Err Number
unfolding hex_of
hex_of-none word i inside none =
    rw (lt-ltb 0 (length word) (omega (arith, inside)), list_all_at (λ (c : ℕ). is_digit c 16) word i 0 inside none) refl

-- ---- one digit more

-- the digit at a place has this number
pub record IsDigitAt (word : List ℕ) (i code : ℕ) : Type 0 where
  pub inside : i < length word
  pub is : code ≡ digit_code (get_or word i 0)
  pub small : code < 16

is_digit_at : (word : List ℕ) (i code : ℕ) → IsDigitAt word i code → is_digit (get_or word i 0) 16 ≡ true
is_digit_at word i code h = digit-known (get_or word i 0) (rw (← h.is) h.small)

pub digits_step : (word : List ℕ) (i code : ℕ) → IsDigitAt word i code
    → list_all (λ c. is_digit c 16) (take i word) ≡ true → list_all (λ c. is_digit c 16) (take (i + 1) word) ≡ true
digits_step word i code h before =
    list_all_more (λ (c : ℕ). is_digit c 16) word i 0 h.inside
    ∙ and_from (list_all (λ c. is_digit c 16) (take i word)) (is_digit (get_or word i 0) 16) before
    (is_digit_at word i code h)

pub value_step : (word : List ℕ) (i value code : ℕ) → IsDigitAt word i code
    → value ≡ digits_value 16 (take i word) → 16 * value + code ≡ digits_value 16 (take (i + 1) word)
value_step word i value code h before =
    let digit : code ≡ digit_value (get_or word i 0) =
    h.is ∙ code-known (get_or word i 0) (rw (← h.is) h.small) in
    let more = digits_value_more 16 word i h.inside in
    omega (arith, digit, more, before)
