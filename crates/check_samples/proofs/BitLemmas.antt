-- What the loop over the bits of a number leads to.
use Rattle.std.proofs.Common.{◌≡◌, ◌∙◌, ℕ, suc, ◌%◌, ◌&&◌, true, sym, ◌+◌, ◌*◌, ◌^◌, ◌<◌, ◌≤◌, Bool, cond, List, length, get_or, take, Option, Some, None, ap, arith, option_and_then, pow_mono}
use Rattle.std.proofs.Math.Nat.{pow-succ'}
use Rattle.std.proofs.lemmas.Bool.{and_parts, le-leb, lt-ltb, ltb-true}
use Rattle.std.proofs.lemmas.Bool.Decides.{nat_tests}
use Rattle.std.proofs.lemmas.List.Folds.{list_all_more}
use Rattle.std.specs.List.{list_all}
use Rattle.std.proofs.lemmas.Int.Digits.{digits_more, digits_value-lt, digits_value_more}
use Rattle.std.specs.Char.{digit_value, is_digit}
use Rattle.std.specs.Str.Parse.{AllDigits, digits_value}
use Rattle.tl_text.proofs.NumberLemmas.{digits_of-digits}
use Rattle.tl_text.specs.Number.{digits_of, number_of}

-- a bit more has room in 64 bits
pub room : (i : ℕ) → i < 64 → 2 ^ i ≤ 2 ^ 63
room i within = pow_mono (let most : i ≤ 63 = omega (arith, within) in most)

pub one_bit_more : (i value bit : ℕ) → value < 2 ^ i → bit < 2 → 2 * value + bit < 2 ^ (i + 1)
one_bit_more i value bit small below =
    let next : 2 ^ (i + 1) ≡ 2 * 2 ^ i = ap (λ (n : ℕ). 2 ^ n) (let e : i + 1 ≡ suc i = omega arith in e) ∙ pow-succ' 2 i in
    omega (arith, next, small, below)

-- the digit at a place is this bit
pub record IsBitAt (bits : List ℕ) (i bit : ℕ) : Type 0 where
  pub inside : i < length bits
  pub is : digit_value (get_or bits i 0) ≡ bit
  pub small : bit < 2

pub known_step : (bits : List ℕ) (i bit : ℕ) → IsBitAt bits i bit → AllDigits 2 (take i bits)
    → AllDigits 2 (take (i + 1) bits)
known_step bits i bit h before = digits_more 2 bits i h.inside before (omega (arith, h.is, h.small))

pub value_step : (bits : List ℕ) (i value bit : ℕ) → IsBitAt bits i bit → value ≡ digits_value 2 (take i bits)
    → 2 * value + bit ≡ digits_value 2 (take (i + 1) bits)
value_step bits i value bit h before = omega (arith, h.is, before, digits_value_more 2 bits i h.inside)

-- a bit that is known is its last one
pub bit_of : (c : ℕ) → is_digit c 2 ≡ true → digit_value c ≡ c % 2
bit_of c known =
    let below : digit_value c < 2 = omega (arith, ltb-true (digit_value c) 2 known) in
    grind (arith, nat_tests)

-- one bit more is known, or not
pub known_more : (bits : List ℕ) (i : ℕ) (known here : Bool) → i < length bits → here ≡ is_digit (get_or bits i 0) 2
    → known ≡ list_all (λ c. is_digit c 2) (take i bits)
    → (known && here) ≡ list_all (λ c. is_digit c 2) (take (i + 1) bits)
known_more bits i known here inside is before =
    ap (λ (b : Bool). known && b) is ∙ ap (λ (b : Bool). b && is_digit (get_or bits i 0) 2) before
    ∙ sym (list_all_more (λ c. is_digit c 2) bits i 0 inside)

-- and if so are all before it, this is their number
pub value_more : (bits : List ℕ) (i value : ℕ) (known here : Bool) → i < length bits → here ≡ is_digit (get_or bits i 0) 2
    → (known ≡ true → value ≡ digits_value 2 (take i bits)) → (known && here) ≡ true
    → 2 * value + get_or bits i 0 % 2 ≡ digits_value 2 (take (i + 1) bits)
value_more bits i value known here inside is before both =
    let parts = and_parts known here both in
    let one : digit_value (get_or bits i 0) ≡ get_or bits i 0 % 2 = bit_of (get_or bits i 0) (sym is ∙ parts.1) in
    value_step bits i value (get_or bits i 0 % 2) (record { inside = inside; is = one; small = omega arith }) (before parts.0)

-- the number of one to 64 bits that are known
pub number_of-bits : (bits : List ℕ) → 0 < length bits → length bits ≤ 64 → AllDigits 2 bits
    → number_of 2 64 bits ≡ Some (digits_value 2 bits)
number_of-bits bits some fits known =
    let longest : 2 ^ length bits ≤ 2 ^ 64 = pow_mono fits in
    let below = digits_value-lt 2 bits known in
    let small : digits_value 2 bits < 2 ^ 64 = omega (arith, below, longest) in
    ap (λ (t : Bool). cond t (option_and_then (λ number. number) (digits_of 2 bits)) None) (le-leb (length bits) 64 fits)
    ∙ ap (λ (d : Option (Option ℕ)). option_and_then (λ number. number) d) (digits_of-digits 2 bits known some)
    ∙ ap (λ (t : Bool). cond t (Some (digits_value 2 bits)) None) (lt-ltb (digits_value 2 bits) (2 ^ 64) small)
