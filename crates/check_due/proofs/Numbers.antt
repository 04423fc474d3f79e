-- Numbers that were written are read as they are.
use Rattle.std.proofs.Common.{◌≡◌, ◌∙◌, ℕ, zero, suc, ◌+◌, ◌*◌, ◌/◌, ◌%◌, ◌^◌, ◌<◌, ◌≤◌, ◌==◌, nat_lt, nat_le, Bool, true, false, ◌&&◌, cond, List, [], ◌∷◌, length, Option, Some, None, Result, Ok, Err, arith, refl, ap, subst, ⊎_elim, ok_or, option_and_then, pow_mono}
use Rattle.std.proofs.Math.Nat.{pow-succ'}
use Rattle.std.proofs.lemmas.Bool.{and_from, and_parts, cases_lt, le-leb, lt-ltb, ltb-true}
use Rattle.std.proofs.lemmas.Bool.Decides.{nat_tests}
use Rattle.std.proofs.lemmas.Fmt.{decimal_digit, decimal_is_IsNumeral, digits_is_IsNumeral}
use Rattle.std.proofs.lemmas.Int.Digits.{digits_value-lt}
use Rattle.std.specs.Char.{digit_value, is_digit}
use Rattle.std.specs.Fmt.{decimal, digit_glyph, digits, digits_onto}
use Rattle.std.specs.List.{list_all}
use Rattle.std.specs.Str.Parse.{AllDigits, IsNumeral, digits_value}
use Rattle.tl_text.proofs.NumberLemmas.{digits_of-digits, hex_last, hex_more, hex_none}
use Rattle.tl_text.specs.Number.{are_digits, below_64_bits}
use Rattle.tl_text.specs.Number.{number_of as number_in_base}
use Rattle.check_rows.specs.Columns.{flag_of, index_of}
use Rattle.check_rows.specs.Number.{address_of, decimal_of, decimal_or_zero, hex_of}
use Rattle.tl_text.specs.Reading.{◌>>=◌}
use Rattle.check_rows.specs.declared.fault.RowFault.{RowFault}
use Rattle.check_rows.specs.declared.fault.RowFault.TheVariants.{Number, Range, Link}

-- ---- digits

all-digits : (radix : ℕ) (word : List ℕ) → AllDigits radix word → list_all (λ c. is_digit c radix) word ≡ true
all-digits radix [] all = refl
all-digits radix (c ∷ cs) all = grind (arith, nat_tests, all-digits radix cs all.1)

pub digits-all : (radix : ℕ) (word : List ℕ) → list_all (λ c. is_digit c radix) word ≡ true → AllDigits radix word
digits-all radix [] all = tt
digits-all radix (c ∷ cs) all =
    let parts = and_parts (is_digit c radix) (list_all (λ c. is_digit c radix) cs) all in
    (ltb-true (digit_value c) radix parts.0, digits-all radix cs parts.1)

are-digits : (radix : ℕ) (word : List ℕ) → IsNumeral radix word → are_digits radix word ≡ true
are-digits radix word is =
    and_from (nat_lt 0 (length word)) (list_all (λ c. is_digit c radix) word) (lt-ltb 0 (length word) is.0)
    (all-digits radix word is.1)

-- ---- decimal numbers

-- what is done with a number that was spelled
abbrev at-most : ℕ → Option ℕ → Result ℕ RowFault
at-most most spelled = ok_or spelled Range >>= (λ m. cond (nat_le m most) (Ok m) (Err Range))

pub decimal-read : (most n : ℕ) → n < 2 ^ 64 → n ≤ most → decimal_of most (decimal n) ≡ Ok n
unfolding decimal_of
decimal-read most n small fits =
    let is = decimal_is_IsNumeral n small in
    ap (λ (d : Option (Option ℕ)). ok_or d Number >>= at-most most) (digits_of-digits 10 (decimal n) is.0.1 is.0.0)
    ∙ ap (λ (v : ℕ). at-most most (below_64_bits v)) is.1
    ∙ ap (λ (t : Bool). at-most most (cond t (Some n) None)) (lt-ltb n (2 ^ 64) small)
    ∙ ap (λ (t : Bool). cond t (Ok n) (Err Range)) (le-leb n most fits)

-- a number that may be absent
pub zero-read : (most : ℕ) → decimal_or_zero most [] ≡ Ok 0
unfolding decimal_or_zero
zero-read most = refl

pub given-read : (most : ℕ) (word : List ℕ) (n : ℕ) → decimal_of most word ≡ Ok n → decimal_or_zero most word ≡ Ok n
unfolding decimal_of decimal_or_zero
given-read most [] n is = absurd (cc)
given-read most (byte ∷ word) n is =
    let some : (length (byte ∷ word) == 0) ≡ false = grind (arith, nat_tests) in rw some is

pub index-read : (count n : ℕ) → n < count → n < 2 ^ 64 → index_of count (decimal n) ≡ Ok n
unfolding index_of
index-read count n below small =
    let is = decimal_is_IsNumeral n small in
    let among : nat_lt (digits_value 10 (decimal n)) count ≡ true =
    lt-ltb (digits_value 10 (decimal n)) count (omega (arith, is.1, below)) in
    ap (λ (t : Bool). cond t (Ok (digits_value 10 (decimal n))) (Err Link))
    (and_from (are_digits 10 (decimal n)) (nat_lt (digits_value 10 (decimal n)) count)
    (are-digits 10 (decimal n) is.0) among)
    ∙ ap (λ (m : ℕ). Ok m) is.1

pub flag-read : (n : ℕ) → n < 2 → flag_of (decimal n) ≡ Ok (n == 1)
unfolding flag_of
flag-read zero below = ap flag_of (decimal_digit 0 (omega arith))
flag-read (suc zero) below = ap flag_of (decimal_digit 1 (omega arith))
flag-read (suc (suc n)) below = absurd (omega (arith, below))

-- ---- addresses

sixteenth-below : (n j : ℕ) → n < 16 ^ suc j → n / 16 < 16 ^ j
sixteenth-below n j small =
    let bound : n < 16 * 16 ^ j = subst (λ (x : ℕ). n < x) (pow-succ' 16 j) small in omega (arith, bound)

length-onto : (k j n : ℕ) (acc : List ℕ) → n < 16 ^ suc j
    → length (digits_onto k 16 false n acc) ≤ length acc + suc j
length-onto zero j n acc small = omega arith
length-onto (suc k) zero n acc small = omega (arith, ap length (hex_last k n acc (omega (arith, small))))
length-onto (suc k) (suc j) n acc small = ⊎_elim
    (λ (low : n < 16). omega (arith, ap length (hex_last k n acc low)))
    (λ (large : 16 ≤ n). omega (
      arith,
      ap length (hex_more k n acc large),
      length-onto k j (n / 16) (digit_glyph false (n % 16) ∷ acc) (sixteenth-below n (suc j) small),
    ))
    (cases_lt n 16)

hex-length : (n : ℕ) → n < 2 ^ 64 → length (digits 16 false n) ≤ 16
hex-length n small = subst (λ (ds : List ℕ). length ds ≤ 16) (hex_none n) (length-onto 64 15 n [] small)

pub address-read : (n : ℕ) → n < 2 ^ 64 → address_of (digits 16 false n) ≡ Ok n
unfolding address_of hex_of
address-read n small =
    let is = digits_is_IsNumeral 16 false (omega arith) (omega arith) n (omega (arith, small)) in
    ap (λ (t : Bool). cond t (hex_of (digits 16 false n)) (Err Number))
    (le-leb (length (digits 16 false n)) 16 (hex-length n small))
    ∙ ap (λ (t : Bool). cond t (Ok (digits_value 16 (digits 16 false n))) (Err Number))
    (are-digits 16 (digits 16 false n) is.0)
    ∙ ap (λ (m : ℕ). Ok m) is.1

-- ---- the numbers that bits spell

-- bits that spell a number of at most so many are all known, and the number is theirs
pub record HasNumber (bits : List ℕ) (n : ℕ) : Type 0 where
  pub known : list_all (λ c. is_digit c 2) bits ≡ true
  pub some : 0 < length bits
  pub value : n ≡ digits_value 2 bits
  pub small : n < 2 ^ 64

pub has-number : (most : ℕ) (bits : List ℕ) (n : ℕ) → number_in_base 2 most bits ≡ Some n → HasNumber bits n
has-number most bits n is =
    go (nat_le (length bits) most) (nat_lt 0 (length bits)) (list_all (λ c. is_digit c 2) bits)
    (nat_lt (digits_value 2 bits) (2 ^ 64)) refl refl refl is
  where
    go : (a b c d : Bool) → nat_lt 0 (length bits) ≡ b → list_all (λ c. is_digit c 2) bits ≡ c
        → nat_lt (digits_value 2 bits) (2 ^ 64) ≡ d
        → cond a (option_and_then (λ number. number)
        (cond (b && c) (Some (cond d (Some (digits_value 2 bits)) None)) None)) None ≡ Some n
        → HasNumber bits n
    go true true true true eb ec ed e =
        let value : n ≡ digits_value 2 bits = cc in
        record {
          known = ec;
          some = ltb-true 0 (length bits) eb;
          value = value;
          small = omega (arith, value, ltb-true (digits_value 2 bits) (2 ^ 64) ed);
        }
    go true true true false eb ec ed e = absurd (cc)
    go true true false d eb ec ed e = absurd (cc)
    go true false c d eb ec ed e = absurd (cc)
    go false b c d eb ec ed e = absurd (cc)

pub number-below : (bits : List ℕ) (n k : ℕ) → HasNumber bits n → length bits ≤ k → n < 2 ^ k
number-below bits n k has fits =
    let below : digits_value 2 bits < 2 ^ length bits = digits_value-lt 2 bits (digits-all 2 bits has.known) in
    let more : 2 ^ length bits ≤ 2 ^ k = pow_mono fits in
    omega (arith, has.value, below, more)
