-- Numbers of several words: what their bytes spell, and what is made of them word by word.
use Rattle.std.proofs.Common.{◌≡◌, ◌∙◌, ⊎_elim, ℕ, zero, suc, ◌+◌, ◌-◌, ◌*◌, ◌/◌, ◌%◌, ◌^◌, ◌<◌, ◌≤◌, Bool, true, false, if◌then◌else◌, nat_lt, int_lt, pos, ◌-ℤ◌, List, [], ◌∷◌, ◌++◌, length, take, drop, get_or, set, Option, Some, refl, sym, ap, arith, append_assoc, length-append, take-add}
use Rattle.std.specs.Int.{to_le_bytes, w64}
use Rattle.std.proofs.Math.Nat.{mul_assoc}
use Rattle.std.proofs.lemmas.Bool.{cases_lt}
use Rattle.std.proofs.lemmas.Bool.Decides.{nat_tests}
use Rattle.std.proofs.lemmas.Int.{ints}
use Rattle.std.proofs.lemmas.Nat.{pow_pos, pow-add, mod_below}
use Rattle.std.proofs.lemmas.List.{append-nil, map-append, drop_more, take_more_set, flat_map_more}
use Rattle.tl_types.specs.Bytes.{bytes_of_words}
use Rattle.tl_types.proofs.Words.{length-bytes_of_words}
use Rattle.tl_types.specs.declared.operation.Arith.TheVariants.{Add}
use Rattle.tl_types.specs.declared.operation.Logic.{Logic}
use Rattle.tl_ops.specs.Number.{number, signed, low_bytes}
use Rattle.tl_ops.specs.Window.{combine_arith, combine_logic}
use Rattle.tl_ops.proofs.Numbers.{to_le_bytes-low, signed_high}
use Rattle.tl_ops.proofs.Bytes.{low_bytes-add, low_bytes-mod, number-low_bytes}
use Rattle.check_memory.specs.Known.{known}

-- ---- the number that words spell

-- the lowest word first
abbrev pub value : List ℕ → ℕ
value [] = 0
value (word ∷ words) = word % 2 ^ 64 + 2 ^ 64 * value words

number-append : (xs ys : List ℕ) → number (xs ++ ys) ≡ number xs + 2 ^ (8 * length xs) * number ys
number-append [] ys = omega arith
number-append (x ∷ xs) ys =
    let power = 2 ^ (8 * length xs) in
    let e : 8 * suc (length xs) ≡ 8 + 8 * length xs = omega arith in
    let more : 2 ^ (8 * suc (length xs)) ≡ 256 * power = ap (λ k. 2 ^ k) e ∙ pow-add 2 8 (8 * length xs) in
    omega (arith, number-append xs ys, ap (λ p. p * number ys) more, mul_assoc 256 power (number ys))

number-word : (word : ℕ) (bytes : List ℕ)
    → number (to_le_bytes w64 word ++ bytes) ≡ word % 2 ^ 64 + 2 ^ 64 * number bytes
number-word word bytes =
    let low : number (low_bytes 8 word) ≡ word % 2 ^ 64 =
    ap number (sym (low_bytes-mod 8 word)) ∙ number-low_bytes 8 (word % 2 ^ 64) (mod_below word (2 ^ 64) (pow_pos 64)) in
    ap (λ front. number (front ++ bytes)) (to_le_bytes-low word)
    ∙ number-append (low_bytes 8 word) bytes
    ∙ ap (λ n. n + 2 ^ 64 * number bytes) low

pub value_is : (words : List ℕ) → number (bytes_of_words words) ≡ value words
value_is [] = refl
value_is (word ∷ words) = number-word word (bytes_of_words words)
    ∙ ap (λ n. word % 2 ^ 64 + 2 ^ 64 * n) (value_is words)

-- ---- which number is less

-- where two numbers have the same words above one place, the words there decide
less_there : (i : ℕ) (less more : List ℕ) → i < length less → length more ≡ length less
    → drop (suc i) less ≡ drop (suc i) more → get_or less i 0 < get_or more i 0 → get_or more i 0 < 2 ^ 64
    → value less < value more
less_there i [] more within paired same below small = absurd (omega (arith, within))
less_there i (x ∷ less) [] within paired same below small = absurd (omega (arith, paired))
less_there zero (x ∷ less) (y ∷ more) within paired same below small =
    let rest : value less ≡ value more = ap value same in omega (arith, rest, below, small)
less_there (suc i) (x ∷ less) (y ∷ more) within paired same below small =
    let rest : value less < value more =
    less_there i less more (omega (arith, within)) (omega (arith, paired)) same below small in
    omega (arith, rest)

-- two tests of numbers agree if both orders do
agree : (a b n m : ℕ) → (a < b → n < m) → (b < a → m < n) → (a ≡ b → ⊥) → nat_lt a b ≡ nat_lt n m
agree a b n m up down apart = ⊎_elim
    (λ below. let more : n < m = up below in grind (arith, nat_tests))
    (λ from. let less : m < n = down (omega (arith, from, apart)) in grind (arith, nat_tests)) (cases_lt a b)

pub decided : (i : ℕ) (less more : List ℕ) → i < length less → length more ≡ length less
    → drop (suc i) less ≡ drop (suc i) more → get_or less i 0 < 2 ^ 64 → get_or more i 0 < 2 ^ 64
    → (get_or less i 0 ≡ get_or more i 0 → ⊥)
    → nat_lt (get_or less i 0) (get_or more i 0) ≡ nat_lt (number (bytes_of_words less)) (number (bytes_of_words more))
decided i less more within paired same small small' apart =
    rw (value_is less, value_is more) (agree (get_or less i 0) (get_or more i 0) (value less) (value more)
    (λ below. less_there i less more within paired same below small')
    (λ above. less_there i more less (omega (arith, within, paired)) (sym paired) (sym same) above small) apart)

pub none_less : (n : ℕ) → false ≡ nat_lt n n
none_less n = grind (arith, nat_tests)

-- ---- two's complement

-- half of how many numbers a word and so many more spell
abbrev half : ℕ → ℕ
half zero = 2 ^ 63
half (suc n) = 2 ^ 64 * half n

span_is : (n : ℕ) → 2 ^ (8 * (8 * suc n)) ≡ 2 * half n
span_is zero = refl
span_is (suc n) =
    let e : 8 * (8 * suc (suc n)) ≡ 64 + 8 * (8 * suc n) = omega arith in
    ap (λ k. 2 ^ k) e ∙ pow-add 2 64 (8 * (8 * suc n)) ∙ omega (arith, span_is n)

top_high : (word : ℕ) (words : List ℕ) → 2 ^ 63 ≤ get_or (word ∷ words) (length words) 0
    → get_or (word ∷ words) (length words) 0 < 2 ^ 64 → half (length words) ≤ value (word ∷ words)
top_high word [] high small = omega (arith, high, small)
top_high word (next ∷ words) high small =
    let more : half (length words) ≤ value (next ∷ words) = top_high next words high small in omega (arith, more)

top_low : (word : ℕ) (words : List ℕ) → get_or (word ∷ words) (length words) 0 < 2 ^ 63
    → value (word ∷ words) < half (length words)
top_low word [] low = omega (arith, low)
top_low word (next ∷ words) low =
    let more : value (next ∷ words) < half (length words) = top_low next words low in omega (arith, more)

value_below : (word : ℕ) (words : List ℕ) → value (word ∷ words) < 2 * half (length words)
value_below word [] = omega arith
value_below word (next ∷ words) =
    let more : value (next ∷ words) < 2 * half (length words) = value_below next words in omega (arith, more)

-- how many numbers so many bytes spell
abbrev pub span : List ℕ → ℕ
span bytes = 2 ^ (8 * length bytes)

span_of_words : (word : ℕ) (words : List ℕ) → span (bytes_of_words (word ∷ words)) ≡ 2 * half (length words)
span_of_words word words =
    ap (λ n. 2 ^ (8 * n)) (length-bytes_of_words (word ∷ words)) ∙ span_is (length words)

pub number_below : (words : List ℕ) → 0 < length words → number (bytes_of_words words) < span (bytes_of_words words)
number_below [] some = absurd (omega (arith, some))
number_below (word ∷ words) some =
    omega (arith, value_is (word ∷ words), value_below word words, span_of_words word words)

pub is_high : (words : List ℕ) → 0 < length words → 2 ^ 63 ≤ get_or words (length words - 1) 0
    → get_or words (length words - 1) 0 < 2 ^ 64
    → span (bytes_of_words words) ≤ 2 * number (bytes_of_words words)
is_high [] some high small = absurd (omega (arith, some))
is_high (word ∷ words) some high small =
    let last : length (word ∷ words) - 1 ≡ length words = omega arith in
    omega (
      arith,
      value_is (word ∷ words),
      span_of_words word words,
      top_high word words (rw last at high) (rw last at small),
    )

pub is_low : (words : List ℕ) → 0 < length words → get_or words (length words - 1) 0 < 2 ^ 63
    → 2 * number (bytes_of_words words) < span (bytes_of_words words)
is_low [] some low = absurd (omega (arith, some))
is_low (word ∷ words) some low =
    let last : length (word ∷ words) - 1 ≡ length words = omega arith in
    omega (arith, value_is (word ∷ words), span_of_words word words, top_low word words (rw last at low))

signed_low : (n top : ℕ) → 2 * n < top → (if nat_lt (2 * n) top then pos n else pos n -ℤ pos top) ≡ pos n
signed_low n top low = grind (arith, nat_tests)

both_high : (a b top : ℕ) → nat_lt a b ≡ int_lt (pos a -ℤ pos top) (pos b -ℤ pos top)
both_high a b top = grind (arith, ints, nat_tests)

high_less : (a b top : ℕ) → a < top → true ≡ int_lt (pos a -ℤ pos top) (pos b)
high_less a b top below = grind (arith, ints)

low_not_less : (a b top : ℕ) → b < top → false ≡ int_lt (pos a) (pos b -ℤ pos top)
low_not_less a b top below = grind (arith, ints)

-- the bytes spell a number below zero, or one that is not
pub record IsSigned (bytes : List ℕ) (negative : Bool) : Type 0 where
  pub fits : number bytes < span bytes
  pub high : negative ≡ true → span bytes ≤ 2 * number bytes
  pub low : negative ≡ false → 2 * number bytes < span bytes

from_high : (bytes : List ℕ) → span bytes ≤ 2 * number bytes → signed bytes ≡ pos (number bytes) -ℤ pos (span bytes)
from_high bytes from = signed_high (number bytes) (span bytes) from

from_low : (bytes : List ℕ) → 2 * number bytes < span bytes → signed bytes ≡ pos (number bytes)
from_low bytes below = signed_low (number bytes) (span bytes) below

-- numbers of one sign are compared without it
pub same_sign : (less more : List ℕ) (negative : Bool) → length more ≡ length less → IsSigned less negative
    → IsSigned more negative → nat_lt (number less) (number more) ≡ int_lt (signed less) (signed more)
same_sign less more true long is is' =
    let wide : span more ≡ span less = ap (λ n. 2 ^ (8 * n)) long in
    both_high (number less) (number more) (span less)
    ∙ ap (λ top. int_lt (pos (number less) -ℤ pos (span less)) (pos (number more) -ℤ pos top)) (sym wide)
    ∙ ap (λ z. int_lt z (pos (number more) -ℤ pos (span more))) (sym (from_high less (is.high refl)))
    ∙ ap (λ z. int_lt (signed less) z) (sym (from_high more (is'.high refl)))
same_sign less more false long is is' =
    ap (λ z. int_lt z (pos (number more))) (sym (from_low less (is.low refl)))
    ∙ ap (λ z. int_lt (signed less) z) (sym (from_low more (is'.low refl)))

-- of numbers of different signs the one below zero is less
pub other_sign : (less more : List ℕ) (below above : Bool) → (below ≡ above → ⊥) → IsSigned less below
    → IsSigned more above → below ≡ int_lt (signed less) (signed more)
other_sign less more true true apart is is' = absurd (apart refl)
other_sign less more false false apart is is' = absurd (apart refl)
other_sign less more true false apart is is' =
    high_less (number less) (number more) (span less) is.fits
    ∙ ap (λ z. int_lt z (pos (number more))) (sym (from_high less (is.high refl)))
    ∙ ap (λ z. int_lt (signed less) z) (sym (from_low more (is'.low refl)))
other_sign less more false true apart is is' =
    low_not_less (number less) (number more) (span more) is'.fits
    ∙ ap (λ z. int_lt z (pos (number more) -ℤ pos (span more))) (sym (from_low less (is.low refl)))
    ∙ ap (λ z. int_lt (signed less) z) (sym (from_high more (is'.high refl)))

-- ---- sums

-- the words of a sum with a carry into the lowest
abbrev pub added : ℕ → List ℕ → List ℕ → List ℕ
added carry [] ys = []
added carry (x ∷ xs) [] = []
added carry (x ∷ xs) (y ∷ ys) =
    (x % 2 ^ 64 + y % 2 ^ 64 + carry) % 2 ^ 64 ∷ added ((x % 2 ^ 64 + y % 2 ^ 64 + carry) / 2 ^ 64) xs ys

low_word : (x total : ℕ) (rest : List ℕ) → total % 2 ^ 64 ≡ x % 2 ^ 64
    → to_le_bytes w64 x ++ rest ≡ low_bytes 8 total ++ rest
low_word x total rest same =
    ap (λ bytes. bytes ++ rest)
    (to_le_bytes-low x ∙ sym (low_bytes-mod 8 x) ∙ ap (low_bytes 8) (sym same) ∙ low_bytes-mod 8 total)

pub added_is : (carry : ℕ) (xs ys : List ℕ) → length ys ≡ length xs
    → bytes_of_words (added carry xs ys) ≡ low_bytes (8 * length xs) (value xs + value ys + carry)
added_is carry [] ys paired = refl
added_is carry (x ∷ xs) [] paired = absurd (omega (arith, paired))
added_is carry (x ∷ xs) (y ∷ ys) paired =
    let here = x % 2 ^ 64 + y % 2 ^ 64 + carry in
    let total = value (x ∷ xs) + value (y ∷ ys) + carry in
    let n = 8 * length xs in
    let long : 8 * suc (length xs) ≡ 8 + n = omega arith in
    let low : total % 2 ^ 64 ≡ here % 2 ^ 64 % 2 ^ 64 = omega arith in
    let high : total / 2 ^ 64 ≡ value xs + value ys + here / 2 ^ 64 = omega arith in
    low_word (here % 2 ^ 64) total (bytes_of_words (added (here / 2 ^ 64) xs ys)) low
    ∙ ap (λ bytes. low_bytes 8 total ++ bytes) (added_is (here / 2 ^ 64) xs ys (omega (arith, paired))
    ∙ ap (low_bytes n) (sym high))
    ∙ sym (low_bytes-add 8 n total) ∙ ap (λ m. low_bytes m total) (sym long)

pub sum_is : (xs ys : List ℕ) → length ys ≡ length xs
    → bytes_of_words (added 0 xs ys) ≡ combine_arith Add (bytes_of_words xs) (bytes_of_words ys)
sum_is xs ys paired =
    let total : value xs + value ys + 0 ≡ number (bytes_of_words xs) + number (bytes_of_words ys) =
    omega (arith, value_is xs, value_is ys) in
    added_is 0 xs ys paired ∙ ap (low_bytes (8 * length xs)) total
    ∙ ap (λ n. low_bytes n (number (bytes_of_words xs) + number (bytes_of_words ys))) (sym (length-bytes_of_words xs))

-- one word more of a sum
pub added_more : (xs ys : List ℕ) (k x y carry word above : ℕ) → k < length xs → length ys ≡ length xs
    → x ≡ get_or xs k 0 → y ≡ get_or ys k 0 → x < 2 ^ 64 → y < 2 ^ 64 → word < 2 ^ 64
    → word + above * 2 ^ 64 ≡ x + y + carry
    → added carry (drop k xs) (drop k ys) ≡ word ∷ added above (drop (k + 1) xs) (drop (k + 1) ys)
added_more xs ys k x y carry word above within paired here there small small' fits is =
    let left : drop k xs ≡ x ∷ drop (k + 1) xs =
    drop_more xs k 0 within ∙ ap (λ w. w ∷ drop (k + 1) xs) (sym here) in
    let right : drop k ys ≡ y ∷ drop (k + 1) ys =
    drop_more ys k 0 (omega (arith, within, paired)) ∙ ap (λ w. w ∷ drop (k + 1) ys) (sym there) in
    let low : (x % 2 ^ 64 + y % 2 ^ 64 + carry) % 2 ^ 64 ≡ word = omega (arith, small, small', fits, is) in
    let high : (x % 2 ^ 64 + y % 2 ^ 64 + carry) / 2 ^ 64 ≡ above = omega (arith, small, small', fits, is) in
    ap (λ zs. added carry zs (drop k ys)) left ∙ ap (added carry (x ∷ drop (k + 1) xs)) right
    ∙ ap (λ w. w ∷ added ((x % 2 ^ 64 + y % 2 ^ 64 + carry) / 2 ^ 64) (drop (k + 1) xs) (drop (k + 1) ys)) low
    ∙ ap (λ c. word ∷ added c (drop (k + 1) xs) (drop (k + 1) ys)) high

-- ---- bytes that are gathered word by word

pub known-append : (xs ys : List ℕ) → known (xs ++ ys) ≡ known xs ++ known ys
known-append xs ys = map-append (λ byte. Some byte) xs ys

-- a word that is appended is the first of those that are left
pub gathered : (so_far new : List (Option ℕ)) (word rest all : List ℕ) → new ≡ so_far ++ known word
    → so_far ++ known (word ++ rest) ≡ known all → new ++ known rest ≡ known all
gathered so_far new word rest all pushed is =
    ap (λ cells. cells ++ known rest) pushed ∙ append_assoc so_far (known word) (known rest)
    ∙ ap (λ cells. so_far ++ cells) (sym (known-append word rest)) ∙ is

pub gathered_long : (so_far new : List (Option ℕ)) (word k : ℕ) → new ≡ so_far ++ known (to_le_bytes w64 word)
    → length so_far ≡ 8 * k → length new ≡ 8 * (k + 1)
gathered_long so_far new word k pushed long =
    let eight : length (known (to_le_bytes w64 word)) ≡ 8 = refl in
    ap length pushed ∙ length-append so_far (known (to_le_bytes w64 word)) ∙ omega (arith, long, eight)

-- none are left
pub all_gathered : (so_far : List (Option ℕ)) (left all : List ℕ) → left ≡ []
    → so_far ++ known left ≡ known all → so_far ≡ known all
all_gathered so_far left all none is =
    sym (append-nil so_far) ∙ ap (λ rest. so_far ++ known rest) (sym none) ∙ is

-- ---- a logical operation

pub logic_word : (op : Logic) (old operand word : ℕ)
    → low_bytes 8 word ≡ combine_logic op (low_bytes 8 old) (low_bytes 8 operand)
    → to_le_bytes w64 word ≡ combine_logic op (to_le_bytes w64 old) (to_le_bytes w64 operand)
logic_word op old operand word is =
    to_le_bytes-low word ∙ is
    ∙ sym (ap (λ bytes. combine_logic op bytes (to_le_bytes w64 operand)) (to_le_bytes-low old)
    ∙ ap (combine_logic op (low_bytes 8 old)) (to_le_bytes-low operand))

pub logic_more : (op : Logic) (xs ys : List ℕ) (k x y : ℕ) → k < length xs → length ys ≡ length xs
    → x ≡ get_or xs k 0 → y ≡ get_or ys k 0
    → combine_logic op (bytes_of_words (drop k xs)) (bytes_of_words (drop k ys))
    ≡ combine_logic op (to_le_bytes w64 x) (to_le_bytes w64 y)
    ++ combine_logic op (bytes_of_words (drop (k + 1) xs)) (bytes_of_words (drop (k + 1) ys))
logic_more op xs ys k x y within paired here there =
    let left : drop k xs ≡ x ∷ drop (k + 1) xs =
    drop_more xs k 0 within ∙ ap (λ w. w ∷ drop (k + 1) xs) (sym here) in
    let right : drop k ys ≡ y ∷ drop (k + 1) ys =
    drop_more ys k 0 (omega (arith, within, paired)) ∙ ap (λ w. w ∷ drop (k + 1) ys) (sym there) in
    ap (λ zs. combine_logic op (bytes_of_words zs) (bytes_of_words (drop k ys))) left
    ∙ ap (λ zs. combine_logic op (bytes_of_words (x ∷ drop (k + 1) xs)) (bytes_of_words zs)) right

-- ---- words of bytes

pub words_more : (words bytes : List ℕ) (k word : ℕ) → k < length words
    → bytes_of_words (take k words) ≡ take (8 * k) bytes → to_le_bytes w64 word ≡ take 8 (drop (8 * k) bytes)
    → bytes_of_words (take (k + 1) (set words k word)) ≡ take (8 * (k + 1)) bytes
words_more words bytes k word within so_far spelled =
    let row : 8 * (k + 1) ≡ 8 * k + 8 = omega arith in
    let f : ℕ → List ℕ = λ (w : ℕ). to_le_bytes w64 w in
    ap bytes_of_words (take_more_set words k word within)
    ∙ sym (flat_map_more f [] (take k words) word)
    ∙ ap (λ front. front ++ to_le_bytes w64 word) so_far
    ∙ ap (λ back. take (8 * k) bytes ++ back) spelled
    ∙ sym (take-add (8 * k) 8 bytes) ∙ ap (λ n. take n bytes) (sym row)
