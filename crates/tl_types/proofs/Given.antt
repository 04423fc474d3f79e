-- Bytes of which those are given whose bits are set.
use Rattle.std.proofs.Common.{◌≡◌, ℕ, zero, suc, ◌+◌, ◌-◌, ◌*◌, ◌/◌, ◌%◌, ◌^◌, ◌<◌, ◌≤◌, ◌⊎◌, inl, inr, List, [], ◌∷◌, ◌++◌, length, set, slice_index, slice_get, take, Option, Some, None, unwrap_or, bit_or, bit_and, replicate, refl, ap, sym, ◌∙◌, arith, lit≤, w8, map, length-append, get_or-set_same, get_or-set_other}
use Rattle.std.proofs.Math.ListN.{length-set}
use Rattle.std.proofs.Math.Nat.{pow-le-pow_right}
use Rattle.std.proofs.lemmas.Nat.{or_of_8}
use Rattle.std.proofs.lemmas.Bool.{cases_lt}
use Rattle.std.proofs.lemmas.Grind.{same_number_lists}
use Rattle.std.specs.Prelude.{option_map}
use Rattle.std.proofs.Math.Seq.{take-suc}
use Rattle.std.proofs.lemmas.Option.{get_or_from_slice_get, slice_get-get_or, slice_get_past, slice_get_within}
use Rattle.std.specs.Int.{bit_at}
use Rattle.std.proofs.lemmas.Nat.Bits.{bit_at-lt, bit_at-zero, bit_at_set_same, bit_at_set_other, bit_at_ones, bit_at_ones_above, ones_shr, shr_and_one, same_from_bits_below}
use Rattle.tl_types.specs.Bytes.{mask_bit, given_byte, given_in, plain_of, bit_in, AreKept, IsMaskOf}
use Rattle.tl_types.specs.declared.bytes.TheConstants.{MAX_WORDS}

pub length-given_in : (bits : ℕ → ℕ) (bytes : List ℕ) → length (given_in bits bytes) ≡ length bytes
length-given_in bits [] = refl
length-given_in bits (byte ∷ bytes) = ap suc (length-given_in (λ k. bits (suc k)) bytes)

pub slice_get-given_in : (bits : ℕ → ℕ) (bytes : List ℕ) (k : ℕ)
    → slice_get (given_in bits bytes) k ≡ option_map (given_byte (bits k)) (slice_get bytes k)
slice_get-given_in bits [] k = refl
slice_get-given_in bits (byte ∷ bytes) zero = refl
slice_get-given_in bits (byte ∷ bytes) (suc k) = slice_get-given_in (λ n. bits (suc n)) bytes k

-- only the bits of the bytes matter
pub given_in-same : (one other : ℕ → ℕ) (bytes : List ℕ) → ((k : ℕ) → k < length bytes → one k ≡ other k)
    → given_in one bytes ≡ given_in other bytes
given_in-same one other [] same = refl
given_in-same one other (byte ∷ bytes) same =
    let first : one 0 ≡ other 0 = same 0 (omega arith) in
    let rest = given_in-same (λ k. one (suc k)) (λ k. other (suc k)) bytes (λ k h. same (suc k) (omega (arith, h))) in
    rw (first, rest) refl

pub given_in-append : (bits : ℕ → ℕ) (front back : List ℕ)
    → given_in bits (front ++ back) ≡ given_in bits front ++ given_in (λ k. bits (length front + k)) back
given_in-append bits [] back = given_in-same bits (λ k. bits (0 + k)) back (λ k h. ap bits (omega arith))
given_in-append bits (byte ∷ front) back =
    let more = given_in-append (λ k. bits (suc k)) front back in
    let shifted = given_in-same (λ k. bits (suc (length front + k))) (λ k. bits (suc (length front) + k)) back
    (λ k h. ap bits (omega arith)) in
    ap (λ rest. given_byte (bits 0) byte ∷ rest)
    (more ∙ ap (λ rest. given_in (λ k. bits (suc k)) front ++ rest) shifted)

pub given_in-all : (bits : ℕ → ℕ) (bytes : List ℕ) → ((k : ℕ) → k < length bytes → bits k ≡ 1)
    → given_in bits bytes ≡ map (λ byte. Some byte) bytes
given_in-all bits [] all = refl
given_in-all bits (byte ∷ bytes) all =
    let first : bits 0 ≡ 1 = all 0 (omega arith) in
    let rest = given_in-all (λ k. bits (suc k)) bytes (λ k h. all (suc k) (omega (arith, h))) in
    rw (first, rest) refl

-- a byte that is given where the bit is set, and zero where it isn't, is its plain byte
plain_byte : (bit byte : ℕ) → (bit ≡ 0 → byte ≡ 0) → unwrap_or (given_byte bit byte) 0 ≡ byte
plain_byte zero byte clean = sym (clean refl)
plain_byte (suc bit) byte clean = refl

pub plain_of-given_in : (bits : ℕ → ℕ) (bytes : List ℕ) → ((k : ℕ) → bits k ≡ 0 → slice_index bytes k ≡ 0)
    → plain_of (given_in bits bytes) ≡ bytes
plain_of-given_in bits [] clean = refl
plain_of-given_in bits (byte ∷ bytes) clean =
    let first : unwrap_or (given_byte (bits 0) byte) 0 ≡ byte = plain_byte (bits 0) byte (clean 0) in
    let rest = plain_of-given_in (λ k. bits (suc k)) bytes (λ k. clean (suc k)) in
    rw (first, rest) refl

pub mask_bit-given_byte : (bit byte : ℕ) → bit < 2 → mask_bit (given_byte bit byte) ≡ bit
mask_bit-given_byte zero byte small = refl
mask_bit-given_byte (suc zero) byte small = refl
mask_bit-given_byte (suc (suc bit)) byte small = absurd (omega (arith, small))

-- ---- the masks of words

pub bit_in-lt : (masks : List ℕ) (place : ℕ) → bit_in masks place < 2
unfolding bit_in
bit_in-lt masks place = bit_at-lt (slice_index masks (place / 8)) (place % 8)

zeros_at : (n k : ℕ) → slice_index (replicate n 0) k ≡ 0
zeros_at zero k = refl
zeros_at (suc n) zero = refl
zeros_at (suc n) (suc k) = zeros_at n k

pub bit_in-blank : (place : ℕ) → bit_in (replicate MAX_WORDS 0) place ≡ 0
unfolding bit_in
bit_in-blank place = rw (zeros_at MAX_WORDS (place / 8)) (bit_at-zero (place % 8))

-- a word's mask is replaced
pub bit_in-set_here : (masks : List ℕ) (word mask place : ℕ) → word < length masks → place / 8 ≡ word
    → bit_in (set masks word mask) place ≡ bit_at mask (place % 8)
unfolding bit_in
bit_in-set_here masks word mask place within here = rw (here, get_or-set_same masks word mask 0 within) refl

pub bit_in-set_there : (masks : List ℕ) (word mask place : ℕ) → (place / 8 ≡ word → ⊥)
    → bit_in (set masks word mask) place ≡ bit_in masks place
unfolding bit_in
bit_in-set_there masks word mask place there = rw (get_or-set_other masks word (place / 8) mask 0 there) refl

pub bit_in-word : (masks : List ℕ) (word k : ℕ) → k < 8
    → bit_in masks (8 * word + k) ≡ bit_at (slice_index masks word) k
unfolding bit_in
bit_in-word masks word k in_word =
    let word_is : (8 * word + k) / 8 ≡ word = omega (arith, in_word) in
    let lane_is : (8 * word + k) % 8 ≡ k = omega (arith, in_word) in
    rw (word_is, lane_is) refl

-- a bit is set among those of its word
pub bit_in-with_bit : (masks : List ℕ) (n : ℕ) → n / 8 < length masks → (place : ℕ) → (place ≡ n → ⊥)
    → bit_in (set masks (n / 8) (bit_or (slice_index masks (n / 8)) (1 * 2 ^ (n % 8) % 256))) place ≡ bit_in masks place
bit_in-with_bit masks n within place ne = go (cases_lt (place / 8) (n / 8)) (cases_lt (n / 8) (place / 8))
  where
    go : (place / 8 < n / 8) ⊎ (n / 8 ≤ place / 8) → (n / 8 < place / 8) ⊎ (place / 8 ≤ n / 8)
        → bit_in (set masks (n / 8)
        (bit_or (slice_index masks (n / 8)) (1 * 2 ^ (n % 8) % 256))) place ≡ bit_in masks place
    go (inl lower) _ = bit_in-set_there masks (n / 8) _ place (λ e. omega (arith, lower, e))
    go (inr _) (inl higher) = bit_in-set_there masks (n / 8) _ place (λ e. omega (arith, higher, e))
    go (inr not_lower) (inr not_higher) =
        let same : place / 8 ≡ n / 8 = omega (arith, not_lower, not_higher) in
        let lanes_differ : place % 8 ≡ n % 8 → ⊥ = λ e. ne (omega (arith, same, e)) in
        bit_in-set_here masks (n / 8) _ place within same
        ∙ bit_at_set_other w8 (slice_index masks (n / 8)) (n % 8) (omega arith) (place % 8) lanes_differ
        ∙ same_word same
      where
        same_word : place / 8 ≡ n / 8 → bit_at (slice_index masks (n / 8)) (place % 8) ≡ bit_in masks place
        same_word same = let e : 8 * (n / 8) + place % 8 ≡ place = omega (arith, same) in
            sym (bit_in-word masks (n / 8) (place % 8) (omega arith)) ∙ ap (bit_in masks) e

-- ---- what is appended

slice_index-front : (front back : List ℕ) (k : ℕ) → k < length front
    → slice_index (front ++ back) k ≡ slice_index front k
slice_index-front [] back k h = absurd (omega (arith, h))
slice_index-front (x ∷ front) back zero h = refl
slice_index-front (x ∷ front) back (suc k) h = slice_index-front front back k (omega (arith, h))

slice_index-back : (front back : List ℕ) (k : ℕ) → slice_index (front ++ back) (length front + k) ≡ slice_index back k
slice_index-back [] back k = let e : 0 + k ≡ k = omega arith in ap (slice_index back) e
slice_index-back (x ∷ front) back k =
    let e : suc (length front) + k ≡ suc (length front + k) = omega arith in
    ap (slice_index (x ∷ front ++ back)) e ∙ slice_index-back front back k

-- bytes with masks of their own, after those with these masks
pub record Appends (plain masks bytes new_masks : List ℕ) : Type 0 where
  pub kept : AreKept (plain ++ bytes) new_masks
  pub seen : given_in (bit_in new_masks) (plain ++ bytes) ≡ given_in (bit_in masks) plain
      ++ given_in (λ k. bit_in new_masks (length plain + k)) bytes

pub appends : (plain masks bytes new_masks : List ℕ) → AreKept plain masks → length new_masks ≡ MAX_WORDS
    → ((word : ℕ) → slice_index new_masks word < 256)
    → ((place : ℕ) → place < length plain → bit_in new_masks place ≡ bit_in masks place)
    → ((k : ℕ) → bit_in new_masks (length plain + k) ≡ 0 → slice_index bytes k ≡ 0)
    → ((k : ℕ) → length bytes ≤ k → bit_in new_masks (length plain + k) ≡ 0) → Appends plain masks bytes new_masks
appends plain masks bytes new_masks kept counted small below unset past = record {
  kept = record {
    counted = counted;
    small = small;
    unset = λ place clear. clean place clear (cases_lt place (length plain));
    past = λ place h. let e : length plain + (place - length plain) ≡ place =
        omega (arith, h, length-append plain bytes) in
        ap (bit_in new_masks) (sym e) ∙ past (place - length plain) (omega (arith, h, length-append plain bytes));
  };
  seen = given_in-append (bit_in new_masks) plain bytes
      ∙ ap (λ front. front ++ given_in (λ k. bit_in new_masks (length plain + k)) bytes)
      (given_in-same (bit_in new_masks) (bit_in masks) plain below);
}
  where
    clean : (place : ℕ) → bit_in new_masks place ≡ 0 → (place < length plain) ⊎ (length plain ≤ place)
        → slice_index (plain ++ bytes) place ≡ 0
    clean place clear (inl front) =
        slice_index-front plain bytes place front ∙ kept.unset place (sym (below place front) ∙ clear)
    clean place clear (inr back) =
        let e : length plain + (place - length plain) ≡ place = omega (arith, back) in
        ap (slice_index (plain ++ bytes)) (sym e) ∙ slice_index-back plain bytes (place - length plain)
        ∙ unset (place - length plain) (ap (bit_in new_masks) e ∙ clear)

byte_unset : (n byte : ℕ) (new : List ℕ) → bit_in new n ≡ 1 → (k : ℕ) → bit_in new (n + k) ≡ 0
    → slice_index (byte ∷ []) k ≡ 0
byte_unset n byte new here zero clear = let e : n + 0 ≡ n = omega arith in
    let no : 1 ≡ 0 = sym here ∙ ap (bit_in new) (sym e) ∙ clear in absurd (omega (arith, no))
byte_unset n byte new here (suc k) clear = refl

pub slice_index-past : (bytes : List ℕ) (k : ℕ) → length bytes ≤ k → slice_index bytes k ≡ 0
slice_index-past [] k h = refl
slice_index-past (byte ∷ bytes) zero h = absurd (omega (arith, h))
slice_index-past (byte ∷ bytes) (suc k) h = slice_index-past bytes k (omega (arith, h))

-- the lowest ones of a byte
pub ones_are : (count : ℕ) → count ≤ 8 → 255 / 2 ^ (8 - count) ≡ 2 ^ count - 1
ones_are count fits = let e : 8 - (8 - count) ≡ count = omega (arith, fits) in
    ones_shr 8 (8 - count) (omega arith) ∙ ap (λ n. 2 ^ n - 1) e

-- the bits of a word that has its lowest ones set
new_bit : (masks : List ℕ) (n mask k : ℕ) → n / 8 < length masks → n % 8 ≡ 0 → k < 8
    → bit_in (set masks (n / 8) mask) (n + k) ≡ bit_at mask k
new_bit masks n mask k within aligned in_word =
    let lane : (n + k) % 8 ≡ k = omega (arith, aligned, in_word) in
    bit_in-set_here masks (n / 8) mask (n + k) within (omega (arith, aligned, in_word)) ∙ ap (bit_at mask) lane

word_bit : (masks : List ℕ) (n count : ℕ) → n / 8 < length masks → n % 8 ≡ 0 → count ≤ 8 → (k : ℕ) → k < count
    → bit_in (set masks (n / 8) (255 / 2 ^ (8 - count))) (n + k) ≡ 1
word_bit masks n count within aligned fits k h =
    new_bit masks n (255 / 2 ^ (8 - count)) k within aligned (omega (arith, h, fits))
    ∙ ap (λ m. bit_at m k) (ones_are count fits) ∙ bit_at_ones count k h

word_unset : (masks : List ℕ) (n : ℕ) (bytes : List ℕ) → n / 8 < length masks → n % 8 ≡ 0 → length bytes ≤ 8 → (k : ℕ)
    → bit_in (set masks (n / 8) (255 / 2 ^ (8 - length bytes))) (n + k) ≡ 0 → (k < length bytes) ⊎ (length bytes ≤ k)
    → slice_index bytes k ≡ 0
word_unset masks n bytes within aligned fits k clear (inl h) = let no : 1 ≡ 0 =
    sym (word_bit masks n (length bytes) within aligned fits k h) ∙ clear in absurd (omega (arith, no))
word_unset masks n bytes within aligned fits k clear (inr h) = slice_index-past bytes k h

word_past : (masks : List ℕ) (n count : ℕ) → n / 8 < length masks → n % 8 ≡ 0 → count ≤ 8 → (k : ℕ) → count ≤ k
    → bit_in masks (n + k) ≡ 0 → (k < 8) ⊎ (8 ≤ k) → bit_in (set masks (n / 8) (255 / 2 ^ (8 - count))) (n + k) ≡ 0
word_past masks n count within aligned fits k h before (inl in_word) =
    new_bit masks n (255 / 2 ^ (8 - count)) k within aligned in_word ∙ ap (λ m. bit_at m k) (ones_are count fits)
    ∙ bit_at_ones_above count k h
word_past masks n count within aligned fits k h before (inr beyond) =
    bit_in-set_there masks (n / 8) _ (n + k) (λ e. omega (arith, e, beyond, aligned)) ∙ before

-- the byte at a place
read_at : (plain masks : List ℕ) (place : ℕ) → place < length plain
    → slice_get (given_in (bit_in masks) plain) place ≡ Some (given_byte (bit_in masks place) (slice_index plain place))
read_at plain masks place within =
    slice_get-given_in (bit_in masks) plain place
    ∙ ap (option_map (given_byte (bit_in masks place))) (slice_get-get_or plain place 0 within)

seen_bit : (plain masks : List ℕ) (place : ℕ) → AreKept plain masks → (place < length plain) ⊎ (length plain ≤ place)
    → bit_in masks place ≡ mask_bit (unwrap_or (slice_get (given_in (bit_in masks) plain) place) None)
seen_bit plain masks place kept (inl within) =
    sym (ap (λ o. mask_bit (unwrap_or o None)) (read_at plain masks place within)
    ∙ mask_bit-given_byte (bit_in masks place) (slice_index plain place) (bit_in-lt masks place))
seen_bit plain masks place kept (inr past) =
    kept.past place past ∙ sym (ap (λ o. mask_bit (unwrap_or o None))
    (slice_get_past (given_in (bit_in masks) plain) place (rw (length-given_in (bit_in masks) plain) past)))

-- a mask that is replaced
pub small_set : (masks : List ℕ) (word mask : ℕ) → ((w : ℕ) → slice_index masks w < 256) → mask < 256 → (w : ℕ)
    → slice_index (set masks word mask) w < 256
small_set [] word mask small fits w = small w
small_set (m ∷ masks) zero mask small fits zero = fits
small_set (m ∷ masks) zero mask small fits (suc w) = small (suc w)
small_set (m ∷ masks) (suc word) mask small fits zero = small zero
small_set (m ∷ masks) (suc word) mask small fits (suc w) = small_set masks word mask (λ v. small (suc v)) fits w

pub small_ones : (count : ℕ) → count ≤ 8 → 255 / 2 ^ (8 - count) < 256
small_ones count fits = let most : 2 ^ count ≤ 2 ^ 8 = pow-le-pow_right (lit≤ tt) fits in
    omega (arith, ones_are count fits, most)

-- one byte that is left unset
pub appends_unset : (plain masks : List ℕ) → AreKept plain masks → Appends plain masks (0 ∷ []) masks
appends_unset plain masks kept =
    appends plain masks (0 ∷ []) masks kept kept.counted kept.small (λ place h. refl) (λ k clear. zero_at k)
    (λ k h. kept.past (length plain + k) (omega arith))
  where
    zero_at : (k : ℕ) → slice_index (0 ∷ []) k ≡ 0
    zero_at zero = refl
    zero_at (suc k) = refl

-- one byte that is given: its bit is set, and the others are kept
pub appends_given : (plain masks : List ℕ) (byte : ℕ) → AreKept plain masks → length plain / 8 < length masks
    → Appends plain masks (byte ∷ []) (set masks (length plain / 8)
    (bit_or (slice_index masks (length plain / 8)) (1 * 2 ^ (length plain % 8) % 256)))
appends_given plain masks byte kept within =
    let n = length plain in
    let old = slice_index masks (n / 8) in
    let with_bit = bit_or old (1 * 2 ^ (n % 8) % 256) in
    let new = set masks (n / 8) with_bit in
    let here : bit_in new n ≡ 1 =
    bit_in-set_here masks (n / 8) with_bit n within refl ∙ bit_at_set_same w8 old (n % 8) (omega arith) in
    let other : (place : ℕ) → (place ≡ n → ⊥) → bit_in new place ≡ bit_in masks place =
    λ place ne. bit_in-with_bit masks n within place ne in
    appends plain masks (byte ∷ []) new kept (length-set masks (n / 8) with_bit ∙ kept.counted)
    (small_set masks (n / 8) with_bit kept.small
    (or_of_8 old (1 * 2 ^ (n % 8) % 256) (kept.small (n / 8)) (omega arith)))
    (λ place h. other place (omega (arith, h))) (byte_unset n byte new here)
    (λ k h. other (n + k) (omega (arith, h)) ∙ kept.past (n + k) (omega arith))

-- a word, or the front of one, all of whose bytes are given
pub appends_word : (plain masks bytes : List ℕ) → AreKept plain masks → length plain / 8 < length masks
    → length plain % 8 ≡ 0 → length bytes ≤ 8
    → Appends plain masks bytes (set masks (length plain / 8) (255 / 2 ^ (8 - length bytes)))
appends_word plain masks bytes kept within aligned fits =
    let n = length plain in
    let count = length bytes in
    let ones = 255 / 2 ^ (8 - count) in
    let new = set masks (n / 8) ones in
    let below : (place : ℕ) → place < n → bit_in new place ≡ bit_in masks place =
    λ place h. bit_in-set_there masks (n / 8) ones place (λ e. omega (arith, h, e, aligned)) in
    let unset : (k : ℕ) → bit_in new (n + k) ≡ 0 → slice_index bytes k ≡ 0 =
    λ k clear. word_unset masks n bytes within aligned fits k clear (cases_lt k count) in
    let past : (k : ℕ) → count ≤ k → bit_in new (n + k) ≡ 0 =
    λ k h. word_past masks n count within aligned fits k h (kept.past (n + k) (omega arith)) (cases_lt k 8) in
    appends plain masks bytes new kept (length-set masks (n / 8) ones ∙ kept.counted)
    (small_set masks (n / 8) ones kept.small (small_ones count fits)) below unset past

-- what is seen of each
pub seen_unset : (plain masks : List ℕ) → AreKept plain masks
    → given_in (bit_in masks) (plain ++ 0 ∷ []) ≡ given_in (bit_in masks) plain ++ None ∷ []
seen_unset plain masks kept =
    let e : length plain + 0 ≡ length plain = omega arith in
    let bit : bit_in masks (length plain + 0) ≡ 0 = kept.past (length plain + 0) (omega arith) in
    (appends_unset plain masks kept).seen ∙ ap (λ b. given_in (bit_in masks) plain ++ given_byte b 0 ∷ []) bit

pub seen_given : (plain masks : List ℕ) (byte : ℕ) → AreKept plain masks → length plain / 8 < length masks
    → given_in (bit_in (set masks (length plain / 8)
    (bit_or (slice_index masks (length plain / 8)) (1 * 2 ^ (length plain % 8) % 256)))) (plain ++ byte ∷ []) ≡ given_in
    (bit_in masks) plain ++ Some byte ∷ []
seen_given plain masks byte kept within =
    let n = length plain in
    let old = slice_index masks (n / 8) in
    let with_bit = bit_or old (1 * 2 ^ (n % 8) % 256) in
    let new = set masks (n / 8) with_bit in
    let e : n + 0 ≡ n = omega arith in
    let here : bit_in new (n + 0) ≡ 1 =
    ap (bit_in new) e ∙ bit_in-set_here masks (n / 8) with_bit n within refl
    ∙ bit_at_set_same w8 old (n % 8) (omega arith) in
    (appends_given plain masks byte kept within).seen
    ∙ ap (λ b. given_in (bit_in masks) plain ++ given_byte b byte ∷ []) here

pub seen_word : (plain masks bytes : List ℕ) → AreKept plain masks → length plain / 8 < length masks
    → length plain % 8 ≡ 0 → length bytes ≤ 8
    → given_in (bit_in (set masks (length plain / 8) (255 / 2 ^ (8 - length bytes)))) (plain ++ bytes) ≡ given_in
    (bit_in masks) plain ++ map (λ byte. Some byte) bytes
seen_word plain masks bytes kept within aligned fits =
    (appends_word plain masks bytes kept within aligned fits).seen
    ∙ ap (λ back. given_in (bit_in masks) plain ++ back)
    (given_in-all _ bytes (λ k h. word_bit masks (length plain) (length bytes) within aligned fits k h))

-- nothing is kept in blank masks
pub kept_none : AreKept [] (replicate MAX_WORDS 0)
kept_none = record {
  counted = refl;
  small = λ word. rw (zeros_at MAX_WORDS word) (omega arith);
  unset = λ place h. refl;
  past = λ place h. bit_in-blank place;
}

-- the mask of a word
pub mask_of_kept : (plain masks : List ℕ) (word : ℕ) → AreKept plain masks
    → IsMaskOf (given_in (bit_in masks) plain) word (slice_index masks word)
mask_of_kept plain masks word kept k in_word =
    sym (bit_in-word masks word k in_word) ∙ seen_bit plain masks (8 * word + k) kept
    (cases_lt (8 * word + k) (length plain))

-- what is read at a place
pub given_at : (plain masks : List ℕ) (place : ℕ) → place < length plain → bit_in masks place ≡ 1
    → slice_get (given_in (bit_in masks) plain) place ≡ Some (Some (slice_index plain place))
given_at plain masks place within set =
    read_at plain masks place within ∙ ap (λ bit. Some (given_byte bit (slice_index plain place))) set

pub unset_at : (plain masks : List ℕ) (place : ℕ) → place < length plain → bit_in masks place ≡ 0
    → slice_get (given_in (bit_in masks) plain) place ≡ Some None
unset_at plain masks place within unset =
    read_at plain masks place within ∙ ap (λ bit. Some (given_byte bit (slice_index plain place))) unset

-- a byte whose flag is not zero is given
pub given_flag : (flag byte : ℕ) → (flag ≡ 0 → ⊥) → given_byte flag byte ≡ Some byte
given_flag zero byte isnt = absurd (isnt refl)
given_flag (suc flag) byte isnt = refl

-- the bytes before a place, and the one there
pub next_given : (bits : ℕ → ℕ) (plain : List ℕ) (place : ℕ) (byte : Option ℕ) → place < length plain
    → given_byte (bits place) (slice_index plain place) ≡ byte
    → take (place + 1) (given_in bits plain) ≡ take place (given_in bits plain) ++ byte ∷ []
next_given bits plain place byte within is =
    let next : place + 1 ≡ suc place = omega arith in
    let given = given_in bits plain in
    let there : slice_get given place ≡ Some byte =
    slice_get-given_in bits plain place ∙ ap (option_map (given_byte (bits place)))
    (slice_get-get_or plain place 0 within) ∙ ap (λ b. Some b) is in
    ap (λ n. take n given) next ∙ take-suc given place byte (slice_get_within given place byte there)
    ∙ ap (λ b. take place given ++ b ∷ []) (get_or_from_slice_get given place byte byte there)

-- the test of a bit
pub tested_bit : (masks : List ℕ) (place : ℕ) → bit_and (slice_index masks (place / 8) / 2 ^ (place % 8)) 1 ≡ 1
    → bit_in masks place ≡ 1
unfolding bit_in
tested_bit masks place is = sym (shr_and_one (slice_index masks (place / 8)) (place % 8)) ∙ is

pub tested_clear : (masks : List ℕ) (place : ℕ) → (bit_and (slice_index masks (place / 8) / 2 ^ (place % 8)) 1 ≡ 1 → ⊥)
    → bit_in masks place ≡ 0
unfolding bit_in
tested_clear masks place isnt =
    let e = shr_and_one (slice_index masks (place / 8)) (place % 8) in
    let small = bit_at-lt (slice_index masks (place / 8)) (place % 8) in
    go _ small (λ one. isnt (e ∙ one))
  where
    go : (bit : ℕ) → bit < 2 → (bit ≡ 1 → ⊥) → bit ≡ 0
    go bit small ne = omega (arith, small, ne)

-- bytes that are seen as the same are kept the same way
pub same_plain : (plain masks plain' masks' : List ℕ) → AreKept plain masks → AreKept plain' masks'
    → given_in (bit_in masks) plain ≡ given_in (bit_in masks') plain' → plain ≡ plain'
same_plain plain masks plain' masks' kept kept' same =
    sym (plain_of-given_in (bit_in masks) plain kept.unset) ∙ ap plain_of same
    ∙ plain_of-given_in (bit_in masks') plain' kept'.unset

pub same_masks : (plain masks plain' masks' : List ℕ) → AreKept plain masks → AreKept plain' masks'
    → given_in (bit_in masks) plain ≡ given_in (bit_in masks') plain' → masks ≡ masks'
same_masks plain masks plain' masks' kept kept' same =
    same_number_lists masks masks' (kept.counted ∙ sym kept'.counted)
    (λ word h. same_from_bits_below 8 (slice_index masks word) (slice_index masks' word) (kept.small word)
    (kept'.small word) (λ k in_word. mask_of_kept plain masks word kept k in_word
    ∙ ap (λ given. mask_bit (unwrap_or (slice_get given (8 * word + k)) None)) same
    ∙ sym (mask_of_kept plain' masks' word kept' k in_word)))
