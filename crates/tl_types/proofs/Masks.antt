-- Masks of words that are built whole: for bytes that are all given, and by flags.
use Rattle.std.proofs.Common.{◌≡◌, ◌==◌, ℕ, zero, suc, ◌+◌, ◌-◌, ◌*◌, ◌/◌, ◌%◌, ◌^◌, ◌<◌, ◌≤◌, ◌⊎◌, inl, inr, List, [], ◌∷◌, ◌++◌, length, take, drop, set, get_or, slice_index, Some, unwrap_or, replicate, min, not, cond, false, bit_or, refl, ap, sym, subst, ◌∙◌, arith, map}
use Rattle.std.proofs.lemmas.List.{append_assoc, drop_more, get_or-append_right, get_or-drop, get_or-take, length-map, length-take, length-take-le, set_at, take_all, take_more}
use Rattle.std.proofs.lemmas.Nat.{or_shifted, pow-add, shl_whole}
use Rattle.std.proofs.lemmas.Simd.{bit_mask_l, put_chunk_whole}
use lib.Lanes.{mask_l, put_chunk, sel_l, zip2}
use Rattle.std.proofs.lemmas.Bool.{cases_lt}
use Rattle.std.proofs.lemmas.Bool.Decides.{nat_tests}
use Rattle.std.specs.Int.{bit_at}
use Rattle.std.proofs.lemmas.Nat.Bits.{bit_at-suc, bit_at_lowest, bit_at_ones, bit_at_ones_above}
use Rattle.tl_types.specs.Bytes.{flag_bit, given_byte, given_in, plain_of, bit_in, AreKept}
use Rattle.tl_types.specs.declared.bytes.TheConstants.{MAX_WORDS}
use Rattle.tl_types.proofs.Given.{length-given_in, given_in-same, bit_in-blank, bit_in-set_here, bit_in-set_there, given_in-all, ones_are, slice_index-past}

flag_bit-lt : (flag : ℕ) → flag_bit flag < 2
flag_bit-lt zero = omega arith
flag_bit-lt (suc flag) = omega arith

-- the first n bits are set, and no other
abbrev pub AreFirst : List ℕ → ℕ → Type 0
AreFirst masks n = ((place : ℕ) → place < n → bit_in masks place ≡ 1)
    × ((place : ℕ) → n ≤ place → bit_in masks place ≡ 0)

pub none_first : AreFirst (replicate MAX_WORDS 0) 0
none_first = (λ place h. absurd (omega (arith, h)), λ place h. bit_in-blank place)

-- a word has its lowest bits set
pub first_grow : (masks : List ℕ) (word count : ℕ) → word < length masks → count ≤ 8 → AreFirst masks (8 * word)
    → AreFirst (set masks word (255 / 2 ^ (8 - count))) (8 * word + count)
first_grow masks word count within fits first =
    (λ place h. ones place h (cases_lt place (8 * word)), λ place h. zeros place h (cases_lt place (8 * word + 8)))
  where
    mask : ℕ
    mask = 255 / 2 ^ (8 - count)

    ones : (place : ℕ) → place < 8 * word + count → (place < 8 * word) ⊎ (8 * word ≤ place)
        → bit_in (set masks word mask) place ≡ 1
    ones place h (inl below) =
        bit_in-set_there masks word mask place (λ e. omega (arith, e, below)) ∙ first.0 place below
    ones place h (inr here) =
        bit_in-set_here masks word mask place within (omega (arith, h, here, fits))
        ∙ ap (λ m. bit_at m (place % 8)) (ones_are count fits)
        ∙ bit_at_ones count (place % 8) (omega (arith, h, here, fits))

    zeros : (place : ℕ) → 8 * word + count ≤ place → (place < 8 * word + 8) ⊎ (8 * word + 8 ≤ place)
        → bit_in (set masks word mask) place ≡ 0
    zeros place h (inl here) =
        bit_in-set_here masks word mask place within (omega (arith, h, here))
        ∙ ap (λ m. bit_at m (place % 8)) (ones_are count fits)
        ∙ bit_at_ones_above count (place % 8) (omega (arith, h, here))
    zeros place h (inr above) =
        bit_in-set_there masks word mask place (λ e. omega (arith, e, above)) ∙ first.1 place (omega (arith, h))

-- bytes that are all given are kept with as many bits
pub kept_first : (plain masks : List ℕ) → length masks ≡ MAX_WORDS → ((word : ℕ) → slice_index masks word < 256)
    → ((place : ℕ) → place < length plain → bit_in masks place ≡ 1)
    → ((place : ℕ) → length plain ≤ place → bit_in masks place ≡ 0) → AreKept plain masks
kept_first plain masks counted small ones past =
    record {
      counted = counted;
      small = small;
      unset = λ place clear. unset place clear (cases_lt place (length plain));
      past = past;
    }
  where
    unset : (place : ℕ) → bit_in masks place ≡ 0 → (place < length plain) ⊎ (length plain ≤ place)
        → slice_index plain place ≡ 0
    unset place clear (inl within) = let no : 1 ≡ 0 = sym (ones place within) ∙ clear in absurd (omega (arith, no))
    unset place clear (inr beyond) = slice_index-past plain place beyond

-- a whole word, and the front of the last one
pub first_more : (masks : List ℕ) (word : ℕ) → word < length masks → AreFirst masks (8 * word)
    → AreFirst (set masks word 255) (8 * (word + 1))
first_more masks word within first =
    let e : 8 * (word + 1) ≡ 8 * word + 8 = omega arith in
    rw e (first_grow masks word 8 within (omega arith) first)

pub first_end : (masks : List ℕ) (count : ℕ) → count / 8 < length masks → AreFirst masks (8 * (count / 8))
    → AreFirst (set masks (count / 8) (255 / 2 ^ (8 - count % 8))) count
first_end masks count within first =
    let e : 8 * (count / 8) + count % 8 ≡ count = omega arith in
    let grown = first_grow masks (count / 8) (count % 8) within (omega arith) first in
    (λ place h. grown.0 place (omega (arith, e, h)), λ place h. grown.1 place (omega (arith, e, h)))

-- one word at most has one mask
pub first_one : (count ones : ℕ) → ones ≡ 255 → count ≤ 8
    → AreFirst (set (replicate MAX_WORDS 0) 0 (ones / 2 ^ (8 - count))) count
first_one count ones is fits =
    let e : 8 * 0 + count ≡ count = omega arith in
    let grown = first_grow (replicate MAX_WORDS 0) 0 count (omega arith) fits none_first in
    rw is (λ place h. grown.0 place (omega (arith, e, h)), λ place h. grown.1 place (omega (arith, e, h)))

pub seen_first : (plain masks : List ℕ) → ((place : ℕ) → place < length plain → bit_in masks place ≡ 1)
    → given_in (bit_in masks) plain ≡ map (λ byte. Some byte) plain
seen_first plain masks ones = given_in-all (bit_in masks) plain ones

-- ---- by flags

-- the bits of the first n flags, and no other
abbrev pub AreFlagged : List ℕ → List ℕ → ℕ → Type 0
AreFlagged masks flags n =
    ((place : ℕ) → place < n → bit_in masks place ≡ flag_bit (slice_index flags place))
    × ((place : ℕ) → n ≤ place → bit_in masks place ≡ 0)

pub none_flagged : (flags : List ℕ) → AreFlagged (replicate MAX_WORDS 0) flags 0
none_flagged flags = (λ place h. absurd (omega (arith, h)), λ place h. bit_in-blank place)

-- a flag of the part that a word has
flag_of_part : (flags : List ℕ) (from count k : ℕ) → count ≡ min (length flags) (from + 8) - from → k < 8
    → slice_index (take count (drop from flags)) k ≡ slice_index flags (from + k)
flag_of_part flags from count k counted in_word = go (cases_lt k count)
  where
    go : (k < count) ⊎ (count ≤ k) → slice_index (take count (drop from flags)) k ≡ slice_index flags (from + k)
    go (inl within) = get_or-take count (drop from flags) k 0 within ∙ get_or-drop from flags k 0
    go (inr past) =
        let short = length-take count (drop from flags) in
        slice_index-past (take count (drop from flags)) k (omega (arith, short, past))
        ∙ sym (slice_index-past flags (from + k) (omega (arith, past, counted, in_word)))

pub flagged_more : (masks flags : List ℕ) (word mask count : ℕ) → word < length masks
    → count ≡ min (length flags) (8 * word + 8) - 8 * word
    → ((k : ℕ) → bit_at mask k ≡ flag_bit (slice_index (take count (drop (8 * word) flags)) k))
    → AreFlagged masks flags (8 * word) → AreFlagged (set masks word mask) flags (8 * (word + 1))
flagged_more masks flags word mask count within counted bits flagged = (
  λ place h. seen place h (cases_lt place (8 * word)),
  λ place h. bit_in-set_there masks word mask place (λ e. omega (arith, e, h)) ∙ flagged.1 place (omega (arith, h)),
)
  where
    seen : (place : ℕ) → place < 8 * (word + 1) → (place < 8 * word) ⊎ (8 * word ≤ place)
        → bit_in (set masks word mask) place ≡ flag_bit (slice_index flags place)
    seen place h (inl below) =
        bit_in-set_there masks word mask place (λ e. omega (arith, e, below)) ∙ flagged.0 place below
    seen place h (inr here) =
        let e : 8 * word + place % 8 ≡ place = omega (arith, h, here) in
        bit_in-set_here masks word mask place within (omega (arith, h, here)) ∙ bits (place % 8)
        ∙ ap flag_bit (flag_of_part flags (8 * word) count (place % 8) counted (omega arith)
        ∙ ap (slice_index flags) e)

-- past the flags there is no bit
pub all_flagged : (masks flags : List ℕ) (n : ℕ) → length flags ≤ n → AreFlagged masks flags n → (place : ℕ)
    → bit_in masks place ≡ flag_bit (slice_index flags place)
all_flagged masks flags n all flagged place = go (cases_lt place n)
  where
    go : (place < n) ⊎ (n ≤ place) → bit_in masks place ≡ flag_bit (slice_index flags place)
    go (inl below) = flagged.0 place below
    go (inr past) = flagged.1 place past ∙ ap flag_bit (sym (slice_index-past flags place (omega (arith, all, past))))

-- the flags of one word at most have one mask
pub flagged_one : (flags : List ℕ) (mask : ℕ) → length flags ≤ 8
    → ((k : ℕ) → bit_at mask k ≡ flag_bit (slice_index flags k)) → (place : ℕ)
    → bit_in (set (replicate MAX_WORDS 0) 0 mask) place ≡ flag_bit (slice_index flags place)
flagged_one flags mask short bits =
    let whole : take (length flags) flags ≡ flags = take_all (length flags) flags (omega arith) in
    let same : (k : ℕ) → bit_at mask k ≡ flag_bit (slice_index (take (length flags) flags) k) =
    λ k. bits k ∙ ap (λ fs. flag_bit (slice_index fs k)) (sym whole) in
    all_flagged (set (replicate MAX_WORDS 0) 0 mask) flags 8 short
    (flagged_more (replicate MAX_WORDS 0) flags 0 mask (length flags) (omega arith) (omega (arith, short)) same
    (none_flagged flags))

-- the bit of a flag among the lanes that are not zero
pub bit_of_flags : (flags : List ℕ) (k : ℕ)
    → bit_at (mask_l (map (λ flag. not (flag == 0)) flags)) k ≡ flag_bit (slice_index flags k)
bit_of_flags flags k = bit_mask_l (map (λ flag. not (flag == 0)) flags) k ∙ lane flags k
  where
    lane : (flags : List ℕ) (k : ℕ) → cond (get_or (map (λ flag. not (flag == 0)) flags) k false) 1 0 ≡ flag_bit
        (slice_index flags k)
    lane [] k = refl
    lane (zero ∷ flags) zero = refl
    lane (suc flag ∷ flags) zero = grind (arith, nat_tests)
    lane (flag ∷ flags) (suc k) = lane flags k

-- a flag below those that were gathered
pub flag_below : (flags : List ℕ) (k mask bit : ℕ) → 0 < k → k ≤ length flags → length flags ≤ 8
    → bit ≡ flag_bit (slice_index flags (k - 1)) → ((i : ℕ) → bit_at mask i ≡ flag_bit (slice_index flags (k + i)))
    → mask < 2 ^ (length flags - k)
    → ((i : ℕ) → bit_at (bit_or (mask * 2 % 256) bit) i ≡ flag_bit (slice_index flags (k - 1 + i)))
    × (bit_or (mask * 2 % 256) bit < 2 ^ (length flags - (k - 1)))
flag_below flags k mask bit some within short is bits small =
    (λ i. rw joined (seen i), rw (joined, more) (omega (arith, small, one)))
  where
    one : bit < 2
    one = rw is (flag_bit-lt (slice_index flags (k - 1)))

    more : 2 ^ (length flags - (k - 1)) ≡ 2 ^ (length flags - k) * 2
    more = ap (λ n. 2 ^ n) (omega (arith, some, within)) ∙ pow-add 2 (length flags - k) 1

    joined : bit_or (mask * 2 % 256) bit ≡ mask * 2 + bit
    joined = ap (λ x. bit_or x bit) (shl_whole mask (length flags - k) 1 8 small (omega (arith, some, within, short)))
        ∙ or_shifted mask 1 bit one

    seen : (i : ℕ) → bit_at (mask * 2 + bit) i ≡ flag_bit (slice_index flags (k - 1 + i))
    seen zero = let e : k - 1 + 0 ≡ k - 1 = omega arith in
        bit_at_lowest (mask * 2 + bit) ∙ omega (arith, one) ∙ is ∙ ap (λ n. flag_bit (slice_index flags n)) (sym e)
    seen (suc i) =
        let half : (mask * 2 + bit) / 2 ≡ mask = omega (arith, one) in
        let e : k + i ≡ k - 1 + suc i = omega (arith, some) in
        bit_at-suc (mask * 2 + bit) i ∙ ap (λ n. bit_at n i) half ∙ bits i ∙ ap (λ n. flag_bit (slice_index flags n)) e

-- ---- bytes that are cleared where they are unset

pub length-cleared : (flags : ℕ → ℕ) (plain : List ℕ) → length (plain_of (given_in flags plain)) ≡ length plain
length-cleared flags plain = length-map (given_in flags plain) (λ byte. unwrap_or byte 0) ∙ length-given_in flags plain

pub cleared_at : (flags : ℕ → ℕ) (plain : List ℕ) (k : ℕ) → k < length plain
    → slice_index (plain_of (given_in flags plain)) k ≡ unwrap_or (given_byte (flags k) (slice_index plain k)) 0
cleared_at flags [] k h = absurd (omega (arith, h))
cleared_at flags (byte ∷ plain) zero h = refl
cleared_at flags (byte ∷ plain) (suc k) h = cleared_at (λ n. flags (suc n)) plain k (omega (arith, h))

-- one more byte of xs in the place of that of ys
pub replaced_more : (xs ys : List ℕ) (k : ℕ) → length xs ≡ length ys → k < length ys
    → set (take k xs ++ drop k ys) k (slice_index xs k) ≡ take (k + 1) xs ++ drop (k + 1) ys
replaced_more xs ys k long within =
    let split = drop_more ys k 0 within in
    let front = length-take-le k xs (omega (arith, long, within)) in
    ap (λ zs. set (take k xs ++ zs) k (slice_index xs k)) split
    ∙ set_at (take k xs) (slice_index ys k) (drop (k + 1) ys) (slice_index xs k) k front
    ∙ sym (append_assoc (take k xs) (slice_index xs k ∷ []) (drop (k + 1) ys))
    ∙ ap (λ zs. zs ++ drop (k + 1) ys) (sym (take_more xs k 0 (omega (arith, long, within))))

pub replaced_at : (xs ys : List ℕ) (k : ℕ) → length xs ≡ length ys → k < length ys
    → slice_index (take k xs ++ drop k ys) k ≡ slice_index ys k
replaced_at xs ys k long within =
    let front = length-take-le k xs (omega (arith, long, within)) in
    get_or-append_right (take k xs) (drop k ys) k k 0 front (omega arith)
    ∙ ap (λ n. get_or (drop k ys) n 0) (omega arith) ∙ get_or-drop k ys 0 0 ∙ ap (slice_index ys) (omega arith)

-- the byte at a place is cleared, or left
pub cleared_to : (flags : ℕ → ℕ) (old bytes : List ℕ) (k byte : ℕ)
    → bytes ≡ take k (plain_of (given_in flags old)) ++ drop k old → k < length old
    → byte ≡ unwrap_or (given_byte (flags k) (slice_index bytes k)) 0
    → set bytes k byte ≡ take (k + 1) (plain_of (given_in flags old)) ++ drop (k + 1) old
cleared_to flags old bytes k byte so_far within is =
    let new = plain_of (given_in flags old) in
    let long = length-cleared flags old in
    let there : slice_index bytes k ≡ slice_index old k =
    ap (λ xs. slice_index xs k) so_far ∙ replaced_at new old k long within in
    let made : byte ≡ slice_index new k =
    is ∙ ap (λ b. unwrap_or (given_byte (flags k) b) 0) there ∙ sym (cleared_at flags old k within) in
    rw (made, so_far) (replaced_more new old k long within)

-- the lanes of bytes, zero where that of a flag is
lane_cleared : (flag byte : ℕ) → cond (flag == 0) 0 byte ≡ unwrap_or (given_byte flag byte) 0
lane_cleared zero byte = refl
lane_cleared (suc flag) byte = grind (arith, nat_tests)

pub lanes_cleared : (flags plain : List ℕ) → length flags ≡ length plain
    → sel_l (zip2 (λ x y. x == y) flags (replicate (length plain) 0)) (replicate (length plain) 0) plain ≡ plain_of
    (given_in (slice_index flags) plain)
lanes_cleared [] [] same = refl
lanes_cleared [] (byte ∷ plain) same = absurd (omega (arith, same))
lanes_cleared (flag ∷ flags) [] same = absurd (omega (arith, same))
lanes_cleared (flag ∷ flags) (byte ∷ plain) same =
    let rest = lanes_cleared flags plain (omega (arith, same)) in
    rw (lane_cleared flag byte, rest) refl

-- a word is cleared by its lanes
pub word_cleared : (flags plain : List ℕ) → length plain ≡ 8 → 8 ≤ length flags
    → put_chunk 0 plain (sel_l (zip2 (λ x y. x == y) (take 8 flags) (replicate 8 0)) (replicate 8 0)
    (take 8 plain)) ≡ plain_of (given_in (slice_index flags) plain)
word_cleared flags plain word enough =
    let new = plain_of (given_in (slice_index flags) plain) in
    let lanes = lanes_cleared (take 8 flags) plain (omega (arith, length-take 8 flags, word, enough)) in
    let of_word : sel_l (zip2 (λ x y. x == y) (take 8 flags) (replicate 8 0)) (replicate 8 0) plain ≡ plain_of
    (given_in (slice_index (take 8 flags)) plain) =
    subst (λ n. sel_l (zip2 (λ x y. x == y) (take 8 flags) (replicate n 0)) (replicate n 0) plain ≡ plain_of
    (given_in (slice_index (take 8 flags)) plain)) word lanes in
    let seen = given_in-same (slice_index (take 8 flags)) (slice_index flags) plain
    (λ k h. get_or-take 8 flags k 0 (omega (arith, h, word))) in
    ap (λ xs. put_chunk 0 plain (sel_l (zip2 (λ x y. x == y) (take 8 flags) (replicate 8 0)) (replicate 8 0) xs))
    (take_all 8 plain (omega (arith, word)))
    ∙ ap (put_chunk 0 plain) (of_word ∙ ap plain_of seen)
    ∙ put_chunk_whole plain new (sym (length-cleared (slice_index flags) plain))

-- ---- cleared bytes with the bits of their flags

-- a cleared byte under the bit of its flag is the given one
cleared_byte : (flag byte : ℕ) → given_byte (flag_bit flag) (unwrap_or (given_byte flag byte) 0) ≡ given_byte flag byte
cleared_byte zero byte = refl
cleared_byte (suc flag) byte = refl

pub seen_flagged : (bits flags : ℕ → ℕ) (plain : List ℕ) → ((k : ℕ) → k < length plain → bits k ≡ flag_bit (flags k))
    → given_in bits (plain_of (given_in flags plain)) ≡ given_in flags plain
seen_flagged bits flags [] is = refl
seen_flagged bits flags (byte ∷ plain) is =
    let first : given_byte (bits 0) (unwrap_or (given_byte (flags 0) byte) 0) ≡ given_byte (flags 0) byte =
    ap (λ b. given_byte b (unwrap_or (given_byte (flags 0) byte) 0)) (is 0 (omega arith))
    ∙ cleared_byte (flags 0) byte in
    let rest = seen_flagged (λ k. bits (suc k)) (λ k. flags (suc k)) plain (λ k h. is (suc k) (omega (arith, h))) in
    rw (first, rest) refl

clear_byte : (flag byte : ℕ) → flag_bit flag ≡ 0 → unwrap_or (given_byte flag byte) 0 ≡ 0
clear_byte zero byte none = refl
clear_byte (suc flag) byte none = absurd (omega (arith, none))

pub kept_flagged : (plain masks flags : List ℕ) → length masks ≡ MAX_WORDS → ((word : ℕ) → slice_index masks word < 256)
    → length plain ≤ length flags
    → ((place : ℕ) → bit_in masks place ≡ flag_bit (slice_index (take (length plain) flags) place))
    → AreKept (plain_of (given_in (slice_index flags) plain)) masks
kept_flagged plain masks flags counted small enough bits = record {
  counted = counted;
  small = small;
  unset = λ place clear. unset place clear (cases_lt place (length plain));
  past = λ place h. bits place ∙ ap flag_bit
      (slice_index-past (take (length plain) flags) place (omega (arith, h, long, length-take (length plain) flags)));
}
  where
    long : length (plain_of (given_in (slice_index flags) plain)) ≡ length plain
    long = length-cleared (slice_index flags) plain

    unset : (place : ℕ) → bit_in masks place ≡ 0 → (place < length plain) ⊎ (length plain ≤ place)
        → slice_index (plain_of (given_in (slice_index flags) plain)) place ≡ 0
    unset place clear (inl within) =
        let flag : flag_bit (slice_index flags place) ≡ 0 =
        ap flag_bit (sym (get_or-take (length plain) flags place 0 within)) ∙ sym (bits place) ∙ clear in
        cleared_at (slice_index flags) plain place within
        ∙ clear_byte (slice_index flags place) (slice_index plain place) flag
    unset place clear (inr beyond) =
        slice_index-past (plain_of (given_in (slice_index flags) plain)) place (omega (arith, long, beyond))

-- the bits of the first flags
pub front_bits : (plain masks flags : List ℕ)
    → ((place : ℕ) → bit_in masks place ≡ flag_bit (slice_index (take (length plain) flags) place)) → (k : ℕ)
    → k < length plain → bit_in masks k ≡ flag_bit (slice_index flags k)
front_bits plain masks flags bits k within = bits k ∙ ap flag_bit (get_or-take (length plain) flags k 0 within)
