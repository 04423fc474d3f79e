-- Bytes among the words of a message or a page, each known or unknown.
use Rattle.std.proofs.Common.{◌≡◌, ◌∙◌, ℕ, zero, suc, ◌+◌, ◌-◌, ◌*◌, ◌/◌, ◌%◌, ◌^◌, ◌<◌, ◌≤◌, Bool, true, false, List, [], ◌∷◌, ◌++◌, length, take, drop, set, get_or, slice_get, slice_index, replicate, Option, Some, None, refl, sym, ap, arith}
use Rattle.std.specs.Int.{bit_at}
use Rattle.std.proofs.lemmas.List.{take_at, take-append-le, get_or_append_left, take-append-drop, length-replicate, take-replicate}
use Rattle.std.proofs.lemmas.List.Concat.{flat_map-append}
use Rattle.std.proofs.lemmas.Nat.Bits.{bit_at-zero}
use Rattle.tl_types.specs.Bytes.{bit_in, given_byte, given_in, bytes_of_words}
use Rattle.std.specs.Prelude.{option_map}
use Rattle.tl_types.proofs.Lists.{slice_get-take}
use Rattle.std.proofs.lemmas.List.{length-take-le}
use Rattle.tl_types.proofs.Given.{length-given_in, given_in-same, bit_in-set_here, slice_get-given_in}
use Rattle.tl_ops.specs.Number.{low_bytes}
use Rattle.tl_ops.specs.Cell.{word_bytes, lanes_of, cell_of}
use Rattle.tl_ops.proofs.Numbers.{to_le_bytes-low}
use Rattle.tl_ops.proofs.Bytes.{low_bytes-add, length-low_bytes}
use Rattle.tl_ops.proofs.LaneLists.{length-lanes_of, lanes_of-replicate, cell_read, byte_at_place}
use Rattle.check_cells.specs.Known.{known}
use Rattle.check_cells.specs.Bit.{known_bit, fill_of}

pub take-given_in : (bits : ℕ → ℕ) (n : ℕ) (bytes : List ℕ)
    → take n (given_in bits bytes) ≡ given_in bits (take n bytes)
take-given_in bits zero bytes = refl
take-given_in bits (suc n) [] = refl
take-given_in bits (suc n) (byte ∷ bytes) =
    ap (λ cells. given_byte (bits 0) byte ∷ cells) (take-given_in (λ k. bits (suc k)) n bytes)

pub drop-given_in : (bits : ℕ → ℕ) (n : ℕ) (bytes : List ℕ)
    → drop n (given_in bits bytes) ≡ given_in (λ k. bits (n + k)) (drop n bytes)
drop-given_in bits zero bytes = given_in-same bits (λ k. bits (0 + k)) bytes (λ k below. ap bits (omega arith))
drop-given_in bits (suc n) [] = refl
drop-given_in bits (suc n) (byte ∷ bytes) =
    drop-given_in (λ k. bits (suc k)) n bytes
    ∙ given_in-same (λ k. bits (suc (n + k))) (λ k. bits (suc n + k)) (drop n bytes)
    (λ k below. ap bits (omega arith))

-- a window of cells
pub window-given_in : (bits : ℕ → ℕ) (start width : ℕ) (bytes : List ℕ)
    → take width (drop start (given_in bits bytes)) ≡ given_in (λ k. bits (start + k)) (take width (drop start bytes))
window-given_in bits start width bytes = ap (take width) (drop-given_in bits start bytes)
    ∙ take-given_in (λ k. bits (start + k)) width (drop start bytes)

-- std's bytes of words
pub bytes_of-words : (words : List ℕ) → bytes_of_words words ≡ lanes_of words
unfolding lanes_of word_bytes
bytes_of-words [] = refl
bytes_of-words (w ∷ words) = ap (λ bytes. bytes ++ bytes_of_words words) (to_le_bytes-low w)
    ∙ ap (λ bytes. low_bytes 8 w ++ bytes) (bytes_of-words words)

lanes_of-append : (xs ys : List ℕ) → lanes_of (xs ++ ys) ≡ lanes_of xs ++ lanes_of ys
unfolding lanes_of
lanes_of-append xs ys = flat_map-append word_bytes xs ys

-- ---- room that is written from its front

-- one cell
first_cell : (words : List ℕ) (cell width : ℕ) → width ≤ 8 → 0 < length words
    → take width (lanes_of (set words 0 cell)) ≡ low_bytes width cell
unfolding lanes_of word_bytes
first_cell [] cell width in_word some = absurd (omega (arith, some))
first_cell (w ∷ words) cell width in_word some =
    let parts : 8 ≡ width + (8 - width) = omega (arith, in_word) in
    let wide : width ≤ length (low_bytes 8 cell) = omega (arith, length-low_bytes 8 cell, in_word) in
    take-append-le width (low_bytes 8 cell) (lanes_of words) wide
    ∙ ap (λ n. take width (low_bytes n cell)) parts ∙ ap (take width) (low_bytes-add width (8 - width) cell)
    ∙ take_at (low_bytes width cell) (low_bytes (8 - width) (cell / 2 ^ (8 * width))) width
    (length-low_bytes width cell)

pub cell_in_room : (words masks : List ℕ) (cell known width : ℕ) → width ≤ 8 → 0 < length words → 0 < length masks
    → take width (given_in (bit_in (set masks 0 known)) (lanes_of (set words 0 cell)))
    ≡ given_in (bit_at known) (low_bytes width cell)
cell_in_room words masks cell known width in_word some some' =
    let bits = bit_in (set masks 0 known) in
    take-given_in bits width (lanes_of (set words 0 cell))
    ∙ ap (given_in bits) (first_cell words cell width in_word some)
    ∙ given_in-same bits (bit_at known) (low_bytes width cell) (λ k below.
    let lane : k < 8 = omega (arith, below, in_word, length-low_bytes width cell) in
    let e : k % 8 ≡ k = omega (arith, lane) in
    bit_in-set_here masks 0 known k some' (omega (arith, lane)) ∙ ap (bit_at known) e)

bit_in-front : (front back : List ℕ) (place : ℕ) → place / 8 < length front
    → bit_in (front ++ back) place ≡ bit_in front place
unfolding bit_in
bit_in-front front back place within =
    ap (λ m. bit_at m (place % 8)) (get_or_append_left front back 0 (place / 8) within)

-- whole words
pub words_in_room : (words rest masks rest' : List ℕ) → length masks ≡ length words
    → take (8 * length words) (given_in (bit_in (masks ++ rest')) (lanes_of (words ++ rest)))
    ≡ given_in (bit_in masks) (lanes_of words)
words_in_room words rest masks rest' paired =
    let bits = bit_in (masks ++ rest') in
    let long : length (lanes_of words) ≡ 8 * length words = length-lanes_of words in
    take-given_in bits (8 * length words) (lanes_of (words ++ rest))
    ∙ ap (λ bytes. given_in bits (take (8 * length words) bytes)) (lanes_of-append words rest)
    ∙ ap (given_in bits) (take_at (lanes_of words) (lanes_of rest) (8 * length words) long)
    ∙ given_in-same bits (bit_in masks) (lanes_of words)
    (λ k below. bit_in-front masks rest' k (omega (arith, below, long, paired)))

-- ---- room

pub length-room : (words masks : List ℕ) (len : ℕ) → length words ≡ 32 → len ≤ 256
    → length (take len (given_in (bit_in masks) (lanes_of words))) ≡ len
length-room words masks len counted small =
    length-take-le len (given_in (bit_in masks) (lanes_of words))
    (omega (arith, length-given_in (bit_in masks) (lanes_of words), length-lanes_of words, counted, small))

-- ---- room that is filled

-- bytes that are known and zero
pub known_zeros : (n : ℕ) → replicate n (Some 0) ≡ known (replicate n 0)
known_zeros zero = refl
known_zeros (suc n) = ap (λ cells. Some 0 ∷ cells) (known_zeros n)

pub ones_bit : (known : Bool) (k : ℕ) → k < 8 → bit_at (255 * known_bit known) k ≡ known_bit known
ones_bit true zero lane = refl
ones_bit true (suc zero) lane = refl
ones_bit true (suc (suc zero)) lane = refl
ones_bit true (suc (suc (suc zero))) lane = refl
ones_bit true (suc (suc (suc (suc zero)))) lane = refl
ones_bit true (suc (suc (suc (suc (suc zero))))) lane = refl
ones_bit true (suc (suc (suc (suc (suc (suc zero)))))) lane = refl
ones_bit true (suc (suc (suc (suc (suc (suc (suc zero))))))) lane = refl
ones_bit true (suc (suc (suc (suc (suc (suc (suc (suc k)))))))) lane = absurd (omega (arith, lane))
ones_bit false k lane = bit_at-zero k

pub filled : (bits : ℕ → ℕ) (known : Bool) (n : ℕ) → ((k : ℕ) → k < n → bits k ≡ known_bit known)
    → given_in bits (replicate n 0) ≡ replicate n (fill_of known)
filled bits true zero are = refl
filled bits false zero are = refl
filled bits true (suc n) are =
    ap (λ b. given_byte b 0 ∷ given_in (λ k. bits (suc k)) (replicate n 0)) (are 0 (omega arith))
    ∙ ap (λ cells. Some 0 ∷ cells)
    (filled (λ k. bits (suc k)) true n (λ k below. are (suc k) (omega (arith, below))))
filled bits false (suc n) are =
    ap (λ b. given_byte b 0 ∷ given_in (λ k. bits (suc k)) (replicate n 0)) (are 0 (omega arith))
    ∙ ap (λ cells. None ∷ cells) (filled (λ k. bits (suc k)) false n
    (λ k below. are (suc k) (omega (arith, below))))

bit_in-word_of : (masks : List ℕ) (place mask : ℕ) → slice_index masks (place / 8) ≡ mask
    → bit_in masks place ≡ bit_at mask (place % 8)
unfolding bit_in
bit_in-word_of masks place mask is = ap (λ m. bit_at m (place % 8)) is

pub filled_bits : (masks : List ℕ) (known : Bool) (n : ℕ)
    → ((i : ℕ) → i < n → slice_index masks i ≡ 255 * known_bit known) → (k : ℕ) → k / 8 < n
    → bit_in masks k ≡ known_bit known
filled_bits masks known n are k below = bit_in-word_of masks k (255 * known_bit known) (are (k / 8) below)
    ∙ ones_bit known (k % 8) (omega arith)

-- cells of words that are zero, under masks that are all ones or all zeros
pub filled_room : (words masks : List ℕ) (known : Bool) (width n : ℕ) → width ≤ 8 * n → n ≤ length words
    → take n words ≡ replicate n 0 → ((i : ℕ) → i < n → slice_index masks i ≡ 255 * known_bit known)
    → take width (given_in (bit_in masks) (lanes_of words)) ≡ replicate width (fill_of known)
filled_room words masks known width n enough within zeros are =
    let bits = bit_in masks in
    let split : words ≡ replicate n 0 ++ drop n words = sym (take-append-drop n words)
    ∙ ap (λ ws. ws ++ drop n words) zeros in
    let lanes : lanes_of words ≡ replicate (8 * n) 0 ++ lanes_of (drop n words) = ap lanes_of split
    ∙ lanes_of-append (replicate n 0) (drop n words)
    ∙ ap (λ ws. ws ++ lanes_of (drop n words)) (lanes_of-replicate n) in
    let long : length (replicate {A = ℕ} (8 * n) 0) ≡ 8 * n = length-replicate {A = ℕ} (8 * n) 0 in
    take-given_in bits width (lanes_of words)
    ∙ ap (λ bytes. given_in bits (take width bytes)) lanes
    ∙ ap (given_in bits) (take-append-le width (replicate (8 * n) 0) (lanes_of (drop n words))
    (omega (arith, long, enough)) ∙ take-replicate width (8 * n) 0 enough)
    ∙ filled bits known width (λ k below. filled_bits masks known n are k (omega (arith, below, enough)))

-- the byte at a place of room
pub byte_in_room : (bits : ℕ → ℕ) (words : List ℕ) (len place byte : ℕ) (cell : Option ℕ) → place < len
    → place / 8 < length words → byte ≡ cell_of (get_or words (place / 8) 0) (place % 8) 1 → byte < 256
    → given_byte (bits place) byte ≡ cell
    → slice_get (take len (given_in bits (lanes_of words))) place ≡ Some cell
byte_in_room bits words len place byte cell below within is small given =
    let lanes = lanes_of words in
    let alone : byte ∷ [] ≡ low_bytes 1 byte = ap (λ b. b ∷ []) (omega (arith, small)) in
    let read : byte ∷ [] ≡ take 1 (drop place lanes) = alone ∙ ap (low_bytes 1) is
    ∙ cell_read words place 1 within (omega arith) in
    let here : slice_get lanes place ≡ Some byte = byte_at_place lanes place byte read in
    slice_get-take len (given_in bits lanes) place below ∙ slice_get-given_in bits lanes place
    ∙ ap (option_map (given_byte (bits place))) here ∙ ap (λ c. Some c) given
