-- Bytes of which those are known whose bits are set, appended word by word and byte by byte.
use Rattle.std.proofs.Common.{slice_get, ◌≡◌, ◌∙◌, ◌⊎◌, ⊎_elim, ℕ, ◌+◌, ◌-◌, ◌*◌, ◌/◌, ◌%◌, ◌^◌, ◌<◌, ◌≤◌, min, List, [], ◌∷◌, ◌++◌, length, take, drop, set, get_or, Option, None, Some, bit_and, sym, ap, arith}
use Rattle.std.specs.Int.{bit_at}
use Rattle.std.proofs.Math.Seq.{take-add}
use Rattle.std.proofs.lemmas.List.{take_at, take_more, take_all, length-take-le, length-append, append-nil, drop-take, drop-drop, take-take}
use Rattle.std.proofs.lemmas.Nat.Bits.{bit_at-lt, bit_at_and, bit_at_ones, shr_and_one}
use Rattle.std.proofs.lemmas.Option.{slice_get-get_or, get_or_from_slice_get}
use Rattle.std.specs.Prelude.{option_map}
use Rattle.tl_types.specs.Bytes.{bit_in, given_byte, given_in}
use Rattle.tl_types.proofs.Given.{given_in-same, length-given_in, slice_get-given_in, bit_in-set_here, bit_in-set_there}
use Rattle.tl_ops.specs.Store.{with_window}
use Rattle.tl_ops.specs.Number.{low_bytes}
use Rattle.tl_ops.specs.Cell.{word_bytes, lanes_of, cell_of}
use Rattle.tl_ops.proofs.Bytes.{length-low_bytes}
use Rattle.tl_ops.proofs.LaneLists.{length-lanes_of, word_written, cell_read}
use Rattle.check_cells.proofs.Bits.{bit_at-shr}
use Rattle.check_cells.proofs.Lanes.{window-given_in}
use Rattle.check_cells.proofs.Written.{written}

-- the mask of a word among the bits of a longer one
pub mask_of_word : (known place k : ℕ) → k < 8 → bit_at (bit_and (known / 2 ^ place) 255) k ≡ bit_at known (place + k)
mask_of_word known place k below =
    bit_at_and (known / 2 ^ place) 255 k
    ∙ ap (λ b. min (bit_at (known / 2 ^ place) k) b) (bit_at_ones 8 k below)
    ∙ one (bit_at (known / 2 ^ place) k) (bit_at-lt (known / 2 ^ place) k) ∙ bit_at-shr known place k
  where
    one : (b : ℕ) → b < 2 → min b 1 ≡ b
    one b small = omega (arith, small)

-- that of the first word
pub first_mask : (known k : ℕ) → k < 8 → bit_at (bit_and known 255) k ≡ bit_at known k
first_mask known k below =
    bit_at_and known 255 k ∙ ap (λ b. min (bit_at known k) b) (bit_at_ones 8 k below)
    ∙ one (bit_at known k) (bit_at-lt known k)
  where
    one : (b : ℕ) → b < 2 → min b 1 ≡ b
    one b small = omega (arith, small)

-- a word more at the end of room
pub word_pushed : (words masks : List ℕ) (len word known : ℕ) → len % 8 ≡ 0 → len / 8 < length words
    → length masks ≡ length words
    → take (len + 8) (given_in (bit_in (set masks (len / 8) known)) (lanes_of (set words (len / 8) word)))
    ≡ take len (given_in (bit_in masks) (lanes_of words)) ++ given_in (bit_at known) (low_bytes 8 word)
word_pushed words masks len word known whole within paired =
    let i = len / 8 in
    let masks' = set masks i known in
    let lanes = lanes_of words in
    let new = low_bytes 8 word in
    let cells = given_in (bit_in masks) lanes in
    let shown = given_in (bit_at known) new in
    let at : 8 * i ≡ len = omega (arith, whole) in
    let long : length new ≡ 8 = length-low_bytes 8 word in
    let counted : length shown ≡ 8 = length-given_in (bit_at known) new ∙ long in
    let room : len + 8 ≤ length lanes = omega (arith, within, length-lanes_of words, at) in
    let is : given_in (λ k. bit_in masks' (len + k)) new ≡ shown =
    given_in-same (λ k. bit_in masks' (len + k)) (bit_at known) new (λ k below.
    let lane : k < 8 = omega (arith, below, long) in
    let here : (len + k) / 8 ≡ i = omega (arith, whole, lane) in
    let spot : (len + k) % 8 ≡ k = omega (arith, whole, lane) in
    bit_in-set_here masks i known (len + k) (omega (arith, within, paired)) here ∙ ap (bit_at known) spot) in
    let outside : (place : ℕ) → (place < len) ⊎ (len + length new ≤ place)
    → bit_in masks' place ≡ bit_in masks place =
    λ place where_. bit_in-set_there masks i known place (λ same.
    ⊎_elim (λ below. omega (arith, below, same, at)) (λ above. omega (arith, above, same, at, long)) where_) in
    let wide : length (take len cells) ≡ len =
    length-take-le len cells (omega (arith, room, length-given_in (bit_in masks) lanes)) in
    let front : length (take len cells ++ shown) ≡ len + 8 =
    length-append (take len cells) shown ∙ omega (arith, wide, counted) in
    ap (λ bytes. take (len + 8) (given_in (bit_in masks') bytes))
    (word_written words i word within ∙ ap (λ n. with_window lanes n new) at)
    ∙ ap (take (len + 8)) (written masks masks' lanes len new shown (omega (arith, room, long)) is outside)
    ∙ take_at (take len cells ++ shown) (drop (len + length shown) cells) (len + 8) front

-- a word more of bytes
pub word_more : (known w word mask : ℕ) (bytes : List ℕ) → low_bytes 8 word ≡ take 8 (drop (8 * w) bytes)
    → ((k : ℕ) → k < 8 → bit_at mask k ≡ bit_at known (8 * w + k))
    → take (8 * w) (given_in (bit_at known) bytes) ++ given_in (bit_at mask) (low_bytes 8 word)
    ≡ take (8 * (w + 1)) (given_in (bit_at known) bytes)
word_more known w word mask bytes is bits =
    let shown = given_in (bit_at known) bytes in
    let more : 8 * (w + 1) ≡ 8 * w + 8 = omega arith in
    let part : given_in (bit_at mask) (low_bytes 8 word) ≡ take 8 (drop (8 * w) shown) =
    given_in-same (bit_at mask) (λ k. bit_at known (8 * w + k)) (low_bytes 8 word)
    (λ k below. bits k (omega (arith, below, length-low_bytes 8 word)))
    ∙ ap (given_in (λ k. bit_at known (8 * w + k))) is ∙ sym (window-given_in (bit_at known) (8 * w) 8 bytes) in
    ap (λ c. take (8 * w) shown ++ c) part ∙ sym (ap (λ n. take n shown) more ∙ take-add (8 * w) 8 shown)

-- a byte more
pub byte_more : (known k : ℕ) (bytes : List ℕ) → k < length bytes
    → take k (given_in (bit_at known) bytes) ++ given_byte (bit_and (known / 2 ^ k) 1) (get_or bytes k 0) ∷ []
    ≡ take (k + 1) (given_in (bit_at known) bytes)
byte_more known k bytes within =
    let shown = given_in (bit_at known) bytes in
    let byte = given_byte (bit_at known k) (get_or bytes k 0) in
    let there : length shown ≡ length bytes = length-given_in (bit_at known) bytes in
    let at : slice_get shown k ≡ Some byte = slice_get-given_in (bit_at known) bytes k
    ∙ ap (option_map (given_byte (bit_at known k))) (slice_get-get_or bytes k 0 within) in
    ap (λ b. take k shown ++ given_byte b (get_or bytes k 0) ∷ []) (shr_and_one known k)
    ∙ ap (λ c. take k shown ++ c ∷ []) (sym (get_or_from_slice_get shown k byte None at))
    ∙ sym (take_more shown k None (omega (arith, within, there)))

-- how long a list is with some of them appended
pub length-front : (known n : ℕ) (now : List (Option ℕ)) (bytes : List ℕ) → n ≤ length bytes
    → length (now ++ take n (given_in (bit_at known) bytes)) ≡ length now + n
length-front known n now bytes fits =
    let shown = given_in (bit_at known) bytes in
    length-append now (take n shown)
    ∙ ap (λ m. length now + m) (length-take-le n shown (omega (arith, fits, length-given_in (bit_at known) bytes)))

-- all of them
pub all_seen : (known n : ℕ) (bytes : List ℕ) → length bytes ≤ n
    → take n (given_in (bit_at known) bytes) ≡ given_in (bit_at known) bytes
all_seen known n bytes enough =
    take_all n (given_in (bit_at known) bytes) (omega (arith, enough, length-given_in (bit_at known) bytes))

-- a part of the bytes of one word
pub part_of_word : (bytes : List ℕ) (word lane count start : ℕ) → word + lane ≡ start → lane + count ≤ 8
    → take count (drop lane (take 8 (drop word bytes))) ≡ take count (drop start bytes)
part_of_word bytes word lane count start at in_word =
    let more : lane + (8 - lane) ≡ 8 = omega (arith, in_word) in
    let fits : count ≤ 8 - lane = omega (arith, in_word) in
    ap (λ n. take count (drop lane (take n (drop word bytes)))) (sym more)
    ∙ ap (take count) (drop-take lane (8 - lane) (drop word bytes))
    ∙ take-take count (8 - lane) (drop lane (drop word bytes)) fits
    ∙ ap (take count) (drop-drop lane word bytes ∙ ap (λ n. drop n bytes) at)

-- a part of a word, cut out of it as a number
pub part_cut : (word lane width : ℕ) → 0 < width → lane + width ≤ 8
    → low_bytes width (cell_of word lane width) ≡ take width (drop lane (low_bytes 8 word))
unfolding lanes_of word_bytes
part_cut word lane width some in_word =
    let zero : lane / 8 ≡ 0 = omega (arith, some, in_word) in
    let same : lane % 8 ≡ lane = omega (arith, some, in_word) in
    ap (λ l. low_bytes width (cell_of word l width)) (sym same)
    ∙ ap (λ i. low_bytes width (cell_of (get_or (word ∷ []) i 0) (lane % 8) width)) (sym zero)
    ∙ cell_read (word ∷ []) lane width (omega (arith, zero)) (omega (arith, same, in_word))
    ∙ ap (λ bytes. take width (drop lane bytes)) (append-nil (low_bytes 8 word))

-- a part of the bytes, with the bits moved to its front
pub part_seen : (known start count : ℕ) (bytes : List ℕ)
    → given_in (bit_at (known / 2 ^ start)) (take count (drop start bytes))
    ≡ take count (drop start (given_in (bit_at known) bytes))
part_seen known start count bytes =
    given_in-same (bit_at (known / 2 ^ start)) (λ k. bit_at known (start + k)) (take count (drop start bytes))
    (λ k below. bit_at-shr known start k)
    ∙ sym (window-given_in (bit_at known) start count bytes)
