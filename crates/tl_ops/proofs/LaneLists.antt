-- The bytes of words: what one word adds, a cell read, and a cell replaced.
use Rattle.std.proofs.Common.{◌≡◌, ℕ, zero, suc, ◌+◌, ◌-◌, ◌*◌, ◌/◌, ◌%◌, ◌^◌, ◌<◌, ◌≤◌, List, [], ◌∷◌, ◌++◌, length, take, take-add, drop, set, get_or, replicate, slice_get, Some, refl, sym, ap, ◌∙◌, arith}
use Rattle.std.proofs.lemmas.Nat.{pow_pos, mod_below, shr_high}
use Rattle.std.proofs.lemmas.List.{append_assoc, drop-drop, length-append, take_at, drop_at, length-take-le, length-drop, set-get_or}
use Rattle.tl_types.specs.Bytes.{bytes_of_words}
use Rattle.tl_ops.specs.Number.{low_bytes}
use Rattle.tl_ops.specs.Store.{with_window}
use Rattle.tl_ops.specs.Cell.{word_bytes, lanes_of, cell_of, with_cell}
use Rattle.tl_ops.proofs.Numbers.{to_le_bytes-low}
use Rattle.tl_ops.proofs.Bytes.{length-low_bytes, low_bytes-add, low_bytes-mod, low_bytes-above}

-- ---- lists in three parts

-- the middle of a list
pub middle : (front old rest : List ℕ) (start n : ℕ) → length front ≡ start → length old ≡ n
    → take n (drop start (front ++ (old ++ rest))) ≡ old
middle front old rest start n at wide = rw (drop_at front (old ++ rest) start at) (take_at old rest n wide)

-- the middle of a list, replaced
pub middle_replaced : (front old rest new : List ℕ) (start : ℕ) → length front ≡ start → length new ≡ length old
    → with_window (front ++ (old ++ rest)) start new ≡ front ++ (new ++ rest)
middle_replaced front old rest new start at wide =
    let wide_front : length (front ++ old) ≡ start + length new = length-append front old ∙ omega (arith, at, wide) in
    let head : take start (front ++ (old ++ rest)) ≡ front = take_at front (old ++ rest) start at in
    let tail : drop (start + length new) (front ++ (old ++ rest)) ≡ rest =
    rw (← append_assoc) (drop_at (front ++ old) rest (start + length new) wide_front) in
    rw (head, tail) (append_assoc front new rest)

-- ---- words

pub length-word_bytes : (word : ℕ) → length (word_bytes word) ≡ 8
unfolding word_bytes
length-word_bytes word = length-low_bytes 8 word

pub length-lanes_of : (words : List ℕ) → length (lanes_of words) ≡ 8 * length words
unfolding lanes_of
length-lanes_of [] = refl
length-lanes_of (w ∷ words) = rw length-append (omega (arith, length-word_bytes w, length-lanes_of words))

pub lanes_of-replicate : (n : ℕ) → lanes_of (replicate n 0) ≡ replicate (8 * n) 0
unfolding lanes_of word_bytes
lanes_of-replicate zero = refl
lanes_of-replicate (suc n) =
    let e : 8 * suc n ≡ suc (suc (suc (suc (suc (suc (suc (suc (8 * n)))))))) = omega arith in
    rw e (ap (λ bs. 0 ∷ 0 ∷ 0 ∷ 0 ∷ 0 ∷ 0 ∷ 0 ∷ 0 ∷ bs) (lanes_of-replicate n))

-- the words before one, its bytes, and the words after it
pub lanes_set : (words : List ℕ) (i word : ℕ) → i < length words
    → lanes_of (set words i word) ≡ lanes_of (take i words) ++ (word_bytes word ++ lanes_of (drop (suc i) words))
unfolding lanes_of
lanes_set [] i word within = absurd (omega (arith, within))
lanes_set (w ∷ words) zero word within = refl
lanes_set (w ∷ words) (suc i) word within =
    rw append_assoc (ap (λ bs. word_bytes w ++ bs) (lanes_set words i word (omega (arith, within))))

pub lanes_at : (words : List ℕ) (i d : ℕ) → i < length words
    → lanes_of words ≡ lanes_of (take i words) ++ (word_bytes (get_or words i d) ++ lanes_of (drop (suc i) words))
unfolding lanes_of
lanes_at [] i d within = absurd (omega (arith, within))
lanes_at (w ∷ words) zero d within = refl
lanes_at (w ∷ words) (suc i) d within =
    rw append_assoc (ap (λ bs. word_bytes w ++ bs) (lanes_at words i d (omega (arith, within))))

-- ---- the cell of a word

-- what lies above a cell of a word
abbrev pub above : ℕ → ℕ → ℕ → ℕ
above word lane width = word / 2 ^ (8 * lane) / 2 ^ (8 * width)

pub word_bytes-cell : (word lane width : ℕ) → lane + width ≤ 8
    → word_bytes word ≡ low_bytes lane word ++
    (low_bytes width (cell_of word lane width) ++ low_bytes (8 - lane - width) (above word lane width))
unfolding word_bytes
word_bytes-cell word lane width fits =
    let parts : 8 ≡ lane + (width + (8 - lane - width)) = omega arith in
    let high = word / 2 ^ (8 * lane) in
    let cell = ap (λ bs. bs ++ low_bytes (8 - lane - width) (above word lane width)) (sym (low_bytes-mod width high)) in
    ap (λ n. low_bytes n word) parts ∙ low_bytes-add lane (width + (8 - lane - width)) word
    ∙ ap (λ bs. low_bytes lane word ++ bs) (low_bytes-add width (8 - lane - width) high ∙ cell)

pub word_bytes-with_cell : (word lane width cell : ℕ) → lane + width ≤ 8 → cell < 2 ^ (8 * width)
    → word_bytes (with_cell word lane width cell) ≡ low_bytes lane word
    ++ (low_bytes width cell ++ low_bytes (8 - lane - width) (above word lane width))
unfolding word_bytes
word_bytes-with_cell word lane width cell fits small =
    let parts : 8 ≡ lane + (width + (8 - lane - width)) = omega arith in
    let high = above word lane width * 2 ^ (8 * width) + cell in
    let low = word % 2 ^ (8 * lane) in
    let new = with_cell word lane width cell in
    let low_fits : low < 2 ^ (8 * lane) = mod_below word (2 ^ (8 * lane)) (pow_pos (8 * lane)) in
    let front : low_bytes lane new ≡ low_bytes lane word =
    low_bytes-above lane low high low_fits ∙ low_bytes-mod lane word in
    let rest : new / 2 ^ (8 * lane) ≡ high = shr_high high (8 * lane) low low_fits in
    let mid : low_bytes width high ≡ low_bytes width cell = low_bytes-above width cell (above word lane width) small in
    let end : high / 2 ^ (8 * width) ≡ above word lane width =
    shr_high (above word lane width) (8 * width) cell small in
    ap (λ n. low_bytes n new) parts ∙ low_bytes-add lane (width + (8 - lane - width)) new
    ∙ rw (front, rest, low_bytes-add width (8 - lane - width) high, mid, end) refl

-- ---- a cell among words

regroup : (before low cell high after : List ℕ)
    → before ++ ((low ++ (cell ++ high)) ++ after) ≡ (before ++ low) ++ (cell ++ (high ++ after))
regroup before low cell high after = simp append_assoc

-- the words with the one at a place replaced, around a cell of it
lanes_around : (words : List ℕ) (i word lane width : ℕ) (cell : List ℕ) (was : ℕ) → i < length words
    → word_bytes word ≡ low_bytes lane was ++ (cell ++ low_bytes (8 - lane - width) (above was lane width))
    → lanes_of (set words i word) ≡ (lanes_of (take i words) ++ low_bytes lane was)
    ++ (cell ++ (low_bytes (8 - lane - width) (above was lane width) ++ lanes_of (drop (suc i) words)))
lanes_around words i word lane width cell was within parts =
    lanes_set words i word within ∙ ap (λ bs. lanes_of (take i words) ++ (bs ++ lanes_of (drop (suc i) words))) parts
    ∙ regroup (lanes_of (take i words)) (low_bytes lane was) cell
    (low_bytes (8 - lane - width) (above was lane width)) (lanes_of (drop (suc i) words))

-- what lies before a cell is as long as the cell's place says
front_long : (words : List ℕ) (start was : ℕ) → start / 8 < length words
    → length (lanes_of (take (start / 8) words) ++ low_bytes (start % 8) was) ≡ start
front_long words start was within =
    length-append (lanes_of (take (start / 8) words)) (low_bytes (start % 8) was)
    ∙ omega (
      arith,
      length-lanes_of (take (start / 8) words),
      length-low_bytes (start % 8) was,
      length-take-le (start / 8) words (omega (arith, within)),
    )

pub cell_read : (words : List ℕ) (start width : ℕ) → start / 8 < length words → start % 8 + width ≤ 8
    → low_bytes width (cell_of (get_or words (start / 8) 0) (start % 8) width) ≡ take width
    (drop start (lanes_of words))
cell_read words start width within fits =
    let word = get_or words (start / 8) 0 in
    let around = lanes_around words (start / 8) word (start % 8) width
    (low_bytes width (cell_of word (start % 8) width)) word within (word_bytes-cell word (start % 8) width fits) in
    let same : set words (start / 8) word ≡ words = set-get_or words (start / 8) 0 in
    let lanes = sym (ap lanes_of same) ∙ around in
    rw lanes (sym (middle _ _ _ start width (front_long words start word within) (length-low_bytes width _)))

pub cell_written : (words : List ℕ) (start width cell : ℕ) → start / 8 < length words → start % 8 + width ≤ 8
    → cell < 2 ^ (8 * width)
    → lanes_of (set words (start / 8) (with_cell (get_or words (start / 8) 0) (start % 8) width cell)) ≡ with_window
    (lanes_of words) start (low_bytes width cell)
cell_written words start width cell within fits small =
    let word = get_or words (start / 8) 0 in
    let old = low_bytes width (cell_of word (start % 8) width) in
    let around = lanes_around words (start / 8) word (start % 8) width old word within
    (word_bytes-cell word (start % 8) width fits) in
    let same : set words (start / 8) word ≡ words = set-get_or words (start / 8) 0 in
    let lanes = sym (ap lanes_of same) ∙ around in
    let wide : length (low_bytes width cell) ≡ length old =
    length-low_bytes width cell ∙ sym (length-low_bytes width _) in
    let new = lanes_around words (start / 8) (with_cell word (start % 8) width cell) (start % 8) width
    (low_bytes width cell) word within (word_bytes-with_cell word (start % 8) width cell fits small) in
    rw lanes (new ∙ sym (middle_replaced _ old _ (low_bytes width cell) start
    (front_long words start word within) wide))

-- how long bytes are when some of them are replaced
pub length-with_window : (bytes : List ℕ) (start : ℕ) (new : List ℕ) → start + length new ≤ length bytes
    → length (with_window bytes start new) ≡ length bytes
length-with_window bytes start new fits =
    length-append (take start bytes ++ new) (drop (start + length new) bytes)
    ∙ omega (
      arith,
      length-append (take start bytes) new,
      length-take-le start bytes (omega (arith, fits)),
      length-drop (start + length new) bytes,
    )

-- ---- a whole word

words_long : (words : List ℕ) (i : ℕ) → i < length words → length (lanes_of (take i words)) ≡ 8 * i
words_long words i within =
    length-lanes_of (take i words) ∙ omega (arith, length-take-le i words (omega (arith, within)))

pub word_read : (words : List ℕ) (i : ℕ) → i < length words
    → low_bytes 8 (get_or words i 0) ≡ take 8 (drop (8 * i) (lanes_of words))
unfolding word_bytes
word_read words i within =
    let word = get_or words i 0 in
    rw (lanes_at words i 0 within) (sym (middle (lanes_of (take i words)) (word_bytes word)
    (lanes_of (drop (suc i) words)) (8 * i) 8 (words_long words i within) (length-word_bytes word)))

pub word_written : (words : List ℕ) (i word : ℕ) → i < length words
    → lanes_of (set words i word) ≡ with_window (lanes_of words) (8 * i) (low_bytes 8 word)
unfolding word_bytes
word_written words i word within =
    let was = get_or words i 0 in
    let wide : length (word_bytes word) ≡ length (word_bytes was) =
    length-word_bytes word ∙ sym (length-word_bytes was) in
    rw (lanes_at words i 0 within) (lanes_set words i word within
    ∙ sym (middle_replaced (lanes_of (take i words)) (word_bytes was) (lanes_of (drop (suc i) words))
    (word_bytes word) (8 * i) (words_long words i within) wide))

-- words from one on
lanes_before : (words : List ℕ) (n : ℕ) → n ≤ length words → take (8 * n) (lanes_of words) ≡ lanes_of (take n words)
unfolding lanes_of
lanes_before words zero within = refl
lanes_before [] (suc n) within = absurd (omega (arith, within))
lanes_before (w ∷ words) (suc n) within =
    let e : 8 * suc n ≡ 8 + 8 * n = omega arith in
    ap (λ k. take k (word_bytes w ++ lanes_of words)) e ∙ take-add 8 (8 * n) (word_bytes w ++ lanes_of words)
    ∙ rw (
      take_at (word_bytes w) (lanes_of words) 8 (length-word_bytes w),
      drop_at (word_bytes w) (lanes_of words) 8 (length-word_bytes w),
      lanes_before words n (omega (arith, within)),
    ) refl

lanes_after : (words : List ℕ) (n : ℕ) → n ≤ length words → drop (8 * n) (lanes_of words) ≡ lanes_of (drop n words)
unfolding lanes_of
lanes_after words zero within = refl
lanes_after [] (suc n) within = absurd (omega (arith, within))
lanes_after (w ∷ words) (suc n) within =
    let e : 8 * suc n ≡ 8 + 8 * n = omega arith in
    ap (λ k. drop k (word_bytes w ++ lanes_of words)) e ∙ sym (drop-drop (8 * n) 8 (word_bytes w ++ lanes_of words))
    ∙ ap (drop (8 * n)) (drop_at (word_bytes w) (lanes_of words) 8 (length-word_bytes w))
    ∙ lanes_after words n (omega (arith, within))

-- std's bytes of words
bytes_of-words : (words : List ℕ) → bytes_of_words words ≡ lanes_of words
unfolding lanes_of word_bytes
bytes_of-words [] = refl
bytes_of-words (w ∷ words) =
    ap (λ bytes. bytes ++ bytes_of_words words) (to_le_bytes-low w)
    ∙ ap (λ bytes. low_bytes 8 w ++ bytes) (bytes_of-words words)

pub words_read : (words : List ℕ) (start first count : ℕ) → start ≡ 8 * first → first + count ≤ length words
    → bytes_of_words (take count (drop first words)) ≡ take (8 * count) (drop start (lanes_of words))
words_read words start first count at within =
    let rest = length-drop first words in
    bytes_of-words (take count (drop first words))
    ∙ sym (lanes_before (drop first words) count (omega (arith, within, rest)))
    ∙ ap (take (8 * count)) (sym (lanes_after words first (omega (arith, within))))
    ∙ ap (λ n. take (8 * count) (drop n (lanes_of words))) (sym at)

-- the byte at a place, from a window of one
pub byte_at_place : (bytes : List ℕ) (place byte : ℕ) → byte ∷ [] ≡ take 1 (drop place bytes)
    → slice_get bytes place ≡ Some byte
byte_at_place [] zero byte is = cc
byte_at_place [] (suc place) byte is = cc
byte_at_place (b ∷ bytes) zero byte is = cc
byte_at_place (b ∷ bytes) (suc place) byte is = byte_at_place bytes place byte is
