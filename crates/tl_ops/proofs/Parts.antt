-- The part of a request's bytes that one word has.
use Rattle.std.proofs.Common.{◌≡◌, ℕ, zero, suc, ◌+◌, ◌-◌, ◌*◌, ◌/◌, ◌^◌, ◌<◌, ◌≤◌, min, List, [], ◌∷◌, length, take, drop, get_or, slice_index, Option, Some, None, unwrap_or, refl, sym, ap, ◌∙◌, arith}
use Rattle.std.specs.Int.{bit_at}
use Rattle.std.proofs.lemmas.Grind.{same_number_lists}
use Rattle.std.proofs.lemmas.List.{length-take, length-drop, length-map, get_or_append_left, get_or-drop, get_or-map, get_or-take, take_all}
use Rattle.std.proofs.lemmas.Option.{unwrap_or-slice_get}
use Rattle.tl_types.specs.Bytes.{mask_bit, plain_of, IsMaskOf}
use Rattle.tl_ops.specs.Number.{low_bytes}
use Rattle.tl_ops.specs.Window.{operand_of}
use Rattle.tl_ops.specs.Cell.{keep_bit, keep_byte, keep_of, bytes_of_word}
use Rattle.tl_ops.proofs.Bytes.{length-low_bytes, low_bytes-add}

take_short : {X : Type 0} (n : ℕ) (xs : List X) → take (min (length xs) n) xs ≡ take n xs
take_short {X} zero [] = let e : min (length {A = X} []) 0 ≡ 0 = omega arith in let none : List X = [] in
    ap (λ m. take m none) e
take_short {X} (suc n) [] = let e : min (length {A = X} []) (suc n) ≡ 0 = omega arith in let none : List X = [] in
    ap (λ m. take m none) e
take_short {X} zero (x ∷ xs) = let e : min (length (x ∷ xs)) 0 ≡ 0 = omega arith in ap (λ m. take m (x ∷ xs)) e
take_short {X} (suc n) (x ∷ xs) = let e : min (suc (length xs)) (suc n) ≡ suc (min (length xs) n) = omega arith in
    ap (λ m. take m (x ∷ xs)) e ∙ ap (λ ys. x ∷ ys) (take_short n xs)

-- what a word has is as many bytes as are left, eight at most
pub word_of-taken : (given : List (Option ℕ)) (word count : ℕ) → count ≡ min (length given - 8 * word) 8
    → bytes_of_word given word ≡ take count (drop (8 * word) given)
word_of-taken given word count is =
    sym (take_short 8 (drop (8 * word) given))
    ∙ ap (λ n. take n (drop (8 * word) given)) (omega (arith, is, length-drop (8 * word) given))

pub length-word_of : (given : List (Option ℕ)) (word count : ℕ) → count ≡ min (length given - 8 * word) 8
    → length (bytes_of_word given word) ≡ count
length-word_of given word count is =
    omega (arith, is, length-take 8 (drop (8 * word) given), length-drop (8 * word) given)

-- the only word of a request is all of it
pub word_of-only : (given : List (Option ℕ)) → length given ≤ 8 → bytes_of_word given 0 ≡ given
word_of-only given short = take_all 8 given short

-- a part of the plain bytes is the operand of the part
pub plain_part : (given : List (Option ℕ)) (from count : ℕ)
    → take count (drop from (plain_of given)) ≡ operand_of (take count (drop from given))
plain_part given from count = ap (take count) (drop-map given from) ∙ take-map (drop from given) count
  where
    drop-map : (xs : List (Option ℕ)) (n : ℕ) → drop n (plain_of xs) ≡ plain_of (drop n xs)
    drop-map xs zero = refl
    drop-map [] (suc n) = refl
    drop-map (x ∷ xs) (suc n) = drop-map xs n

    take-map : (xs : List (Option ℕ)) (n : ℕ) → take n (plain_of xs) ≡ plain_of (take n xs)
    take-map xs zero = refl
    take-map [] (suc n) = refl
    take-map (x ∷ xs) (suc n) = ap (λ ys. unwrap_or x 0 ∷ ys) (take-map xs n)

-- the number that the plain bytes of a word spell has the bytes of the operand
pub spelled_word : (given : List (Option ℕ)) (plain : List ℕ) (word n m number : ℕ) → plain ≡ plain_of given
    → n ≡ min (length given - 8 * word) 8 → m ≡ n
    → low_bytes (length (take m (drop (8 * word) plain))) number ≡ take m (drop (8 * word) plain)
    → low_bytes (length (bytes_of_word given word)) number ≡ operand_of (bytes_of_word given word)
spelled_word given plain word n m number plain_is n_is m_is spells =
    let part = take m (drop (8 * word) plain) in
    let part_is : part ≡ operand_of (bytes_of_word given word) =
    ap (λ k. take k (drop (8 * word) plain)) m_is ∙ ap (λ bs. take n (drop (8 * word) bs)) plain_is
    ∙ plain_part given (8 * word) n ∙ ap operand_of (sym (word_of-taken given word n n_is)) in
    let long : length part ≡ length (bytes_of_word given word) =
    ap length part_is ∙ length-map (bytes_of_word given word) (λ byte. unwrap_or byte 0) in
    ap (λ k. low_bytes k number) (sym long) ∙ spells ∙ part_is

pub length-plain_word : (given : List (Option ℕ)) (plain : List ℕ) (word n m : ℕ) → plain ≡ plain_of given
    → n ≡ min (length given - 8 * word) 8 → m ≡ n
    → length (take m (drop (8 * word) plain)) ≡ length (bytes_of_word given word)
length-plain_word given plain word n m plain_is n_is m_is =
    ap (λ k. length (take k (drop (8 * word) plain))) m_is ∙ ap (λ bs. length (take n (drop (8 * word) bs))) plain_is
    ∙ ap length (plain_part given (8 * word) n ∙ ap operand_of (sym (word_of-taken given word n n_is)))
    ∙ length-map (bytes_of_word given word) (λ byte. unwrap_or byte 0)

-- a bit of a word's mask tells whether the byte is given, and so what its lane keeps
pub bit_of_part : (given : List (Option ℕ)) (word count k mask : ℕ) → k < count → k < 8 → IsMaskOf given word mask
    → bit_at mask k ≡ mask_bit (get_or (take count (drop (8 * word) given)) k None)
bit_of_part given word count k mask inside lane is =
    is k lane ∙ ap mask_bit (unwrap_or-slice_get given (8 * word + k) None ∙ sym (get_or-drop (8 * word) given k None)
    ∙ sym (get_or-take count (drop (8 * word) given) k None inside))

pub keep_bit-mask_bit : (byte : Option ℕ) → keep_bit (mask_bit byte) ≡ keep_byte byte
keep_bit-mask_bit None = refl
keep_bit-mask_bit (Some byte) = refl

-- the lanes of a word that keep their byte, by the mask of those that are given
pub kept_word : (given : List (Option ℕ)) (word mask keep : ℕ) → IsMaskOf given word mask
    → ((lane : ℕ) → lane < 8 → slice_index (low_bytes 8 keep) lane ≡ keep_bit (bit_at mask lane))
    → low_bytes (length (bytes_of_word given word)) keep ≡ keep_of (bytes_of_word given word)
kept_word given word mask keep is lanes =
    same_number_lists (low_bytes n keep) (keep_of part) (length-low_bytes n keep ∙ sym (length-map part keep_byte))
    (λ k h. lane k (omega (arith, h, length-low_bytes n keep)))
  where
    part : List (Option ℕ)
    part = bytes_of_word given word

    n : ℕ
    n = length part

    lane : (k : ℕ) → k < n → slice_index (low_bytes n keep) k ≡ slice_index (keep_of part) k
    lane k within =
        let in_word : k < 8 = omega (arith, within, length-take 8 (drop (8 * word) given)) in
        let parts : 8 ≡ n + (8 - n) = omega (arith, length-take 8 (drop (8 * word) given)) in
        let front : slice_index (low_bytes n keep) k ≡ slice_index (low_bytes 8 keep) k =
        sym (ap (λ m. slice_index (low_bytes m keep) k) parts
        ∙ ap (λ bs. slice_index bs k) (low_bytes-add n (8 - n) keep)
        ∙ get_or_append_left (low_bytes n keep) (low_bytes (8 - n) (keep / 2 ^ (8 * n))) 0 k
        (omega (arith, within, length-low_bytes n keep))) in
        front ∙ lanes k in_word ∙ ap keep_bit (bit_of_part given word 8 k mask in_word in_word is)
        ∙ keep_bit-mask_bit (get_or part k None) ∙ sym (get_or-map keep_byte part k None 0 within)
