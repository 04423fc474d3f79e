-- The bytes of words.
use Rattle.std.proofs.Common.{◌≡◌, ◌*◌, List, ℕ, [], ◌∷◌, length, length-append, refl, arith}
use Rattle.std.specs.Int.{to_le_bytes, w64}
use Rattle.tl_types.specs.Bytes.{bytes_of_words}

pub length-bytes_of_words : (words : List ℕ) → length (bytes_of_words words) ≡ 8 * length words
length-bytes_of_words [] = refl
length-bytes_of_words (word ∷ words) =
    omega (arith, length-append (to_le_bytes w64 word) (bytes_of_words words), length-bytes_of_words words)
