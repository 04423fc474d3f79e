-- Bytes of which some may be left unset: this project's own words. They are kept as plain bytes and a mask for each
-- word of the bus, and seen as a list in which a byte that is left unset is None.
use Rattle.std.specs.Prelude.{◌≡◌, ℕ, zero, suc, ◌+◌, ◌*◌, ◌/◌, ◌%◌, ◌^◌, ◌<◌, ◌≤◌, List, [], ◌∷◌, length, map, Option, None, Some, slice_get, slice_index, unwrap_or}
use Rattle.std.specs.Int.{bit_at, to_le_bytes, w64}
use Rattle.std.specs.List.{flat_map}
use Rattle.tl_types.specs.declared.limits.TheConstants.{WORD_BYTES}
use Rattle.tl_types.specs.declared.bytes.TheConstants.{MAX_WORDS}

-- the bit of a mask for a byte that may be there
abbrev pub mask_bit : Option ℕ → ℕ
mask_bit None = 0
mask_bit (Some byte) = 1

-- a byte, given if a bit is set
abbrev pub given_byte : ℕ → ℕ → Option ℕ
given_byte zero byte = None
given_byte (suc _) byte = Some byte

-- the bit of a mask for a byte with this flag
abbrev pub flag_bit : ℕ → ℕ
flag_bit zero = 0
flag_bit (suc _) = 1

-- bytes, of which those are given whose bits are set
abbrev pub given_in : (ℕ → ℕ) → List ℕ → List (Option ℕ)
given_in bits [] = []
given_in bits (byte ∷ bytes) = given_byte (bits 0) byte ∷ given_in (λ k. bits (suc k)) bytes

-- the bytes, zero if none is given
abbrev pub plain_of : List (Option ℕ) → List ℕ
plain_of given = map (λ byte. unwrap_or byte 0) given

-- the mask of a word of the bytes: a bit for each byte that is given, and none for one that is left unset or is not
-- there
abbrev pub IsMaskOf : List (Option ℕ) → ℕ → ℕ → Type 0
IsMaskOf given word mask =
    (k : ℕ) → k < WORD_BYTES → bit_at mask k ≡ mask_bit (unwrap_or (slice_get given (WORD_BYTES * word + k)) None)

-- the bit of a place among masks of words
unfoldable pub bit_in : List ℕ → ℕ → ℕ
bit_in masks place = bit_at (slice_index masks (place / WORD_BYTES)) (place % WORD_BYTES)

-- there is a mask for each word, of a bit for each of its bytes; a byte that is left unset is zero, and no bit is set
-- past the last byte
pub record AreKept (plain masks : List ℕ) : Type 0 where
  pub counted : length masks ≡ MAX_WORDS
  pub small : (word : ℕ) → slice_index masks word < 2 ^ WORD_BYTES
  pub unset : (place : ℕ) → bit_in masks place ≡ 0 → slice_index plain place ≡ 0
  pub past : (place : ℕ) → length plain ≤ place → bit_in masks place ≡ 0

-- the bytes of words of the bus, the lowest byte of each first
abbrev pub bytes_of_words : List ℕ → List ℕ
bytes_of_words words = flat_map (λ word. to_le_bytes w64 word) words
