-- Bytes in words of the bus: this project's own words. A cell is some bytes of one word, next to one another, as one
-- number, the lowest byte first.
use Rattle.std.specs.Prelude.{◌≡◌, ℕ, zero, suc, ◌<◌, ◌≤◌, ◌+◌, ◌*◌, ◌/◌, ◌%◌, ◌^◌, ◌-◌, List, map, take, drop, Option, None, Some}
use Rattle.std.specs.List.{flat_map}
use Rattle.tl_types.specs.declared.limits.TheConstants.{WORD_BYTES}
use Rattle.tl_ops.specs.Number.{low_bytes}

-- the bytes of a word: byte k stands at lane k
unfoldable pub word_bytes : ℕ → List ℕ
word_bytes word = low_bytes WORD_BYTES word

-- the bytes of words
unfoldable pub lanes_of : List ℕ → List ℕ
lanes_of words = flat_map word_bytes words

-- the cell of a word that has this many bytes, from a lane on
abbrev pub cell_of : ℕ → ℕ → ℕ → ℕ
cell_of word lane width = word / 2 ^ (8 * lane) % 2 ^ (8 * width)

-- the word with a cell replaced: what lies above the cell, the new cell, and what lies below
abbrev pub with_cell : ℕ → ℕ → ℕ → ℕ → ℕ
with_cell word lane width cell =
    (word / 2 ^ (8 * lane) / 2 ^ (8 * width) * 2 ^ (8 * width) + cell) * 2 ^ (8 * lane) + word % 2 ^ (8 * lane)

-- the part of a request's bytes that one word has
abbrev pub bytes_of_word : List (Option ℕ) → ℕ → List (Option ℕ)
bytes_of_word given word = take WORD_BYTES (drop (WORD_BYTES * word) given)

-- a byte of a mask: all bits where the old byte is kept, since none is given
abbrev pub keep_byte : Option ℕ → ℕ
keep_byte None = 255
keep_byte (Some _) = 0

-- the same byte, told by the bit that says whether one is given
abbrev pub keep_bit : ℕ → ℕ
keep_bit zero = 255
keep_bit (suc _) = 0

-- the mask of the bytes that are kept
abbrev pub keep_of : List (Option ℕ) → List ℕ
keep_of given = map keep_byte given

-- how many lanes are left in the last word after this many bytes
abbrev pub spare_after : ℕ → ℕ
spare_after count = (WORD_BYTES - count % WORD_BYTES) % WORD_BYTES

-- bytes that words hold without a part of one left over: a cell of one word, or whole words
pub record FitsWords (start width : ℕ) : Type 0 where
  pub some : 0 < width
  pub cell : width < WORD_BYTES → start % WORD_BYTES + width ≤ WORD_BYTES
  pub whole_start : WORD_BYTES ≤ width → start % WORD_BYTES ≡ 0
  pub whole_width : WORD_BYTES ≤ width → width % WORD_BYTES ≡ 0
