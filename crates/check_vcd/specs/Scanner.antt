-- A reader, the bytes of it that were read and not yet taken, and the word at hand. This project's own.
use Rattle.std.specs.Prelude.{◌≡◌, ℕ, ◌+◌, ◌-◌, ◌≤◌, length, Bool, true, false, List, ◌∷◌, ◌++◌, slice_range, IfSome, Option, None, Some, option_map}
use Rattle.std.specs.Io.KnownBytes.{prepend_known}
use Rattle.check_vcd.specs.Words.{Front, IsFront, Word, nothing, words_from}
use Rattle.check_vcd.specs.declared.scanner.Places.{Places}
use Rattle.check_vcd.specs.declared.scanner.Scanner.{Scanner}

-- the bytes at hand
abbrev pub at_hand : {R : Type 0} → Scanner R → List ℕ
at_hand scanner = slice_range scanner.chunk.items scanner.next scanner.filled

-- the text that is left, where the reader tells its bytes
abbrev pub scanner_left : {R : Type 0} → (R → Option (List ℕ)) → Scanner R → Option (List ℕ)
scanner_left remaining scanner = prepend_known (at_hand scanner) (remaining scanner.reader)

-- the words that are left after a front
abbrev pub left : {R : Type 0} → (R → Option (List ℕ)) → Scanner R → Front → Option (List Word)
left remaining scanner front = option_map (words_from scanner.next_line front) (scanner_left remaining scanner)

-- the front of the word at hand
abbrev pub front : {R : Type 0} → Scanner R → Front
front scanner = record { bytes = scanner.word.items; size = scanner.size }

-- the word at hand
abbrev pub word_at_hand : {R : Type 0} → Scanner R → Word
word_at_hand scanner = record { line = scanner.line; bytes = scanner.word.items; size = scanner.size }

-- no byte was taken
pub record HasSameBytes {R : Type 0} (old new : Scanner R) : Type 0 where
  pub reader : new.reader ≡ old.reader
  pub chunk : new.chunk ≡ old.chunk
  pub next : new.next ≡ old.next
  pub filled : new.filled ≡ old.filled

-- the next byte at hand was taken
pub record HasMoved {R : Type 0} (old new : Scanner R) : Type 0 where
  pub reader : new.reader ≡ old.reader
  pub chunk : new.chunk ≡ old.chunk
  pub next : new.next ≡ old.next + 1
  pub filled : new.filled ≡ old.filled

-- the bytes that were taken end a word, or else they belong to the one at hand or stand before it; whatever follows
-- those at hand
abbrev pub TakesWord : {R : Type 0} → Scanner R → Scanner R → Bool → Type 0
TakesWord old new true =
    (rest : List ℕ) → words_from old.next_line (front old) (at_hand old ++ rest)
    ≡ word_at_hand new ∷ words_from new.next_line nothing (at_hand new ++ rest)
TakesWord old new false =
    ((rest : List ℕ) → words_from old.next_line (front old) (at_hand old ++ rest)
    ≡ words_from new.next_line (front new) (at_hand new ++ rest))
    × IsFront (front new)

-- a word that stands whole at these places of the chunk
abbrev pub word_between : {R : Type 0} → Scanner R → Places → Word
word_between scanner places = record {
  line = scanner.line;
  bytes = slice_range scanner.chunk.items places.from places.to;
  size = places.to - places.from;
}

-- it was taken, with the blank that ends it, whatever follows those at hand
pub record TakesWhole {R : Type 0} (old new : Scanner R) (places : Places) : Type 0 where
  pub from : places.from ≤ places.to
  pub inside : places.to ≤ length new.chunk.items
  pub word : (rest : List ℕ) → words_from old.next_line nothing (at_hand old ++ rest)
      ≡ word_between new places ∷ words_from new.next_line nothing (at_hand new ++ rest)

-- the word that was read last: it stands whole in the chunk, or by itself
abbrev pub last_word : {R : Type 0} → Scanner R → Option Places → Word
last_word scanner None = word_at_hand scanner
last_word scanner (Some places) = word_between scanner places

-- its places lie within the chunk
abbrev pub IsPlaced : {R : Type 0} → Scanner R → Option Places → Type 0
IsPlaced scanner whole =
    IfSome whole (λ places. (places.from ≤ places.to) × (places.to ≤ length scanner.chunk.items))
