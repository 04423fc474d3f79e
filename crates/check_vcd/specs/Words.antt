-- The words of a dump. That white space stands between them is the rule of IEEE 1364, "Value change dump files". The
-- lines, that a long word is cut to its front, and that what no blank ends is no word are this project's own.
use Rattle.std.specs.Prelude.{◌≡◌, ℕ, ◌+◌, ◌==◌, nat_le, nat_lt, not, Bool, true, false, List, [], ◌∷◌, ◌++◌, length, Option, None, Some, ⊤, if◌then◌else◌}
use Rattle.std.specs.List.{list_all}
use Rattle.check_vcd.specs.declared.scanner.TheConstants.{MAX_WORD}

-- a space, or a byte of control
abbrev pub is_blank : ℕ → Bool
is_blank byte = nat_le byte 32

-- a word: the line on which it stands, its bytes, of which so many are kept at most, and how many it has. At most 65,536
-- bytes are kept.
pub record Word : Type 0 where
  pub line : ℕ
  pub bytes : List ℕ
  pub size : ℕ

-- the front of a word whose other bytes are to come
pub record Front : Type 0 where
  pub bytes : List ℕ
  pub size : ℕ

-- a front without a byte: all of its word is to come.
abbrev pub nothing : Front
nothing = record { bytes = []; size = 0 }

-- if it has no bytes, none are kept
abbrev pub IsFront : Front → Type 0
IsFront front = front.size ≡ 0 → front.bytes ≡ []

-- the front with one byte more
abbrev pub with_byte : Front → ℕ → Front
with_byte front byte = record {
  bytes = if nat_lt (length front.bytes) MAX_WORD then front.bytes ++ (byte ∷ []) else front.bytes;
  size = front.size + 1;
}

-- the front with several bytes more
abbrev pub with_bytes : Front → List ℕ → Front
with_bytes front [] = front
with_bytes front (byte ∷ bytes) = with_bytes (with_byte front byte) bytes

-- no byte is a blank
abbrev pub are_letters : List ℕ → Bool
are_letters bytes = list_all (λ byte. not (is_blank byte)) bytes

-- the word that a blank ends, if it has bytes
abbrev pub word_if_any : ℕ → Front → List Word
word_if_any line front =
    if front.size == 0 then []
    else record { line = line; bytes = front.bytes; size = front.size } ∷ []

-- the line after a byte
abbrev pub line_after : ℕ → ℕ → ℕ
line_after line byte = if byte == 10 then line + 1 else line

-- the words of a text that begins on this line, after this front of its first word
unfoldable pub words_from : ℕ → Front → List ℕ → List Word
words_from line front [] = []
words_from line front (byte ∷ text) =
    if is_blank byte then word_if_any line front ++ words_from (line_after line byte) nothing text
    else words_from line (with_byte front byte) text

-- the words of a text
abbrev pub dump_words : List ℕ → List Word
dump_words text = words_from 1 nothing text

-- ---- what a reader of words answers

-- where the words are known they stay known, and the two are so related
abbrev pub Both : {A : Type 0} → Option A → Option A → (A → A → Type 0) → Type 0
Both None new P = ⊤
Both (Some old) None P = ⊥
Both (Some old) (Some new) P = P old new

-- a reader of words: those that are left, where the reader underneath tells its bytes, and the last that was read
pub record Reading : Type 0 where
  pub left : Option (List Word)
  pub word : Word

-- the next word is this one, or else there is none
abbrev pub AnswersWord : Option (List Word) → Option (List Word) → Word → Bool → Type 0
AnswersWord old new word true = Both old new (λ from to. from ≡ word ∷ to)
AnswersWord old new word false = Both old new (λ from to. (from ≡ []) × (to ≡ []))

-- all words of a text are left, if it is known
abbrev pub HasWordsOf : Option (List ℕ) → Option (List Word) → Type 0
HasWordsOf None left = ⊤
HasWordsOf (Some text) left = left ≡ Some (dump_words text)
