-- The text of a reply of which bytes may be unknown: `REPLY [denied] [DATA]`, as traces spell a reply, and `xx` for an
-- unknown byte. This project's own.
use Rattle.std.specs.Prelude.{ℕ, Bool, true, false, List, [], ◌∷◌, ◌++◌, codes, flat_map, Option, None, Some}
use Rattle.tl_script.specs.Data.{byte_text}
use Rattle.tl_script.specs.Trace.{denied_text}
use Rattle.tl_text.specs.Name.{reply_word_of}
use Rattle.check_cells.specs.Pattern.{Pattern}

-- a byte in two digits, or an unknown one
abbrev pub cell_text : Option ℕ → List ℕ
cell_text None = codes "xx"
cell_text (Some byte) = byte_text (Some byte)

-- bytes in two characters each, one after the other.
abbrev pub cells_text : List (Option ℕ) → List ℕ
cells_text cells = flat_map cell_text cells

-- a space and the bytes, if there are any
abbrev pub cells_part : List (Option ℕ) → List ℕ
cells_part [] = []
cells_part (cell ∷ cells) = codes " " ++ cells_text (cell ∷ cells)

-- the word after a reply's name if it is known to be denied
abbrev pub flag_text : Option Bool → List ℕ
flag_text None = []
flag_text (Some denied) = denied_text denied

-- the text of a reply as it is expected, or as it was captured: its name, `denied` if it is known to be so, and its
-- bytes.
abbrev pub pattern_text : Pattern → List ℕ
pattern_text reply = reply_word_of reply.op ++ flag_text reply.denied ++ cells_part reply.bytes
