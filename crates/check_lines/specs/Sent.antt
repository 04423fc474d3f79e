-- The text of a request as it crossed: as traces of tlx spell one, and `xx` for each given byte that a corrupt beat carried. This
-- project's own.
use Rattle.std.specs.Prelude.{ℕ, Bool, true, false, List, ◌++◌, codes, flat_map, if◌then◌else◌, length, Option, None, Some, slice_index_or}
use Rattle.std.specs.List.{range_with_len}
use Rattle.tl_script.specs.Data.{byte_text}
use Rattle.tl_script.specs.Trace.{ask_text, target_text}
use Rattle.tl_text.specs.Name.{operation_word}
use Rattle.check_cells.specs.Sent.{Sent, is_corrupt}

-- a byte in two digits, or that none is given; a spoiled one is not spelled
abbrev pub spoiled_text : Bool → Option ℕ → List ℕ
spoiled_text mark None = byte_text None
spoiled_text false (Some byte) = byte_text (Some byte)
spoiled_text true (Some byte) = codes "xx"

-- the byte at a place
abbrev pub sent_byte_text : Sent → ℕ → List ℕ
sent_byte_text sent place =
    spoiled_text (slice_index_or sent.spoiled place false) (slice_index_or sent.ask.bytes place None)

-- a corrupt request, whose bytes are spelled one after the other
abbrev pub corrupt_text : Sent → List ℕ
corrupt_text sent =
    target_text (operation_word sent.ask.op) sent.ask.address sent.ask.size
    ++ codes " " ++ flat_map (sent_byte_text sent) (range_with_len 0 (length sent.ask.bytes))

-- `NAME ADDRESS SIZE [DATA]`
abbrev pub sent_text : Sent → List ℕ
sent_text sent = if is_corrupt sent then corrupt_text sent else ask_text sent.ask
