-- The rows that are due, as lines of a capture. This project's own.
use Rattle.std.specs.Prelude.{ℕ, ◌≤◌, ◌&&◌, nat_le, ⊤, List, [], ◌∷◌, ◌++◌, length, slice_range, if◌then◌else◌}
use Rattle.check_samples.specs.Resets.{reset_line}
use Rattle.check_samples.specs.Row.{ask_line, reply_line}
use Rattle.check_samples.specs.declared.due.BitsPlace.{BitsPlace}
use Rattle.check_samples.specs.declared.due.DueRow.{DueRow}
use Rattle.check_samples.specs.declared.due.DueRow.TheVariants as due
use Rattle.check_samples.specs.declared.due.KeptRow.{KeptRow}
use Rattle.check_samples.specs.declared.due.KeptRow.TheVariants as kept

-- the text of lines: each with its end
abbrev pub due_text : List (List ℕ) → List ℕ
due_text [] = []
due_text (line ∷ lines) = line ++ (10 ∷ due_text lines)

-- the line of a row
abbrev pub due_line : DueRow → List ℕ
due_line (due.Reset time) = reset_line time
due_line (due.Ask ask) = ask_line ask.time ask.link ask.cells ask.mask.now ask.lanes.now
due_line (due.Reply reply) = reply_line reply.time reply.link reply.cells reply.lanes.now

-- no byte is below a comma: none is a blank, a quote or the end of a line
abbrev pub IsPlain : List ℕ → Type 0
IsPlain [] = ⊤
IsPlain (byte ∷ text) = (44 ≤ byte) × IsPlain text

-- ---- how they are kept

-- the bits that stand at a place among others
abbrev pub bits_at : List ℕ → BitsPlace → List ℕ
bits_at bits place =
    if nat_le place.from place.to && nat_le place.to (length bits) then slice_range bits place.from place.to else []

-- the line of a row that is kept beside these bits
abbrev pub kept_line : List ℕ → KeptRow → List ℕ
kept_line bits (kept.Reset time) = reset_line time
kept_line bits (kept.Ask ask) = ask_line ask.time ask.link ask.cells (bits_at bits ask.mask) (bits_at bits ask.lanes)
kept_line bits (kept.Reply reply) = reply_line reply.time reply.link reply.cells (bits_at bits reply.lanes)

-- its bits stand among so many
abbrev pub StandAmong : ℕ → KeptRow → Type 0
StandAmong count (kept.Reset time) = ⊤
StandAmong count (kept.Ask ask) = (ask.mask.to ≤ count) × (ask.lanes.to ≤ count)
StandAmong count (kept.Reply reply) = reply.lanes.to ≤ count
