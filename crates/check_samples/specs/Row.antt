-- The row of a beat, as the format of captures has it. This project's own.
use Rattle.std.specs.Prelude.{ℕ, ◌==◌, ◌%◌, false, List, [], ◌∷◌, ◌++◌, length, take, drop, Option, None, Some, Result, Ok, if◌then◌else◌, ok_or}
use Rattle.std.specs.Fmt.{decimal, digit_glyph, digits}
use Rattle.tl_text.specs.Reading.{◌>>=◌}
use Rattle.tl_text.specs.Number.{number_of}
use Rattle.check_watch.specs.declared.beat.Link.{Link}
use Rattle.check_watch.specs.declared.beat.Link.TheVariants.{Master, Port}
use Rattle.check_samples.specs.Digits.{bits_of}
use Rattle.check_samples.specs.declared.channel.AskTaps.{AskTaps}
use Rattle.check_samples.specs.declared.channel.ReplyTaps.{ReplyTaps}
use Rattle.check_samples.specs.declared.row.AskCells.{AskCells}
use Rattle.check_samples.specs.declared.row.ReplyCells.{ReplyCells}
use Rattle.check_samples.specs.declared.row.TheConstants.{MAX_BITS}
use Rattle.check_samples.specs.declared.signal.Signal.{Signal}
use Rattle.check_samples.specs.declared.signal.Signal.TheVariants as signal

-- the number that bits spell, the highest first, if each is known
abbrev pub known_number : Signal → List ℕ → Result ℕ Signal
known_number which bits = ok_or (number_of 2 MAX_BITS bits) which

-- the same of a signal that a dump may not have, which has no bits then
abbrev pub number_if_any : Signal → List ℕ → Result (Option ℕ) Signal
number_if_any which bits = if length bits == 0 then Ok None else known_number which bits >>= (λ n. Ok (Some n))

-- the hexadecimal digit of at most four bits; x if one is unknown
abbrev pub digit_by : Option ℕ → ℕ
digit_by None = 120
digit_by (Some number) = digit_glyph false (number % 16)

-- the hexadecimal digit of these bits, of which there are at most four.
abbrev pub digit_of : List ℕ → ℕ
digit_of bits = digit_by (number_of 2 4 bits)

-- the digits of bits, of which there are four for each
abbrev pub hexes : List ℕ → List ℕ
hexes (a ∷ b ∷ c ∷ d ∷ bits) = digit_of (a ∷ b ∷ c ∷ d ∷ []) ∷ hexes bits
hexes bits = []

-- the digits of bits; if they are no multiple of four, the first has fewer
abbrev pub hex_text : List ℕ → List ℕ
hex_text bits =
    let over = length bits % 4 in
    if over == 0 then hexes bits else digit_of (take over bits) ∷ hexes (drop over bits)

-- a link as captures name it: `m` or `p`, and the number of the master or the port.
abbrev pub link_text : Link → List ℕ
link_text (Master number) = 109 ∷ decimal number
link_text (Port number) = 112 ∷ decimal number

-- the numbers of a beat of channel A, or the first of its signals with an unknown bit.
abbrev pub cells_of_ask : List (List ℕ) → AskTaps → Result AskCells Signal
cells_of_ask values taps = do
  opcode ← known_number signal.AOpcode (bits_of values taps.opcode)
  param ← known_number signal.AParam (bits_of values taps.param)
  size ← known_number signal.ASize (bits_of values taps.size)
  source ← known_number signal.ASource (bits_of values taps.source)
  address ← known_number signal.AAddress (bits_of values taps.address)
  _ ← known_number signal.AMask (bits_of values taps.mask)
  corrupt ← number_if_any signal.ACorrupt (bits_of values taps.corrupt)
  Ok (record { opcode = opcode; param = param; size = size; source = source; address = address; corrupt = corrupt })

-- the numbers of a beat of channel D, or the first of its signals with an unknown bit.
abbrev pub cells_of_reply : List (List ℕ) → ReplyTaps → Result ReplyCells Signal
cells_of_reply values taps = do
  opcode ← known_number signal.DOpcode (bits_of values taps.opcode)
  param ← number_if_any signal.DParam (bits_of values taps.param)
  size ← known_number signal.DSize (bits_of values taps.size)
  source ← known_number signal.DSource (bits_of values taps.source)
  denied ← known_number signal.DDenied (bits_of values taps.denied)
  corrupt ← number_if_any signal.DCorrupt (bits_of values taps.corrupt)
  Ok (record { opcode = opcode; param = param; size = size; source = source; denied = denied; corrupt = corrupt })

-- the columns up to the channel
abbrev pub head_text : ℕ → Link → ℕ → List ℕ
head_text time link channel = decimal time ++ (44 ∷ link_text link) ++ (44 ∷ channel ∷ [])

-- a comma and a number
abbrev pub cell : ℕ → List ℕ
cell number = 44 ∷ decimal number

-- a number that may be absent
abbrev pub mark_text : Option ℕ → List ℕ
mark_text None = []
mark_text (Some number) = decimal number

-- the columns of a beat of channel A from the opcode to the source.
abbrev pub ask_numbers : AskCells → List ℕ
ask_numbers cells = cell cells.opcode ++ cell cells.param ++ cell cells.size ++ cell cells.source

-- the columns of a beat of channel A from the address to the data.
abbrev pub ask_lanes : ℕ → List ℕ → List ℕ → List ℕ
ask_lanes address mask lanes = (44 ∷ digits 16 false address) ++ (44 ∷ hex_text mask) ++ (44 ∷ hex_text lanes)

-- it is never denied
abbrev pub ask_flags : AskCells → List ℕ
ask_flags cells = (44 ∷ []) ++ (44 ∷ mark_text cells.corrupt)

-- the line of the row of a beat of channel A, without its end.
unfoldable pub ask_line : ℕ → Link → AskCells → List ℕ → List ℕ → List ℕ
ask_line time link cells mask lanes =
    head_text time link 65 ++ ask_numbers cells ++ ask_lanes cells.address mask lanes ++ ask_flags cells

-- the line of the row of a beat of channel A, with its end.
abbrev pub ask_text : ℕ → Link → AskCells → List ℕ → List ℕ → List ℕ
ask_text time link cells mask lanes = ask_line time link cells mask lanes ++ (10 ∷ [])

-- the columns of a beat of channel D from the opcode to the source.
abbrev pub reply_numbers : ReplyCells → List ℕ
reply_numbers cells = cell cells.opcode ++ (44 ∷ mark_text cells.param) ++ cell cells.size ++ cell cells.source

-- the columns of a beat of channel D from the address to the last one; those of the address and the mask are empty.
abbrev pub reply_lanes : List ℕ → ReplyCells → List ℕ
reply_lanes lanes cells = (44 ∷ 44 ∷ 44 ∷ hex_text lanes) ++ cell cells.denied ++ (44 ∷ mark_text cells.corrupt)

-- the line of the row of a beat of channel D, without its end.
unfoldable pub reply_line : ℕ → Link → ReplyCells → List ℕ → List ℕ
reply_line time link cells lanes = head_text time link 68 ++ reply_numbers cells ++ reply_lanes lanes cells

-- the line of the row of a beat of channel D, with its end.
abbrev pub reply_text : ℕ → Link → ReplyCells → List ℕ → List ℕ
reply_text time link cells lanes = reply_line time link cells lanes ++ (10 ∷ [])
