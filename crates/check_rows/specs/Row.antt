-- The row that the columns of a record spell, or the first fault that they have, from the left. This project's own.
use Rattle.std.specs.Prelude.{ℕ, ◌^◌, ◌-◌, ◌==◌, Bool, true, false, ◌&&◌, List, [], ◌∷◌, map, length, drop, take, Option, Some, None, Result, Ok, Err, if◌then◌else◌}
use Rattle.check_beats.specs.Bus.{bus_bytes}
use Rattle.check_beats.specs.declared.bus.Bus.{Bus}
use Rattle.check_beats.specs.declared.bus.Bus.TheVariants.{One}
use Rattle.check_watch.specs.Plan.{Sighting, seen_at}
use Rattle.check_watch.specs.declared.beat.Beat.{Beat}
use Rattle.check_watch.specs.declared.beat.Beat.TheVariants as beat
use Rattle.check_watch.specs.declared.beat.Link.{Link}
use Rattle.check_watch.specs.declared.beat.Link.TheVariants.{Master}
use Rattle.check_rows.specs.Buses.{bus_of_link}
use Rattle.check_rows.specs.Column.{column, is_cut}
use Rattle.check_rows.specs.Columns.{are_empty, link_of, channel_of, flag_of, flag_or, nothing_of, or_reset}
use Rattle.check_rows.specs.declared.column.Column.TheVariants as named
use Rattle.check_rows.specs.Lanes.{SeenLanes, lanes_of}
use Rattle.check_rows.specs.Number.{decimal_of, decimal_or_zero, address_of, mask_of}
use Rattle.tl_text.specs.Reading.{◌>>=◌}
use Rattle.check_rows.specs.declared.columns.RowChannel.{RowChannel}
use Rattle.check_rows.specs.declared.columns.RowChannel.TheVariants as channel
use Rattle.check_rows.specs.declared.fault.RowFault.{RowFault}
use Rattle.check_rows.specs.declared.fault.RowFault.TheVariants.{Columns, Cut, Number}
use Rattle.check_rows.specs.declared.row.Row.{Row}

-- a beat with its lanes
pub record SeenBeat : Type 0 where
  pub beat : Beat
  pub lanes : SeenLanes

-- a row: the line on which it begins, and what was seen when; or that the whole system was reset then, and in the place of what
-- was seen stands something that means nothing
pub record SeenRow : Type 0 where
  pub line : ℕ
  pub time : ℕ
  pub is_reset : Bool
  pub sighting : Sighting

-- a row with these lanes
abbrev pub row_with : Row → List ℕ → SeenRow
row_with row lanes = record {
  line = row.line;
  time = row.time;
  is_reset = row.is_reset;
  sighting = seen_at row.link row.beat row.known lanes;
}

-- what crossed
abbrev pub beats_of : List SeenRow → List Sighting
beats_of rows = map (λ (row : SeenRow). row.sighting) rows

-- what stands there in a row of a reset
abbrev pub nothing_seen : Sighting
nothing_seen =
    seen_at (Master 0) (beat.A (record {
      opcode = 0;
      param = 0;
      size = 0;
      source = 0;
      address = 0;
      mask = 0;
      corrupt = false;
    })) 0 (0 ∷ [])

-- the row of a reset, on a line and of a time: its other fields mean nothing
abbrev pub row_at_reset : ℕ → ℕ → Row
row_at_reset line time = record {
  line = line;
  time = time;
  is_reset = true;
  link = Master 0;
  bus = One;
  beat = nothing_seen.beat;
  known = 0;
}

-- a beat of channel A is never denied, and not corrupt if that column is empty
unfoldable pub ask_of_words : ℕ → List (List ℕ) → Result SeenBeat RowFault
ask_of_words bus columns = do
  opcode ← decimal_of 255 (column columns named.Opcode)
  param ← decimal_of 255 (column columns named.Param)
  size ← decimal_of 255 (column columns named.Size)
  source ← decimal_of 65535 (column columns named.Source)
  address ← address_of (column columns named.Address)
  mask ← mask_of bus (column columns named.Mask)
  lanes ← lanes_of bus (column columns named.Data)
  _ ← nothing_of (column columns named.Denied)
  corrupt ← decimal_or_zero 1 (column columns named.Corrupt)
  Ok (record {
    beat = beat.A (record {
      opcode = opcode;
      param = param;
      size = size;
      source = source;
      address = address;
      mask = mask;
      corrupt = corrupt == 1;
    });
    lanes = lanes;
  })

-- whether the standard asks that a beat of a reply is marked corrupt: AccessAckData, 1, is if it is denied
abbrev pub asks_for_mark : ℕ → Bool → Bool
asks_for_mark opcode denied = denied && (opcode == 1)

-- a beat of channel D has no address or mask. If its parameter is empty, it is 0; and if the flag is, it is what the standard
-- asks for
unfoldable pub reply_of_words : ℕ → List (List ℕ) → Result SeenBeat RowFault
reply_of_words bus columns = do
  opcode ← decimal_of 255 (column columns named.Opcode)
  param ← decimal_or_zero 255 (column columns named.Param)
  size ← decimal_of 255 (column columns named.Size)
  source ← decimal_of 65535 (column columns named.Source)
  _ ← nothing_of (column columns named.Address)
  _ ← nothing_of (column columns named.Mask)
  lanes ← lanes_of bus (column columns named.Data)
  denied ← flag_of (column columns named.Denied)
  corrupt ← flag_or (asks_for_mark opcode denied) (column columns named.Corrupt)
  Ok (record {
    beat = beat.D (record {
      opcode = opcode;
      param = param;
      size = size;
      source = source;
      denied = denied;
      corrupt = corrupt;
    });
    lanes = lanes;
  })

-- the beat of a row, by the bus of its link and by its channel
abbrev pub beat_of : ℕ → RowChannel → List (List ℕ) → Result SeenBeat RowFault
beat_of bus channel.A columns = ask_of_words bus columns
beat_of bus channel.D columns = reply_of_words bus columns

-- the row of a time that twelve columns on this line spell, if it is of a link, or of the whole system: then nothing stands in
-- the columns after those of the time and of the link
unfoldable pub row_or_reset : List Bus → List Bus → ℕ → ℕ → List (List ℕ) → Option Link → Result SeenRow RowFault
row_or_reset masters ports line time columns (Some link) = do
  channel ← channel_of (column columns named.Channel)
  seen ← beat_of (bus_of_link masters ports link) channel columns
  Ok (record {
    line = line;
    time = time;
    is_reset = false;
    sighting = seen_at link seen.beat seen.lanes.known seen.lanes.bytes;
  })
row_or_reset masters ports line time columns None =
    if are_empty (drop 2 columns) then Ok (record { line = line; time = time; is_reset = true; sighting = nothing_seen })
    else Err Number

-- the row that twelve columns on this line spell, in a system whose masters' and ports' links have these buses, and that has rows
-- of resets, or not. Before any other fault comes that the capture was cut short there
unfoldable pub row_of : Bool → List Bus → List Bus → ℕ → List (List ℕ) → Result SeenRow RowFault
row_of resets masters ports line columns =
    if length columns == 12 then (do
      time ← decimal_of (2 ^ 64 - 1) (column columns named.Time)
      link ← or_reset resets (column columns named.Link) (link_of masters ports (column columns named.Link))
      row_or_reset masters ports line time columns link)
    else if is_cut columns then Err Cut
    else Err Columns

-- ---- what is read

-- a beat and the bits of its known lanes, whose bytes stand in the first places of a buffer
abbrev pub seen_beat : ℕ → List ℕ → Beat × ℕ → SeenBeat
seen_beat bus buffer seen = record { beat = seen.0; lanes = record { known = seen.1; bytes = take bus buffer } }

-- the same of an answer
abbrev pub beat_in : ℕ → List ℕ → Result (Beat × ℕ) RowFault → Result SeenBeat RowFault
beat_in bus buffer (Ok seen) = Ok (seen_beat bus buffer seen)
beat_in bus buffer (Err fault) = Err fault

-- a row with its lanes, which stand in the first places of a buffer
abbrev pub seen_row : Row → List ℕ → SeenRow
seen_row row buffer = record {
  line = row.line;
  time = row.time;
  is_reset = row.is_reset;
  sighting = seen_at row.link row.beat row.known (take (bus_bytes row.bus) buffer);
}

-- the row with its lanes that was read, or its fault.
abbrev pub row_in : List ℕ → Result Row RowFault → Result SeenRow RowFault
row_in buffer (Ok row) = Ok (seen_row row buffer)
row_in buffer (Err fault) = Err fault
