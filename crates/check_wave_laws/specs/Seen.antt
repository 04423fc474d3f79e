-- What the signals of a beat show, in the terms of captures. It is this project's own; the order of bits and lanes is that
-- of the TileLink specification ("Signal descriptions").
use Rattle.std.specs.Prelude.{ℕ, ◌*◌, ◌≡◌, ◌≤◌, ◌==◌, Bool, List, [], ◌∷◌, length}
use Rattle.std.specs.Str.Parse.{digits_value}
use Rattle.check_beats.specs.declared.bus.Bus.{Bus}
use Rattle.check_watch.specs.declared.beat.Beat.TheVariants as beat
use Rattle.check_rows.specs.Buses.{bus_of_link}
use Rattle.check_rows.specs.Lanes.{SeenLanes}
use Rattle.check_rows.specs.Row.{SeenBeat, SeenRow, asks_for_mark}
use Rattle.check_samples.specs.Digits.{bits_of}
use Rattle.check_samples.specs.declared.channel.AskTaps.{AskTaps}
use Rattle.check_samples.specs.declared.channel.BeatTaps.{BeatTaps}
use Rattle.check_samples.specs.declared.channel.BeatTaps.TheVariants.{A, D}
use Rattle.check_samples.specs.declared.channel.Channel.{Channel}
use Rattle.check_samples.specs.declared.channel.ReplyTaps.{ReplyTaps}
use Rattle.check_samples.specs.declared.tap.Tap.{Tap}
use Rattle.check_due.specs.Lanes.{lanes_of_bits}
use Rattle.check_due.specs.Rows.{row_on_line}

-- the number that the bits of a signal spell, the highest first
abbrev pub number_in : List (List ℕ) → Tap → ℕ
number_in values tap = digits_value 2 (bits_of values tap)

-- the lanes of a bus of so many bytes that its bits show
abbrev pub lanes_in : ℕ → List (List ℕ) → Tap → SeenLanes
lanes_in bus values tap = lanes_of_bits bus (bits_of values tap)

-- the beat of channel A that signals show, with its lanes. If there is no `a_corrupt`, it has no bits: it is not corrupt
abbrev pub ask_in : ℕ → List (List ℕ) → AskTaps → SeenBeat
ask_in bus values taps = record {
  beat = beat.A (record {
    opcode = number_in values taps.opcode;
    param = number_in values taps.param;
    size = number_in values taps.size;
    source = number_in values taps.source;
    address = number_in values taps.address;
    mask = number_in values taps.mask;
    corrupt = number_in values taps.corrupt == 1;
  });
  lanes = lanes_in bus values taps.data;
}

-- the flag that one bit is, or this one if a design has no such signal
abbrev pub flag_by : Bool → List ℕ → Bool
flag_by absent [] = absent
flag_by absent (bit ∷ bits) = digits_value 2 (bit ∷ bits) == 1

-- and of channel D. If there is no `d_param`, it is 0; and if there is no `d_corrupt`, a beat is marked as the standard asks
abbrev pub reply_in : ℕ → List (List ℕ) → ReplyTaps → SeenBeat
reply_in bus values taps = record {
  beat = beat.D (record {
    opcode = number_in values taps.opcode;
    param = number_in values taps.param;
    size = number_in values taps.size;
    source = number_in values taps.source;
    denied = number_in values taps.denied == 1;
    corrupt = flag_by (asks_for_mark (number_in values taps.opcode) (number_in values taps.denied == 1)) (bits_of values taps.corrupt);
  });
  lanes = lanes_in bus values taps.data;
}

-- the beat of either channel that signals show, with its lanes.
abbrev pub beat_in : ℕ → BeatTaps → List (List ℕ) → SeenBeat
beat_in bus (A taps) values = ask_in bus values taps
beat_in bus (D taps) values = reply_in bus values taps

-- the row of a channel's beat, where the masters' links and the ports' have these buses
abbrev pub row_of_channel : List Bus → List Bus → ℕ → ℕ → List (List ℕ) → Channel → SeenRow
row_of_channel masters ports line time values channel =
    row_on_line line time channel.link (beat_in (bus_of_link masters ports channel.link) channel.beat values)

-- ---- what columns have room for

-- no signal has more bits than its column has room for; a mask has a bit for each byte of the bus, and data has eight
pub record AskFits (bus : ℕ) (values : List (List ℕ)) (taps : AskTaps) : Type 0 where
  pub opcode : length (bits_of values taps.opcode) ≤ 8
  pub param : length (bits_of values taps.param) ≤ 8
  pub size : length (bits_of values taps.size) ≤ 8
  pub source : length (bits_of values taps.source) ≤ 16
  pub mask : length (bits_of values taps.mask) ≡ bus
  pub data_bits : length (bits_of values taps.data) ≡ 8 * bus
  pub corrupt : length (bits_of values taps.corrupt) ≤ 1

-- the same of channel D, which has no mask.
pub record ReplyFits (bus : ℕ) (values : List (List ℕ)) (taps : ReplyTaps) : Type 0 where
  pub opcode : length (bits_of values taps.opcode) ≤ 8
  pub param : length (bits_of values taps.param) ≤ 8
  pub size : length (bits_of values taps.size) ≤ 8
  pub source : length (bits_of values taps.source) ≤ 16
  pub data_bits : length (bits_of values taps.data) ≡ 8 * bus
  pub denied : length (bits_of values taps.denied) ≤ 1
  pub corrupt : length (bits_of values taps.corrupt) ≤ 1

-- the same of a beat of either channel.
abbrev pub BeatFits : ℕ → BeatTaps → List (List ℕ) → Type 0
BeatFits bus (A taps) values = AskFits bus values taps
BeatFits bus (D taps) values = ReplyFits bus values taps
