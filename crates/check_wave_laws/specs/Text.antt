-- Whole texts of rows, and the dumps whose rows they are. It is this project's own.
use Rattle.std.specs.Prelude.{◌≡◌, ◌⊎◌, ℕ, ◌+◌, ◌-◌, ◌*◌, ◌^◌, ◌≤◌, ◌<◌, Bool, true, ⊤, List, [], ◌∷◌, ◌++◌, get_or, length, map, Some, Contains, IfSome}
use Rattle.check_vcd.specs.Body.{Find, Happens, At, Sets, Resumes, Wrong}
use Rattle.check_vcd.specs.declared.codes.Coded.{Coded}
use Rattle.check_beats.specs.declared.bus.Bus.{Bus}
use Rattle.check_rows.specs.Buses.{IsLinkOf, bus_of_link}
use Rattle.check_rows.specs.Row.{SeenRow}
use Rattle.check_samples.specs.Rows.{crosses}
use Rattle.check_samples.specs.Sampling.{Sampling}
use Rattle.check_samples.specs.declared.channel.AskTaps.{AskTaps}
use Rattle.check_samples.specs.declared.channel.BeatTaps.{BeatTaps}
use Rattle.check_samples.specs.declared.channel.BeatTaps.TheVariants.{A, D}
use Rattle.check_samples.specs.declared.channel.Channel.{Channel}
use Rattle.check_samples.specs.declared.channel.ReplyTaps.{ReplyTaps}
use Rattle.check_samples.specs.declared.tap.Tap.{Tap}
use Rattle.check_wave_laws.specs.Rows.{IsRow}
use Rattle.check_due.specs.Rows.{reset_on_line}
use Rattle.check_wave_laws.specs.Seen.{row_of_channel}

-- ---- rows of beats and of resets

-- the row is that of a beat which crosses at one of the channels, in some values of the signals; the masters' links and
-- the ports' have these buses
pub record IsBeat (masters ports : List Bus) (channels : List Channel) (row : SeenRow) : Type 0 where
  pub values : List (List ℕ)
  pub which : Channel
  pub one : Contains channels which
  pub crossed : crosses values which ≡ true
  pub is : row ≡ row_of_channel masters ports row.line row.time values which

-- the row is that of a reset of the whole system, and resets are told
pub record IsToldReset (told : Bool) (row : SeenRow) : Type 0 where
  pub are_told : told ≡ true
  pub is : row ≡ reset_on_line row.line row.time

-- the row is that of a beat or of a reset, and stands on this line
pub record Stands (masters ports : List Bus) (channels : List Channel) (told : Bool) (line : ℕ) (row : SeenRow) : Type 0 where
  pub place : row.line ≡ line
  pub is : IsBeat masters ports channels row ⊎ IsToldReset told row

-- a text is rows of beats and, if resets are told, of resets, one to a line, of which the first stands on this line
abbrev pub AreRows : List Bus → List Bus → List Channel → Bool → ℕ → List SeenRow → List ℕ → Type 0
AreRows masters ports channels told line [] text = text ≡ []
AreRows masters ports channels told line (row ∷ rows) text =
    Stands masters ports channels told line row
    × ((front : List ℕ) × (rest : List ℕ) × (text ≡ front ++ rest) × IsRow masters ports row front
    × AreRows masters ports channels told (line + 1) rows rest)

-- a text is such rows, of which the first stands on this line.
pub record HasRows (masters ports : List Bus) (channels : List Channel) (told : Bool) (line : ℕ)
    (text : List ℕ) : Type 0 where
  pub rows : List SeenRow
  pub are : AreRows masters ports channels told line rows text

-- ---- the bits of signals, by how many bits the kept values have

-- a tap takes so many bits of a value that has them
pub record TakesBeat (widths : List ℕ) (tap : Tap) (count : ℕ) : Type 0 where
  pub from : tap.from ≤ tap.to
  pub inside : tap.to ≤ get_or widths tap.slot 0
  pub bits : tap.to - tap.from ≡ count

-- no signal of channel A takes more bits than its column has room for; a mask takes a bit for each byte of the bus, and
-- data takes eight.
pub record AskTakes (bus : ℕ) (widths : List ℕ) (taps : AskTaps) : Type 0 where
  pub opcode : taps.opcode.to - taps.opcode.from ≤ 8
  pub param : taps.param.to - taps.param.from ≤ 8
  pub size : taps.size.to - taps.size.from ≤ 8
  pub source : taps.source.to - taps.source.from ≤ 16
  pub mask : TakesBeat widths taps.mask bus
  pub lanes : TakesBeat widths taps.data (8 * bus)
  pub corrupt : taps.corrupt.to - taps.corrupt.from ≤ 1

-- the same of channel D, which has no mask.
pub record ReplyTakes (bus : ℕ) (widths : List ℕ) (taps : ReplyTaps) : Type 0 where
  pub opcode : taps.opcode.to - taps.opcode.from ≤ 8
  pub param : taps.param.to - taps.param.from ≤ 8
  pub size : taps.size.to - taps.size.from ≤ 8
  pub source : taps.source.to - taps.source.from ≤ 16
  pub lanes : TakesBeat widths taps.data (8 * bus)
  pub denied : taps.denied.to - taps.denied.from ≤ 1
  pub corrupt : taps.corrupt.to - taps.corrupt.from ≤ 1

-- the same of a beat of either channel.
abbrev pub BeatTakes : ℕ → List ℕ → BeatTaps → Type 0
BeatTakes bus widths (A taps) = AskTakes bus widths taps
BeatTakes bus widths (D taps) = ReplyTakes bus widths taps

-- a part of a value lies within the value, which has so many bits.
pub record LiesWithin (widths : List ℕ) (part : Tap) : Type 0 where
  pub from : part.from ≤ part.to
  pub inside : part.to ≤ get_or widths part.slot 0

-- each of these parts lies within its value.
abbrev pub AllLieWithin : List ℕ → List Tap → Type 0
AllLieWithin widths [] = ⊤
AllLieWithin widths (part ∷ parts) = LiesWithin widths part × AllLieWithin widths parts

-- how many bits parts have together.
abbrev pub taps_bits : List Tap → ℕ
taps_bits [] = 0
taps_bits (part ∷ parts) = (part.to - part.from) + taps_bits parts

-- how many bits values have, and behind them what is put together of these parts
abbrev pub with_joined_width : List Tap → List ℕ → List ℕ
with_joined_width parts widths = widths ++ (taps_bits parts ∷ [])

-- a channel of a link that the system has, whose signals have no more bits than their columns have room for
pub record ChannelFits (masters ports : List Bus) (widths : List ℕ) (which : Channel) : Type 0 where
  pub link : IsLinkOf masters ports which.link
  pub taps : BeatTakes (bus_of_link masters ports which.link) widths which.beat

-- the values of a sampler have their widths, its time is one that a number can be, what it puts together lies within its
-- values, and its channels fit
pub record SamplingFits (masters ports : List Bus) (s : Sampling) : Type 0 where
  pub before : IfSome s.time (λ time. map length s.before ≡ with_joined_width s.joins s.widths)
  pub now : map length s.now ≡ s.widths
  pub time : IfSome s.time (λ time. time < 2 ^ 64)
  pub joins : AllLieWithin s.widths s.joins
  pub channels : (which : Channel) → Contains s.channels which
      → ChannelFits masters ports (with_joined_width s.joins s.widths) which

-- ---- dumps

-- no value that changes has more digits than its slot, and each time is one that a number can be
abbrev pub HappensFit : List ℕ → List Happens → Type 0
HappensFit widths [] = ⊤
HappensFit widths (At time ∷ happens) = (time < 2 ^ 64) × HappensFit widths happens
HappensFit widths (Sets slot digits ∷ happens) = (length digits ≤ get_or widths slot 0) × HappensFit widths happens
HappensFit widths (Resumes line ∷ happens) = HappensFit widths happens
HappensFit widths (Wrong line mistake ∷ happens) = ⊤

-- no identifier that is kept has more bits than its slot
abbrev pub FindFits : List ℕ → Find → Type 0
FindFits widths find =
    (code : List ℕ) (coded : Coded) (slot : ℕ) → find code ≡ Some coded → coded.slot ≡ Some slot
    → coded.width ≤ get_or widths slot 0
